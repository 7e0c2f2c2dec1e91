-- A table as the list of its records, by rising number.
use Rattle.std.specs.Prelude.{◌<◌, ◌==◌, nat_lt, not, Bool, true, if◌then◌else◌, ⊤, List, [], ◌∷◌, Option, None, Some, map, filter, find}
use Rattle.std.specs.List.{AllByRecursion, list_any}
use Rattle.std.specs.Ordering.{is_eq}
use Rattle.std.specs.declared.cmp.Ordering.{Ordering}
use Rattle.std.specs.declared.cmp.Ordering.TheVariants.{Greater}
use Rattle.nv_base.specs.declared.object.ObjId.{ObjId}

-- the records of entries by number
abbrev pub unkeyed : {R : Type 0} → List (ObjId × R) → List R
unkeyed entries = map (λ e. e.1) entries

-- whether a number is above the one given, where one is given
abbrev pub is_after : Option ObjId → ObjId → Bool
is_after None n = true
is_after (Some low) n = nat_lt low.0 n.0

-- how the tag at a place compares with another one
abbrev pub order_at : {T : Type 0} → (T → T → Ordering) → Option T → T → Ordering
order_at cmp None tag = Greater
order_at cmp (Some own) tag = cmp own tag

-- whether a probe is equal to a tag of the record
abbrev pub has_tag : {R T : Type 0} → (R → List T) → (T → Ordering) → R → Bool
has_tag tags order r = list_any (λ tag. is_eq (order tag)) (tags r)

module _ {R : Type 0} (number : R → ObjId) where
  -- whether this is the record's number
  abbrev pub has_number : ObjId → R → Bool
  has_number n r = n.0 == (number r).0

  -- the numbers rise, so that no two records have one
  abbrev pub NumbersRise : List R → Type 0
  NumbersRise [] = ⊤
  NumbersRise (r ∷ records) = AllByRecursion (λ x. (number r).0 < (number x).0) records × NumbersRise records

  -- the record of a number
  abbrev pub record_of : ObjId → List R → Option R
  record_of n records = find (has_number n) records

  -- the record of the least number above the one given, or of all
  abbrev pub record_after : Option ObjId → List R → Option R
  record_after after records = find (λ r. is_after after (number r)) records

  -- with a record more, at its place
  abbrev pub with_record : R → List R → List R
  with_record r [] = r ∷ []
  with_record r (x ∷ records) = if nat_lt (number r).0 (number x).0 then r ∷ x ∷ records else x ∷ with_record r records

  -- without the record of a number
  abbrev pub without_number : ObjId → List R → List R
  without_number n records = filter (λ r. not (has_number n r)) records

  -- with a record in place of that of its number
  abbrev pub with_exchanged : R → List R → List R
  with_exchanged r records = with_record r (without_number (number r) records)
