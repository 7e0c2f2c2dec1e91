-- The records of a table by number, and the index of its tags.
use Rattle.std.specs.Prelude.{◌≡◌, ℕ, ◌^◌, ◌<◌, ◌&&◌, ◌||◌, not, Bool, true, false, List, map, length, sum_by, is_some, slice_get}
use Rattle.std.specs.List.{AllByRecursion, list_any}
use Rattle.std.specs.Ordering.{is_eq, ordering_then, nat_cmp}
use Rattle.std.specs.declared.cmp.Ordering.{Ordering}
use Rattle.nv_base.specs.declared.object.ObjId.{ObjId}
use Rattle.nv_map.specs.Map.{KeysRise, value_at}
use Rattle.nv_table.specs.Table.{unkeyed, NumbersRise, has_number, has_tag, order_at}

-- a tag, and the number of a record that has it
abbrev pub Mark : Type 0 → Type 0
Mark T = T × ObjId

-- the order of numbers, and that of marks: by tag, then by number
abbrev pub number_cmp : ObjId → ObjId → Ordering
number_cmp a b = nat_cmp a.0 b.0

abbrev pub mark_cmp : {T : Type 0} → (T → T → Ordering) → Mark T → Mark T → Ordering
mark_cmp cmp a b = ordering_then (cmp a.0 b.0) (number_cmp a.1 b.1)

-- whether the index has a mark
abbrev pub has_mark : {T : Type 0} → (T → T → Ordering) → Mark T → List (Mark T × Unit {0}) → Bool
has_mark cmp mark index = is_some (value_at (mark_cmp cmp) mark index)

module _ {T : Type 0} (cmp : T → T → Ordering) (test : Mark T → Bool) where
  -- the marks that pass are there, and no others
  abbrev pub HasMarks : List (Mark T × Unit {0}) → Type 0
  HasMarks marks = (mark : Mark T) → has_mark cmp mark marks ≡ test mark

  -- those that pass are gone, and the others are still there
  abbrev pub IsLeft : List (Mark T × Unit {0}) → List (Mark T × Unit {0}) → Type 0
  IsLeft old new = (mark : Mark T) → has_mark cmp mark new ≡ (has_mark cmp mark old && not (test mark))

  -- those that pass have come from there
  abbrev pub IsMoved : List (Mark T × Unit {0}) → List (Mark T × Unit {0}) → List (Mark T × Unit {0}) → Type 0
  IsMoved from old new = (mark : Mark T) → has_mark cmp mark new ≡ (has_mark cmp mark old || (has_mark cmp mark from && test mark))

-- no mark is in both
abbrev pub AreApart : {T : Type 0} → (T → T → Ordering) → List (Mark T × Unit {0}) → List (Mark T × Unit {0}) → Type 0
AreApart cmp a b = (mark : Mark _) → has_mark cmp mark a ≡ true → has_mark cmp mark b ≡ false

-- the entries that records have by their numbers
abbrev pub keyed : {R : Type 0} → (R → ObjId) → List R → List (ObjId × R)
keyed number records = map (λ r. (number r, r)) records

module _ {R T : Type 0} (number : R → ObjId) (tags : R → List T) (cmp : T → T → Ordering) where
  -- whether this is a mark of the record
  abbrev pub is_mark_of : R → Mark T → Bool
  is_mark_of r mark = has_number number mark.1 r && has_tag tags (cmp mark.0) r

  -- whether it is one of some record
  abbrev pub is_mark : List R → Mark T → Bool
  is_mark records mark = list_any (λ r. is_mark_of r mark) records

  -- the marks of one record, by their order
  pub record IsLoose (entry : ObjId × R) (marks : List (Mark T × Unit {0})) : Type 0 where
    pub numbered : entry.0 ≡ number entry.1
    pub bounded : (number entry.1).0 < 2 ^ 32
    pub marks_rise : KeysRise (mark_cmp cmp) marks
    pub marked : HasMarks cmp (is_mark_of entry.1) marks

  -- whether this is the mark of a record by its tag at a place
  abbrev pub is_own_mark : R → ℕ → Mark T → Bool
  is_own_mark r place mark = is_eq (ordering_then (order_at cmp (slice_get (tags r) place) mark.0) (number_cmp (number r) mark.1))

  -- the mark of a record by its tag at a place, where it has that tag more than another record
  pub record IsLean (r : R) (place : ℕ) (is_longer : Bool) (marks : List (Mark T × Unit {0})) : Type 0 where
    pub marks_rise : KeysRise (mark_cmp cmp) marks
    pub marked : HasMarks cmp (λ mark. is_longer && is_own_mark r place mark) marks

  -- the records by number, and the index of their marks
  pub record IsIndexed (entries : List (ObjId × R)) (index : List (Mark T × Unit {0})) : Type 0 where
    pub numbered : entries ≡ keyed number (unkeyed entries)
    pub rise : NumbersRise number (unkeyed entries)
    pub marks_rise : KeysRise (mark_cmp cmp) index
    pub marked : HasMarks cmp (is_mark (unkeyed entries)) index

module _ {R : Type 0} (number : R → ObjId) (weight : R → ℕ × ℕ) where
  -- numbers and weights that the machine's numbers can tell
  abbrev pub Fits : R → Type 0
  Fits r = ((number r).0 < 2 ^ 32) × ((weight r).0 < 2 ^ 64) × ((weight r).1 < 2 ^ 64)

  -- how many records there are, and the sums of their weights
  pub record IsCounted (records : List R) (count : ℕ) (sums : ℕ × ℕ) : Type 0 where
    pub fit : AllByRecursion Fits records
    pub counted : count ≡ length records
    pub first : sums.0 ≡ sum_by (λ r. (weight r).0) records
    pub second : sums.1 ≡ sum_by (λ r. (weight r).1) records
