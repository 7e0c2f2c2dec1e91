-- A record in place of another of its number that has one tag more, or one less.
use Rattle.std.specs.Prelude.{◌≡◌, ℕ, ◌<◌, ◌||◌, not, Bool, true, false, if◌then◌else◌, List, length, Option, None, Some, slice_get}
use Rattle.std.specs.Ordering.{is_eq}
use Rattle.std.specs.declared.cmp.Ordering.{Ordering}
use Rattle.nv_base.specs.declared.object.ObjId.{ObjId}
use Rattle.nv_table.specs.Table.{order_at, has_tag, record_of, with_exchanged}

-- a record has the tags of another one, and one more, which the other has not, at a place
pub record IsLonger {R T : Type 0} (tags : R → List T) (cmp : T → T → Ordering) (long short : R) (place : ℕ) : Type 0 where
  pub within : place < length (tags long)
  pub more : (tag : T) → has_tag tags (cmp tag) long ≡ (is_eq (order_at cmp (slice_get (tags long) place) tag) || has_tag tags (cmp tag) short)
  pub apart : (tag : T) → is_eq (order_at cmp (slice_get (tags long) place) tag) ≡ true → has_tag tags (cmp tag) short ≡ false

-- a record, the place of a tag, and whether the record has it more, or the other one has
abbrev pub Swap : Type 0 → Type 0
Swap R = R × ℕ × Bool

module _ {R : Type 0} (is_longer : R → R → ℕ → Bool) where
  -- whether that is how it differs from another record
  abbrev pub differs : Swap R → R → Bool
  differs swap other = if swap.2 then is_longer swap.0 other swap.1 else is_longer other swap.0 swap.1

  -- whether it differs so from the record that is there
  abbrev pub differs_from : Swap R → Option R → Bool
  differs_from swap None = false
  differs_from swap (Some other) = differs swap other

  -- what swaps back, where it differs so from the record that is there
  abbrev pub swapped_out : Swap R → Option R → Option (Swap R)
  swapped_out swap None = None
  swapped_out swap (Some other) = if differs swap other then Some (other, swap.1, not swap.2) else None

module _ {R : Type 0} (number : R → ObjId) (is_longer : R → R → ℕ → Bool) where
  -- whether it differs so from the one of its number
  abbrev pub fits : Swap R → List R → Bool
  fits swap records = differs_from is_longer swap (record_of number (number swap.0) records)

  -- with it in place of the one of its number, where it differs so from that one
  abbrev pub with_swapped : Swap R → List R → List R
  with_swapped swap records = if fits swap records then with_exchanged number swap.0 records else records
