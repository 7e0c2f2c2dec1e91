-- Entries that are gone through by rising key.
use Rattle.std.specs.Prelude.{◌≡◌, ℕ, Bool, false, List, [], ◌∷◌, Option, None, Some, if◌then◌else◌}
use Rattle.std.specs.Borrow.{Bor}
use Rattle.std.specs.List.{AllByRecursion}
use Rattle.std.specs.Map.{keys_of}
use Rattle.std.specs.Map.Iter.{deref_pair}
use Rattle.std.specs.Ordering.{is_gt}
use Rattle.std.specs.declared.cmp.Ordering.{Ordering}
use Rattle.std.specs.declared.cmp.Ordering.TheVariants.{Less}
use Rattle.inc_table.specs.Maker.{one_more}

-- whether this value is there
abbrev pub is_there : {V : Type 0} → (V → V → Bool) → Option V → V → Bool
is_there eq None value = false
is_there eq (Some old) value = eq old value

-- the count after an output is made of an input, where there is one
abbrev pub made_one : {V : Type 0} → Option V → ℕ → ℕ
made_one None made = made
made_one (Some input) made = one_more made

-- the entry of a key, where it has a value
abbrev pub entry_list : {K V : Type 0} → K → Option V → List (K × V)
entry_list key None = []
entry_list key (Some value) = (key, value) ∷ []

-- the entry at hand, and those after it; with none at hand there are none
abbrev pub entries_ahead : {K V : Type 0} → Option (Bor K × Bor V) → List (K × V) → List (K × V)
entries_ahead None rest = []
entries_ahead (Some entry) rest = deref_pair entry ∷ rest

-- the key of the first entry
abbrev pub first_key : {K V : Type 0} → List (K × V) → Option K
first_key [] = None
first_key (entry ∷ entries) = Some entry.0

module _ {K : Type 0} (cmp : K → K → Ordering) where
  -- the lesser of two keys, or the one that is there
  abbrev pub least : Option K → Option K → Option K
  least None other = other
  least (Some key) None = Some key
  least (Some key) (Some other) = if is_gt (cmp key other) then Some other else Some key

  -- the key is below each of these
  abbrev pub IsBelow : {V : Type 0} → K → List (K × V) → Type 0
  IsBelow key entries = AllByRecursion (λ other. cmp key other ≡ Less) (keys_of entries)

  -- the key is not above the first of these
  abbrev pub IsUpTo : {V : Type 0} → K → List (K × V) → Type 0
  IsUpTo key [] = Unit {0}
  IsUpTo key (entry ∷ entries) = is_gt (cmp key entry.0) ≡ false
