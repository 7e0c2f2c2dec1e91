-- Deltas: what changes at which keys of a list of entries whose keys rise.
use Rattle.std.specs.Prelude.{◌≡◌, Bool, not, true, false, List, [], ◌∷◌, Option, None, Some, map, if◌then◌else◌}
use Rattle.std.specs.List.{AllByRecursion, list_all}
use Rattle.std.specs.Map.{keys_of}
use Rattle.std.specs.declared.cmp.Ordering.{Ordering}
use Rattle.std.specs.declared.cmp.Ordering.TheVariants.{Less}
use Rattle.nv_map.specs.Map.{value_at}
use Rattle.inc_table.specs.declared.delta.Change.{Change}
use Rattle.inc_table.specs.declared.delta.Change.TheVariants.{Put, Gone}

-- what a change leaves at its key
abbrev pub left_by : {V : Type 0} → Change V → Option V
left_by (Put value) = Some value
left_by Gone = None

-- the change that leaves this at its key
abbrev pub change_to : {V : Type 0} → Option V → Change V
change_to None = Gone
change_to (Some value) = Put value

-- what is at a key after its change, or with none
abbrev pub after_change : {V : Type 0} → Option (Change V) → Option V → Option V
after_change None old = old
after_change (Some change) old = left_by change

-- what changed at a key, where anything did
abbrev pub change_between : {V : Type 0} → (V → V → Bool) → Option V → Option V → Option (Change V)
change_between eq None None = None
change_between eq None (Some new) = Some (Put new)
change_between eq (Some old) None = Some Gone
change_between eq (Some old) (Some new) = if eq old new then None else Some (Put new)

-- whether a change changes anything: what is put is not there yet, and what goes is there
abbrev pub alters : {V : Type 0} → (V → V → Bool) → Change V → Option V → Bool
alters eq (Put value) None = true
alters eq (Put value) (Some old) = not (eq old value)
alters eq Gone None = false
alters eq Gone (Some old) = true

module _ {K V : Type 0} (cmp : K → K → Ordering) where
  -- the key is above each of these
  abbrev pub IsAbove : K → List (K × V) → Type 0
  IsAbove key entries = AllByRecursion (λ other. cmp other key ≡ Less) (keys_of entries)

  -- the entries after a delta: at each key what its change leaves, or what was there
  abbrev pub IsApplied : List (K × Change V) → List (K × V) → List (K × V) → Type 0
  IsApplied delta old new = (key : K) → value_at cmp key new ≡ after_change (value_at cmp key delta) (value_at cmp key old)

  -- whether each change of a delta changes something of these entries
  abbrev pub alters_each : (V → V → Bool) → List (K × Change V) → List (K × V) → Bool
  alters_each eq delta entries = list_all (λ change. alters eq change.1 (value_at cmp change.0 entries)) delta

  -- the delta tells what changed at each key, and nothing else
  abbrev pub IsDifference : (V → V → Bool) → List (K × V) → List (K × V) → List (K × Change V) → Type 0
  IsDifference eq old new delta = (key : K) → value_at cmp key delta ≡ change_between eq (value_at cmp key old) (value_at cmp key new)

-- what a delta tells of a key, where anything changed there
abbrev pub told_at : {K V : Type 0} → K → Option (Change V) → List (K × Change V)
told_at key None = []
told_at key (Some change) = (key, change) ∷ []

-- the delta that puts all of these
abbrev pub puts_of : {K V : Type 0} → List (K × V) → List (K × Change V)
puts_of entries = map (λ e. (e.0, Put e.1)) entries

-- the value at a key after these deltas, one after the other
abbrev pub after_all : {K V : Type 0} → (K → K → Ordering) → K → List (List (K × Change V)) → Option V → Option V
after_all cmp key [] old = old
after_all cmp key (delta ∷ deltas) old = after_all cmp key deltas (after_change (value_at cmp key delta) old)
