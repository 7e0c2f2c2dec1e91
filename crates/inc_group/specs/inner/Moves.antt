-- What becomes of keys in groups: at each group the changes of its members.
use Rattle.std.specs.Prelude.{◌≡◌, ◌&&◌, List, [], ◌∷◌, Option, None, Some, if◌then◌else◌}
use Rattle.std.specs.Ordering.{is_eq}
use Rattle.std.specs.declared.cmp.Ordering.{Ordering}
use Rattle.nv_map.specs.Map.{KeysRise, value_at}
use Rattle.inc_table.specs.declared.delta.Change.{Change}
use Rattle.inc_table.specs.Delta.{after_change}
use Rattle.inc_table.specs.Nested.{value_in}
use Rattle.inc_group.specs.Group.{among}

-- the entries, where there are any
abbrev pub entries_in : {A : Type 0} → Option (List A) → List A
entries_in None = []
entries_in (Some entries) = entries

-- the groups of what is at a key
abbrev pub groups_in : {K V G : Type 0} → (K → V → List G) → K → Option V → List G
groups_in groups_of key None = []
groups_in groups_of key (Some value) = groups_of key value

-- what a group has of what is at a key
abbrev pub member_in : {K V G : Type 0} → (G → G → Ordering) → (K → V → List G) → G → K → Option V → Option V
member_in cmp groups_of group key entry = if among cmp group (groups_in groups_of key entry) then entry else None

-- what is there at a group are members by rising key, at least one
abbrev pub IsWhole : {K V : Type 0} → (K → K → Ordering) → Option (List (K × V)) → Type 0
IsWhole cmp None = Unit {0}
IsWhole cmp (Some []) = ⊥
IsWhole cmp (Some (entry ∷ entries)) = KeysRise cmp (entry ∷ entries)

abbrev pub AreWhole : {K V G : Type 0} → (G → G → Ordering) → (K → K → Ordering) → List (G × List (K × V)) → Type 0
AreWhole {K} {V} {G} outer inner table = (group : G) → IsWhole inner (value_at outer group table)

-- at a key, in each of these groups, this change is told; all else is as it was
abbrev pub IsTold : {K V G : Type 0} → (K → K → Ordering) → (G → G → Ordering) → List G → K × Change V → List (G × List (K × Change V)) → List (G × List (K × Change V)) → Type 0
IsTold {K} {V} {G} inner outer groups change old new = (group : G) (key : K) → value_in outer inner group key new ≡ (if is_eq (inner change.0 key) && among outer group groups then Some change.1 else value_in outer inner group key old)

-- the moves lead from what each group has of the old inputs to what it has of the new ones
abbrev pub IsMoved : {K V G : Type 0} → (K → K → Ordering) → (G → G → Ordering) → (K → V → List G) → List (K × V) → List (K × V) → List (G × List (K × Change V)) → Type 0
IsMoved {K} {V} {G} inner outer groups_of old new moves = (group : G) (key : K) → member_in outer groups_of group key (value_at inner key new) ≡ after_change (value_in outer inner group key moves) (member_in outer groups_of group key (value_at inner key old))

-- the table after moves
abbrev pub IsRegrouped : {K V G : Type 0} → (G → G → Ordering) → (K → K → Ordering) → List (G × List (K × Change V)) → List (G × List (K × V)) → List (G × List (K × V)) → Type 0
IsRegrouped {K} {V} {G} outer inner moves old new = (group : G) (key : K) → value_in outer inner group key new ≡ after_change (value_in outer inner group key moves) (value_in outer inner group key old)
