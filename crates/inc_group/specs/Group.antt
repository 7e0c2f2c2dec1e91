-- Entries by the groups that they are in.
use Rattle.std.specs.Prelude.{◌≡◌, ◌&&◌, Bool, List, [], ◌∷◌, Option, None, Some, filter}
use Rattle.std.specs.Cmp.Lexicographic.{pointwise}
use Rattle.std.specs.List.{list_any}
use Rattle.std.specs.Ordering.{is_eq}
use Rattle.std.specs.declared.cmp.Ordering.{Ordering}
use Rattle.nv_map.specs.Map.{KeysRise, value_at}
use Rattle.inc_table.specs.declared.delta.Change.{Change}
use Rattle.inc_table.specs.declared.node.NodeState.{NodeState}
use Rattle.inc_table.specs.Delta.{IsApplied}

-- a node that groups: its inputs, its table, whether that is to be relied on, and what tells the groups
pub record Grouping (K V G N : Type 0) : Type 0 where
  pub inputs : List (K × V)
  pub table : List (G × List (K × V))
  pub state : NodeState
  pub groups : N

-- whether a group is among these
abbrev pub among : {G : Type 0} → (G → G → Ordering) → G → List G → Bool
among cmp group groups = list_any (λ other. is_eq (cmp group other)) groups

-- a list that is not empty
abbrev pub where_any : {A : Type 0} → List A → Option (List A)
where_any [] = None
where_any (x ∷ xs) = Some (x ∷ xs)

module _ {K V G : Type 0} (cmp : G → G → Ordering) (groups_of : K → V → List G) where
  -- the members of a group: the entries that are in it, by key
  abbrev pub members_of : G → List (K × V) → List (K × V)
  members_of group inputs = filter (λ e. among cmp group (groups_of e.0 e.1)) inputs

  -- the table has by rising group each group that has a member, with its members
  abbrev pub IsGrouped : List (K × V) → List (G × List (K × V)) → Type 0
  IsGrouped inputs table = KeysRise cmp table × ((group : G) → value_at cmp group table ≡ where_any (members_of group inputs))

-- whether two lists of members are equal, by the equality of keys and of values
abbrev pub same_members : {K V : Type 0} → (K → K → Bool) → (V → V → Bool) → List (K × V) → List (K × V) → Bool
same_members key value one other = pointwise (λ a b. key a.0 b.0 && value a.1 b.1) one other

module _ {K V G N : Type 0} (key_cmp : K → K → Ordering) (group_cmp : G → G → Ordering) (groups_of : K → V → List G) where
  -- a node that has taken these deltas, one after the other, each as a change of a fresh one is
  abbrev pub FollowsDeltas : List (List (K × Change V)) → Grouping K V G N → Grouping K V G N → Type 0
  FollowsDeltas [] old new = old ≡ new
  FollowsDeltas (delta ∷ deltas) old new = (next : Grouping K V G N) × IsApplied key_cmp delta old.inputs next.inputs × IsGrouped group_cmp groups_of next.inputs next.table × FollowsDeltas deltas next new
