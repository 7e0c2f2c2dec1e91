-- The first members of groups.
use Rattle.std.specs.Prelude.{◌≡◌, List, [], ◌∷◌, Option}
use Rattle.std.specs.Option.{option_map}
use Rattle.std.specs.declared.cmp.Ordering.{Ordering}
use Rattle.nv_map.specs.Map.{KeysRise, first_entry, value_at}
use Rattle.inc_table.specs.declared.delta.Change.{Change}
use Rattle.inc_table.specs.declared.node.NodeState.{NodeState}
use Rattle.inc_table.specs.Delta.{IsApplied}
use Rattle.inc_group.specs.Group.{members_of}

-- a node that keeps first members: its inputs, its table, whether that is to be relied on, and what tells the groups
pub record Leading (K V G N : Type 0) : Type 0 where
  pub inputs : List (K × V)
  pub table : List (G × K)
  pub state : NodeState
  pub groups : N

module _ {K V G : Type 0} (cmp : G → G → Ordering) (groups_of : K → V → List G) where
  -- the first member of a group, where it has one: of inputs whose keys rise, the least key
  abbrev pub first_member : G → List (K × V) → Option K
  first_member group inputs = option_map (λ e. e.0) (first_entry (members_of cmp groups_of group inputs))

  -- the table has by rising group each group that has a member, with its first member
  abbrev pub HasFirsts : List (K × V) → List (G × K) → Type 0
  HasFirsts inputs table = KeysRise cmp table × ((group : G) → value_at cmp group table ≡ first_member group inputs)

module _ {K V G N : Type 0} (key_cmp : K → K → Ordering) (group_cmp : G → G → Ordering) (groups_of : K → V → List G) where
  -- a node that has taken these deltas, one after the other, each as a change of a fresh one is
  abbrev pub LeadsAfter : List (List (K × Change V)) → Leading K V G N → Leading K V G N → Type 0
  LeadsAfter [] old new = old ≡ new
  LeadsAfter (delta ∷ deltas) old new = (next : Leading K V G N) × IsApplied key_cmp delta old.inputs next.inputs × HasFirsts group_cmp groups_of next.inputs next.table × LeadsAfter deltas next new
