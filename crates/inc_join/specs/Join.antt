-- Entries joined to those that they name.
use Rattle.std.specs.Prelude.{◌≡◌, ◌&&◌, Bool, List, [], ◌∷◌, Option, map, option_and_then}
use Rattle.std.specs.Option.{option_eq}
use Rattle.std.specs.declared.cmp.Ordering.{Ordering}
use Rattle.nv_map.specs.Map.{value_at}
use Rattle.inc_table.specs.declared.delta.Change.{Change}
use Rattle.inc_table.specs.declared.node.NodeState.{NodeState}
use Rattle.inc_table.specs.Delta.{IsApplied}

-- a node that joins: its left and its right inputs, its table, whether that is to be relied on, and what links them
pub record Joining (K L Q R N : Type 0) : Type 0 where
  pub left : List (K × L)
  pub right : List (Q × R)
  pub table : List (K × (L × Option R))
  pub state : NodeState
  pub link : N

module _ {L Q R : Type 0} (cmp : Q → Q → Ordering) (link_of : L → Option Q) where
  -- a left value with the right value that it names, if that is there
  abbrev pub with_right : List (Q × R) → L → L × Option R
  with_right right left = (left, option_and_then (λ key. value_at cmp key right) (link_of left))

  -- each left key with its value, and with the right value that this names
  abbrev pub joined : {K : Type 0} → List (K × L) → List (Q × R) → List (K × (L × Option R))
  joined left right = map (λ e. (e.0, with_right right e.1)) left

-- whether two joined values are equal, by the equality of left values and of right ones
abbrev pub same_joined : {L R : Type 0} → (L → L → Bool) → (R → R → Bool) → L × Option R → L × Option R → Bool
same_joined left right a b = left a.0 b.0 && option_eq right a.1 b.1

-- the left entries of a table
abbrev pub lefts_of : {K L R : Type 0} → List (K × (L × Option R)) → List (K × L)
lefts_of table = map (λ e. (e.0, e.1.0)) table

-- a delta on one side: of left values, or of right ones
pub data SideDelta (K L Q R : Type 0) : Type 0 where
  OnLeft : List (K × Change L) → SideDelta K L Q R
  OnRight : List (Q × Change R) → SideDelta K L Q R

module _ {K L Q R N : Type 0} (left_cmp : K → K → Ordering) (right_cmp : Q → Q → Ordering) (link_of : L → Option Q) where
  -- the inputs after a delta on one side, and the table that of them
  abbrev pub FollowsSide : SideDelta K L Q R → Joining K L Q R N → Joining K L Q R N → Type 0
  FollowsSide (OnLeft delta) old new = IsApplied left_cmp delta old.left new.left × (new.right ≡ old.right) × (new.table ≡ joined right_cmp link_of new.left new.right)
  FollowsSide (OnRight delta) old new = (new.left ≡ old.left) × IsApplied right_cmp delta old.right new.right × (new.table ≡ joined right_cmp link_of new.left new.right)

  -- a node that has taken these deltas, one after the other, each as a change of a fresh one is
  abbrev pub FollowsSides : List (SideDelta K L Q R) → Joining K L Q R N → Joining K L Q R N → Type 0
  FollowsSides [] old new = old ≡ new
  FollowsSides (delta ∷ deltas) old new = (next : Joining K L Q R N) × FollowsSide delta old next × FollowsSides deltas next new

-- the deltas of the left, and those of the right
abbrev pub left_deltas : {K L Q R : Type 0} → List (SideDelta K L Q R) → List (List (K × Change L))
left_deltas [] = []
left_deltas (OnLeft delta ∷ deltas) = delta ∷ left_deltas deltas
left_deltas (OnRight delta ∷ deltas) = left_deltas deltas

abbrev pub right_deltas : {K L Q R : Type 0} → List (SideDelta K L Q R) → List (List (Q × Change R))
right_deltas [] = []
right_deltas (OnLeft delta ∷ deltas) = right_deltas deltas
right_deltas (OnRight delta ∷ deltas) = delta ∷ right_deltas deltas
