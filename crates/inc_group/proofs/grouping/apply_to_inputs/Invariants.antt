use Rattle.nv_map.specs.Map.{KeysRise}
use Rattle.inc_table.specs.Delta.{IsApplied}
use Rattle.inc_group.specs.inner.Moves.{IsMoved}
use Rattle.inc_group.proofs.grouping.apply_to_inputs.Given as goal

-- The inputs have the changes so far applied, and the moves lead there.
abbrev pub invariant-loop-key : goal.invariant-loop-key
invariant-loop-key g l = record {
  inputs : IsApplied g.G.Key.Ord.cmp l.yielded l.fn.inputs l.inputs;
  rise : KeysRise g.G.Key.Ord.cmp l.inputs;
  moved : IsMoved g.G.Key.Ord.cmp g.G.Group.Ord.cmp g.G.Groups.groups_of l.fn.inputs l.inputs l.moves;
}
