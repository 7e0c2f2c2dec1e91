use Rattle.nv_map.specs.Map.{KeysRise}
use Rattle.inc_table.specs.Delta.{IsApplied}
use Rattle.inc_first.specs.inner.Marks.{AreMarked, KeepsOthers}
use Rattle.inc_first.proofs.firsts.apply_to_inputs.Given as goal

-- The inputs have the changes so far applied, the marks are theirs, and groups that are not touched have the marks that they had.
abbrev pub invariant-loop-key : goal.invariant-loop-key
invariant-loop-key g l = record {
  inputs : IsApplied g.G.Key.Ord.cmp l.yielded l.fn.inputs l.inputs;
  rise : KeysRise g.G.Key.Ord.cmp l.inputs;
  marked : AreMarked g.G.Key.Ord.cmp g.G.Group.Ord.cmp g.G.Groups.groups_of l.inputs l.marks;
  others : KeepsOthers g.G.Key.Ord.cmp g.G.Group.Ord.cmp l.touched l.fn.marks l.marks;
}
