use Rattle.std.proofs.Common.{arith}
use Rattle.nv_table.proofs.Moves.{left_first, moved_first, apart_on, left_more, moved_more, left_last, moved_last}
use Rattle.nv_table.proofs.marks.move_marks.Goals as goal

pub loop-place-init : goal.loop-place-init
loop-place-init g c = record {
  from_rise = c.requires.from;
  to_rise = c.requires.to;
  left = left_first g.met.R.Tag.Ord.total (g.R.Record.tags c.args.record.now) _ _;
  moved = moved_first g.met.R.Tag.Ord.total (g.R.Record.tags c.args.record.now) _ _ _;
}

pub move_mark-requires-clause-from : goal.move_mark-requires-clause-from
move_mark-requires-clause-from g c = c.loop-place.invariant.from_rise

pub move_mark-requires-clause-to : goal.move_mark-requires-clause-to
move_mark-requires-clause-to g c = c.loop-place.invariant.to_rise

pub move_mark-requires-clause-apart : goal.move_mark-requires-clause-apart
move_mark-requires-clause-apart g c = apart_on g.met.R.Tag.Ord.total _ _ _ _ _ _ _ c.requires.apart c.loop-place.invariant.left c.loop-place.invariant.moved

pub loop-place-preserved : goal.loop-place-preserved
loop-place-preserved g c = record {
  from_rise = c.move_mark.ensures.from_rise;
  to_rise = c.move_mark.ensures.to_rise;
  left = left_more g.met.R.Tag.Ord.total _ _ _ (omega (arith)) _ _ _ c.loop-place.invariant.left c.move_mark.ensures.left;
  moved = moved_more g.met.R.Tag.Ord.total _ _ _ (omega arith) _ _ _ _ _ c.loop-place.invariant.left c.loop-place.invariant.moved c.move_mark.ensures.moved;
}

pub returns-clause-from_rise : goal.returns-clause-from_rise
returns-clause-from_rise g c = c.loop-place.invariant.from_rise

pub returns-clause-to_rise : goal.returns-clause-to_rise
returns-clause-to_rise g c = c.loop-place.invariant.to_rise

pub returns-clause-left : goal.returns-clause-left
returns-clause-left g c = left_last g.met.R.Tag.Ord.total _ _ _ (omega arith) _ _ c.loop-place.invariant.left

pub returns-clause-moved : goal.returns-clause-moved
returns-clause-moved g c = moved_last g.met.R.Tag.Ord.total _ _ _ (omega arith) _ _ _ c.loop-place.invariant.moved
