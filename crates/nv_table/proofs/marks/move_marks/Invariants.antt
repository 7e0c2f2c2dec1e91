use Rattle.nv_map.specs.Map.{KeysRise}
use Rattle.nv_table.specs.inner.Index.{mark_cmp, IsLeft, IsMoved}
use Rattle.nv_table.proofs.Moves.{early_mark}
use Rattle.nv_table.proofs.marks.move_marks.Given as goal

abbrev pub invariant-loop-place : goal.invariant-loop-place
invariant-loop-place g l = record {
  from_rise : KeysRise (mark_cmp g.R.Tag.Ord.cmp) l.from;
  to_rise : KeysRise (mark_cmp g.R.Tag.Ord.cmp) l.to;
  left : IsLeft g.R.Tag.Ord.cmp (early_mark g.R.Tag.Ord.cmp (g.R.Record.tags l.«record») (g.R.Record.number l.«record») l.place) l.fn.from l.from;
  moved : IsMoved g.R.Tag.Ord.cmp (early_mark g.R.Tag.Ord.cmp (g.R.Record.tags l.«record») (g.R.Record.number l.«record») l.place) l.fn.from l.fn.to l.to;
}
