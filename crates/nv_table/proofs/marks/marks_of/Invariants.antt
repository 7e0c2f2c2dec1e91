use Rattle.nv_map.specs.Map.{KeysRise}
use Rattle.nv_table.specs.inner.Index.{mark_cmp, HasMarks}
use Rattle.nv_table.proofs.Moves.{mark_among}
use Rattle.nv_table.proofs.marks.marks_of.Given as goal

abbrev pub invariant-loop-tag : goal.invariant-loop-tag
invariant-loop-tag g l = record {
  rise : KeysRise (mark_cmp g.R.Tag.Ord.cmp) l.marks;
  made : HasMarks g.R.Tag.Ord.cmp (mark_among g.R.Tag.Ord.cmp l.number l.yielded) l.marks;
}
