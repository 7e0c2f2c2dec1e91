use Rattle.std.proofs.Common.{take}
use Rattle.inc_first.specs.inner.Marks.{IsMarkedAt, IsTouched}
use Rattle.inc_first.proofs.firsts.mark.Given as goal

-- the mark is changed in the groups so far, and they are touched
abbrev pub invariant-loop-group : goal.invariant-loop-group
invariant-loop-group g l = record {
  marked : IsMarkedAt g.K.Ord.cmp g.A.Ord.cmp (take l.group-index l.groups) (l.key, l.change) l.fn.marks l.marks;
  touched : IsTouched g.A.Ord.cmp (take l.group-index l.groups) l.fn.touched l.touched;
}
