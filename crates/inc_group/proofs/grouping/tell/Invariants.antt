use Rattle.std.proofs.Common.{take}
use Rattle.inc_group.specs.inner.Moves.{IsTold}
use Rattle.inc_group.proofs.grouping.tell.Given as goal

-- the change is told in the groups so far
abbrev pub invariant-loop-group : goal.invariant-loop-group
invariant-loop-group g l = IsTold g.K.Ord.cmp g.A.Ord.cmp (take l.group-index l.groups) (l.key, l.change) l.fn.moves l.moves
