use Rattle.std.proofs.Common.{map}
use Rattle.std.specs.Map.Iter.{deref_pair}
use Rattle.sb_rows.specs.inner.Told.{AreTold}
use Rattle.sb_rows.proofs.index.told_of.Given as goal

-- it is told of the rows so far
abbrev pub invariant-loop-place : goal.invariant-loop-place
invariant-loop-place l = AreTold l.told.items (map deref_pair l.yielded)
