use Rattle.std.proofs.Common.{[], ◌∷◌}
use Rattle.cube_core.specs.Limit.{meets}
use Rattle.cube_core.proofs.Loops.{Filled}
use Rattle.cube_core.proofs.join.add_meets.Given as goal

abbrev pub invariant-loop-other : goal.invariant-loop-other
invariant-loop-other l = Filled (λ other. meets (other ∷ []) l.cube) l.others l.fn.list l.list l.other-index
