use Rattle.std.proofs.Common.{[], ◌∷◌}
use Rattle.cube_core.proofs.Loops.{Filled}
use Rattle.cube_core.proofs.join.sums.Given as goal

abbrev pub invariant-loop-cube : goal.invariant-loop-cube
invariant-loop-cube l = Filled (λ cube. cube ∷ []) l.more l.fn.list l.list l.cube-index
