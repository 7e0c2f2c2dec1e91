use Rattle.std.proofs.Common.{[]}
use Rattle.cube_core.specs.Limit.{meets}
use Rattle.cube_core.proofs.Loops.{Filled}
use Rattle.cube_core.proofs.join.products.Given as goal

abbrev pub invariant-loop-one : goal.invariant-loop-one
invariant-loop-one l = Filled (meets l.others) l.ones [] l.list l.one-index
