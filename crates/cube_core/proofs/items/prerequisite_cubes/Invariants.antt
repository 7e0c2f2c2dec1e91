use Rattle.std.proofs.Common.{Some, true, map}
use Rattle.cube_core.specs.Cubes.{test_cube}
use Rattle.cube_core.proofs.Loops.{Joining}
use Rattle.cube_core.proofs.items.prerequisite_cubes.Given as goal

abbrev pub invariant-loop-tests : goal.invariant-loop-tests
invariant-loop-tests l = Joining true (λ alternatives. Some (map test_cube alternatives.now)) l.tests-items l.sofar l.tests-index
