use Rattle.cube_core.specs.Cubes.{test_cubes}
use Rattle.cube_core.proofs.Loops.{Joining}
use Rattle.cube_core.proofs.items.predicate_cubes.Given as goal

abbrev pub invariant-loop-test : goal.invariant-loop-test
invariant-loop-test l = Joining l.negated (test_cubes l.negated) l.test-items l.sofar l.test-index
