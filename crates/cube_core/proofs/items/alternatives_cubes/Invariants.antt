use Rattle.std.proofs.Common.{◌≡◌, map, take}
use Rattle.cube_core.specs.Cubes.{test_cube}
use Rattle.cube_core.proofs.items.alternatives_cubes.Given as goal

abbrev pub invariant-loop-test : goal.invariant-loop-test
invariant-loop-test l = l.cubes ≡ map test_cube (take l.test-index l.tests)
