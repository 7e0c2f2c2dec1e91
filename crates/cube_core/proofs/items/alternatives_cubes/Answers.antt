use Rattle.std.proofs.Common.{ap, map, ◌∙◌}
use Rattle.std.proofs.lemmas.List.{take_all}
use Rattle.cube_core.specs.Cubes.{test_cube}
use Rattle.cube_core.proofs.items.alternatives_cubes.Goals as goal

pub returns : goal.returns
returns c = c.loop-test.invariant ∙ ap (map test_cube) (take_all c.loop-test.test-index c.args.tests.now c.loop-test-test.false)
