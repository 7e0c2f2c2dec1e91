use Rattle.cube_core.specs.Cubes.{names_of, item_cubes}
use Rattle.cube_core.proofs.Loops.{Joining}
use Rattle.cube_core.proofs.items.joined_items.Given as goal

abbrev pub invariant-loop-item : goal.invariant-loop-item
invariant-loop-item g l = Joining l.is_and (item_cubes (names_of (g.E.Env.lookup l.env) (g.E.SetMembers.members l.env)) l.field l.bits l.rel) l.items l.sofar l.item-index
