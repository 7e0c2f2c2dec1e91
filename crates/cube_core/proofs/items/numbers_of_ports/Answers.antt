use Rattle.std.proofs.Common.{ap, map, ◌∙◌}
use Rattle.std.proofs.lemmas.List.{take_all}
use Rattle.nv_base.specs.declared.object.ObjId.{ObjId}
use Rattle.cube_core.specs.Cubes.{whole_number}
use Rattle.cube_core.proofs.items.numbers_of_ports.Goals as goal

pub returns : goal.returns
returns c = c.loop-port.invariant ∙ ap (map (λ (port : ObjId). whole_number port.0)) (take_all c.loop-port.port-index c.args.ports.now c.loop-port-test.false)
