use Rattle.std.proofs.Common.{◌≡◌, map, take}
use Rattle.nv_base.specs.declared.object.ObjId.{ObjId}
use Rattle.cube_core.specs.Cubes.{whole_number}
use Rattle.cube_core.proofs.items.numbers_of_ports.Given as goal

abbrev pub invariant-loop-port : goal.invariant-loop-port
invariant-loop-port l = l.numbers ≡ map (λ (port : ObjId). whole_number port.0) (take l.port-index l.ports)
