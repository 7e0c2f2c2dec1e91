-- Which ports take packets whose destination is unknown.
use Rattle.std.specs.Prelude.{◌&&◌, Bool, List}
use Rattle.nv_base.specs.declared.object.ObjId.{ObjId}
use Rattle.nb_records.specs.declared.switch.Port.{Port}
use Rattle.nb_model.specs.Network.{Network}
use Rattle.nb_model.specs.Ports.{takes_unknown}
use Rattle.nd_owners.specs.Owners.{with_owners}

-- an enabled port with the address `unknown`
abbrev pub is_for_unknown : Port → Bool
is_for_unknown port = port.enabled && takes_unknown port

-- these ports, each with its switch
abbrev pub unknown_ports : Network → List (ObjId × ObjId)
unknown_ports net = with_owners (λ port. port.id) (λ port. port.switch) is_for_unknown net.ports
