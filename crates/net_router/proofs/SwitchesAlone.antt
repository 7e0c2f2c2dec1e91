-- Where there are no router ports, nothing is done but by switches.
use Rattle.std.proofs.Common.{◌≡◌, [], Option, Some, None, refl, ap, ◌∙◌}
use Rattle.std.specs.Prelude.{find, option_map}
use Rattle.nv_base.specs.declared.object.ObjId.{ObjId}
use Rattle.pkt_core.specs.Packet.{Values}
use Rattle.ct_core.specs.State.{State}
use Rattle.nb_records.specs.declared.router.RouterPort.{RouterPort}
use Rattle.nb_records.specs.declared.switch.Port.{Port}
use Rattle.nb_model.specs.Belongs.{either}
use Rattle.nb_model.specs.Network.{Network, same}
use Rattle.net_meaning.specs.Places.{switch_port}
use Rattle.net_meaning.specs.Switches.{Did, part_of}
use Rattle.net_router.specs.Meaning.{at_port}

-- one or none is that one or none
or_none : {X : Type 0} (o : Option X) → either o None ≡ o
or_none None = refl
or_none (Some x) = refl

pub switches_alone : (net : Network) → net.router_ports ≡ [] → (of_switch : Port → Values → State → Did) (of_router : RouterPort → Values → State → Did) (number : ObjId) (packet : Values) (state : State)
    → at_port net of_switch of_router number packet state ≡ part_of state (option_map (λ port. of_switch port packet state) (switch_port net number))
switches_alone net none of_switch of_router number packet state =
    ap (λ ports. part_of state (either (option_map (λ port. of_switch port packet state) (switch_port net number)) (option_map (λ port. of_router port packet state) (find (λ port. same port.id number) ports)))) none
    ∙ ap (part_of state) (or_none (option_map (λ port. of_switch port packet state) (switch_port net number)))
