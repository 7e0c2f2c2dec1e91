-- What a network of switches and routers does with a packet: the parts at ports of either kind, and the walk through them.
use Rattle.std.specs.Prelude.{ℕ, option_map}
use Rattle.nv_base.specs.declared.object.ObjId.{ObjId}
use Rattle.pkt_core.specs.Packet.{Values}
use Rattle.ct_core.specs.State.{State}
use Rattle.nb_records.specs.declared.router.RouterPort.{RouterPort}
use Rattle.nb_records.specs.declared.switch.Port.{Port}
use Rattle.nb_model.specs.Belongs.{either}
use Rattle.nb_model.specs.Network.{Network}
use Rattle.net_meaning.specs.Places.{router_port, switch_port}
use Rattle.net_meaning.specs.Switches as switches
use Rattle.net_meaning.specs.Switches.{Did, part_of}
use Rattle.net_meaning.specs.Walk.{Part, Parts, Walked, walk}
use Rattle.net_router.specs.Routers as routers

-- what is done at a port: of a switch, else of a router; where there is no such port nothing is
abbrev pub at_port : Network → (Port → Values → State → Did) → (RouterPort → Values → State → Did) → ObjId → Values → State → Part (Unit {0}) State
at_port net of_switch of_router number packet state =
    part_of state
    (either (option_map (λ port. of_switch port packet state) (switch_port net number)) (option_map (λ port. of_router port packet state) (router_port net number)))

-- the parts of the network
abbrev pub direct_parts : Network → Parts (Unit {0}) State
direct_parts net = record {
  arriving = at_port net (switches.arriving_at net) (routers.arriving_at net);
  leaving = at_port net (switches.leaving_by net) (routers.leaving_by net);
  late = at_port net switches.leaving_late routers.leaving_late;
}

-- what the network does with a packet that comes in by a port and may take so many hops, from a state on
abbrev pub meaning : Network → ℕ → ObjId → Values → State → Walked (Unit {0}) State
meaning net hops port packet state = walk net (direct_parts net) hops port packet state
