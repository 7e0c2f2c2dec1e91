-- Where ports are, and what is at their other side (ovn-nb(5), 'Logical_Switch_Port TABLE', router-port).
use Rattle.std.specs.Prelude.{Option, Some, None, option_map, unwrap_or}
use Rattle.std.specs.List.{find}
use Rattle.nv_base.specs.declared.object.ObjId.{ObjId}
use Rattle.nb_records.specs.declared.router.RouterPort.{RouterPort}
use Rattle.nb_records.specs.declared.switch.Port.{Port}
use Rattle.nb_records.specs.declared.switch.PortKind.{PortKind}
use Rattle.nb_records.specs.declared.switch.PortKind.TheVariants as kind
use Rattle.nb_model.specs.Belongs.{either, peer_port, peer_router_port}
use Rattle.nb_model.specs.Network.{Network, same}

-- the port of a switch, or of a router, of this number
abbrev pub switch_port : Network → ObjId → Option Port
switch_port net number = find (λ port. same port.id number) net.ports

abbrev pub router_port : Network → ObjId → Option RouterPort
router_port net number = find (λ port. same port.id number) net.router_ports

-- the switch or the router of a port, 0 where there is no such port
abbrev pub datapath_at : Network → ObjId → ObjId
datapath_at net number =
    unwrap_or (either (option_map (λ port. port.switch) (switch_port net number)) (option_map (λ port. port.router) (router_port net number))) (record { 0 = 0 })

-- what is at the other side of a port: a host, the port of another datapath, or nothing
pub data Side : Type 0 where
  Host : Side
  Peer : ObjId → Side
  NoPeer : Side

abbrev pub peer_side : Option ObjId → Side
peer_side None = NoPeer
peer_side (Some peer) = Peer peer

abbrev pub side_of_switch_port : Network → Port → PortKind → Side
side_of_switch_port net port kind.Host = Host
side_of_switch_port net port kind.Router = peer_side (option_map (λ peer. peer.id) (peer_router_port net port))

abbrev pub side_of_router_port : Network → Option RouterPort → Side
side_of_router_port net None = NoPeer
side_of_router_port net (Some port) = peer_side (option_map (λ peer. peer.id) (peer_port net port))

abbrev pub side_of_port : Network → ObjId → Option Port → Side
side_of_port net number (Some port) = side_of_switch_port net port port.kind
side_of_port net number None = side_of_router_port net (router_port net number)

abbrev pub side_of : Network → ObjId → Side
side_of net number = side_of_port net number (switch_port net number)
