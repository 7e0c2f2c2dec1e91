-- Which object has a name, and where a port is.
use Rattle.std.specs.Prelude.{ℕ, List, Option, Some, None, option_map}
use Rattle.nv_base.specs.declared.object.ObjId.{ObjId}
use Rattle.nb_model.specs.Belongs.{either, peer_port, peer_router_port}
use Rattle.nb_model.specs.Network.{Network, switch_id, router_id, port_id, router_port_id}
use Rattle.nv_table.specs.Table.{record_of}

-- the number of the port of this name, of a switch or of a router
abbrev pub port_of : Network → List ℕ → Option ObjId
port_of net name = either (port_id net name) (router_port_id net name)

-- the number of the switch or the router of this name
abbrev pub datapath_of : Network → List ℕ → Option ObjId
datapath_of net name = either (switch_id net name) (router_id net name)

-- the number of the switch or the router that has the port of this number
abbrev pub on_datapath : Network → ObjId → Option ObjId
on_datapath net number =
    either (option_map (λ port. port.switch) (record_of (λ port. port.id) number net.ports)) (option_map (λ port. port.router) (record_of (λ port. port.id) number net.router_ports))

-- the number of the peer of a record that is there
abbrev pub peer_by : {R : Type 0} → (R → Option ObjId) → Option R → Option ObjId
peer_by peer None = None
peer_by peer (Some port) = peer port

-- the number of the peer of the router port, or of the switch port, of this number
abbrev pub peer_of_router_port : Network → ObjId → Option ObjId
peer_of_router_port net number = peer_by (λ port. option_map (λ peer. peer.id) (peer_port net port)) (record_of (λ port. port.id) number net.router_ports)

abbrev pub peer_of_port : Network → ObjId → Option ObjId
peer_of_port net number = peer_by (λ port. option_map (λ peer. peer.id) (peer_router_port net port)) (record_of (λ port. port.id) number net.ports)

-- the number of the peer of the port of this number, of a router or of a switch
abbrev pub peer_of : Network → ObjId → Option ObjId
peer_of net number = either (peer_of_router_port net number) (peer_of_port net number)
