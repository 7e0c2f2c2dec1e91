-- Which MAC the next host has (ovn-nb(5), 'Static_MAC_Binding TABLE'; ovn-northd(8), 'ARP/ND Resolution' and 'ARP Request').
use Rattle.std.specs.Prelude.{ℕ, ◌==◌, Bool, not, ◌&&◌, if◌then◌else◌, List, Option, Some, None, option_map, unwrap_or, slice_get, option_and_then}
use Rattle.std.specs.List.{filter_map, find, filter}
use Rattle.nv_base.specs.declared.ip4.Ip4.{Ip4}
use Rattle.ct_core.specs.declared.neighbour.Neighbour.{Neighbour}
use Rattle.ct_core.specs.Neighbours.{mac_of}
use Rattle.nb_records.specs.declared.router.RouterPort.{RouterPort}
use Rattle.nb_records.specs.declared.switch.Port.{Port}
use Rattle.nb_model.specs.Belongs.{either, is_to_router, peer_port, peer_router_port}
use Rattle.nb_model.specs.Network.{Network, same}
use Rattle.nb_model.specs.Ports.{is_open}
use Rattle.nb_router.specs.Vocabulary.{addresses_at}
use Rattle.net_meaning.specs.Switches.{has_ip, is_among_ips, mac_with}

-- the MAC of the static binding of a port and an address
abbrev pub bound_mac : Network → RouterPort → Ip4 → Option ℕ
bound_mac net port ip = option_map (λ own. own.mac) (find (λ own. same own.port port.id && (own.addr.0 == ip.0)) net.bindings)

-- a router port has an address
abbrev pub router_mac : Ip4 → RouterPort → Option ℕ
router_mac ip port = if is_among_ips ip.0 (addresses_at port) then Some port.mac else None

-- the MAC that goes with an address at a switch port: of its host, or of the router port that it leads to
abbrev pub mac_at : Network → Ip4 → Port → Option ℕ
mac_at net ip port =
    if is_to_router port then option_and_then (router_mac ip) (peer_router_port net port)
    else (if has_ip ip.0 port then Some (mac_with ip.0 port.addresses) else None)

-- an enabled port on the switch of another, beside it
abbrev pub is_beside : Port → Port → Bool
is_beside peer port = is_open peer.switch port && not (same port.id peer.id)

-- the MAC that goes with an address on the switch beyond a router port: at the lowest-numbered port that has it
abbrev pub mac_beyond : Network → Ip4 → Option Port → Option ℕ
mac_beyond net ip None = None
mac_beyond net ip (Some peer) = slice_get (filter_map (mac_at net ip) (filter (is_beside peer) net.ports)) 0

-- the MAC of an address for what leaves by a port: what is bound comes first, then what the network says, then what was learnt; 0 where
-- it is not known
abbrev pub mac_for : Network → RouterPort → Ip4 → List Neighbour → ℕ
mac_for net port ip nbrs = unwrap_or (either (bound_mac net port ip) (mac_beyond net ip (peer_port net port))) (mac_of nbrs port.id ip)
