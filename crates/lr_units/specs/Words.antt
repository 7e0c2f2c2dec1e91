-- What the rows of a router say of the network beside its records: by which port a static route leaves, and which hosts are at the other
-- side of a router port (ovn-northd(8), 'IP Routing' and 'ARP/ND Resolution'; ovn-nb(5), 'Logical_Router_Static_Route TABLE').
use Rattle.std.specs.Prelude.{ℕ, Bool, not, ◌/◌, ◌==◌, ◌&&◌, if◌then◌else◌, List, [], ◌∷◌, map, filter, slice_get, Option, Some, None, option_map}
use Rattle.std.specs.List.{find, flat_map, list_any}
use Rattle.nv_base.specs.Block.{Block}
use Rattle.nv_base.specs.declared.ip4.Ip4.{Ip4}
use Rattle.nv_base.specs.declared.object.ObjId.{ObjId}
use Rattle.nb_records.specs.declared.balancer.Vip.{Vip}
use Rattle.nb_records.specs.declared.router.Route.{Route}
use Rattle.nb_records.specs.declared.router.RouterPort.{RouterPort}
use Rattle.nb_records.specs.declared.switch.Addr.{Addr}
use Rattle.nb_records.specs.declared.switch.Addr.TheVariants as addr
use Rattle.nb_records.specs.declared.switch.Port.{Port}
use Rattle.nb_model.specs.Addresses.{size_of}
use Rattle.nb_model.specs.Belongs.{either, is_to_router, peer_port, peer_router_port}
use Rattle.nb_model.specs.Network.{Network, same, router_port_named}
use Rattle.lr_rows.specs.declared.inputs.Exit.{Exit}
use Rattle.lr_rows.specs.declared.inputs.Host.{Host}
use Rattle.nb_router.specs.Vocabulary.{addresses_at, external_addresses, is_address}

-- ---- addresses

-- the addresses of a router port that are no external addresses of its router
abbrev pub free_addresses : Network → RouterPort → List Ip4
free_addresses net port = filter (λ addr. not (is_address addr (external_addresses net port.router))) (addresses_at port)

-- the addresses of VIPs, each once, where it comes first
abbrev pub addresses_once : List Vip → List Ip4
addresses_once [] = []
addresses_once (vip ∷ vips) = vip.at.addr ∷ filter (λ addr. not (vip.at.addr.0 == addr.0)) (addresses_once vips)

-- ---- static routes

-- the network has the address
abbrev pub holds : Ip4 → Block → Bool
holds addr net = addr.0 / size_of net == net.base.0 / size_of net

-- a port of the router, where it is one
abbrev pub if_of : ObjId → Option RouterPort → Option RouterPort
if_of router None = None
if_of router (Some port) = if same router port.router then Some port else None

-- The port by which a route of a router leaves: the one of the name that is given, where it is the router's; without a name, the
-- router's port of the lowest number that has a network with the next router's address.
abbrev pub port_towards : Network → ObjId → Ip4 → Option (List ℕ) → Option RouterPort
port_towards net router nexthop (Some name) = if_of router (router_port_named net name)
port_towards net router nexthop None = find (λ port. same router port.router && list_any (holds nexthop) port.nets) net.router_ports

-- the network of a port by which it reaches an address: the first that has the address, or the first of all
abbrev pub net_towards : Ip4 → RouterPort → Option Block
net_towards nexthop port = either (find (holds nexthop) port.nets) (slice_get port.nets 0)

-- by which a packet leaves for an address: its name, its MAC, and its own address towards the other one
abbrev pub exit_by : Ip4 → RouterPort → Option Exit
exit_by nexthop port = option_map (λ net. record { name = port.name; mac = port.mac; addr = net.base }) (net_towards nexthop port)

abbrev pub by_port : Ip4 → Option RouterPort → Option Exit
by_port nexthop None = None
by_port nexthop (Some port) = exit_by nexthop port

-- by which a static route leaves, where there is a port for it
abbrev pub exit_of : Network → Route → Option Exit
exit_of net route = by_port route.nexthop (port_towards net route.router route.nexthop route.port)

-- ---- hosts at the other side

-- the hosts that an address of a port tells
abbrev pub hosts_of : Addr → List Host
hosts_of addr.Unknown = []
hosts_of addr.Router = []
hosts_of (addr.Host mac ips) = map (λ ip. record { mac = mac; addr = ip }) ips

-- the addresses of a router port, each with its MAC
abbrev pub hosts_of_peer : Option RouterPort → List Host
hosts_of_peer None = []
hosts_of_peer (Some peer) = map (λ addr. record { mac = peer.mac; addr = addr }) (addresses_at peer)

-- the hosts at a port of a switch: those of its addresses, or, where it leads to a router, those of its peer
abbrev pub hosts_at : Network → Port → List Host
hosts_at net port = if is_to_router port then hosts_of_peer (peer_router_port net port) else flat_map hosts_of port.addresses

-- the other enabled ports of a port's switch
abbrev pub is_beside : Port → Port → Bool
is_beside port other = same port.switch other.switch && (other.enabled && not (same port.id other.id))

abbrev pub beside : Network → Option Port → List Port
beside net None = []
beside net (Some port) = filter (is_beside port) net.ports

-- the ports across a router port: the other enabled ports of the switch of its peer
abbrev pub across : Network → RouterPort → List Port
across net port = beside net (peer_port net port)
