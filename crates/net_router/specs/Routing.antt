-- Which way a packet goes on (ovn-nb(5), 'Logical_Router_Static_Route TABLE'; ovn-northd(8), 'IP Routing').
use Rattle.std.specs.Prelude.{ℕ, nat_lt, Bool, ◌&&◌, if◌then◌else◌, List, ◌++◌, map, filter, fold, Option, Some, None, option_map}
use Rattle.std.specs.List.{filter_map, find, flat_map, list_any}
use Rattle.std.specs.Option.{option_map_or}
use Rattle.std.specs.Str.{bytes_eq}
use Rattle.nv_base.specs.declared.ip4.Ip4.{Ip4}
use Rattle.nv_base.specs.declared.object.ObjId.{ObjId}
use Rattle.nb_records.specs.declared.router.Route.{Route}
use Rattle.nb_records.specs.declared.router.RouteBy.{RouteBy}
use Rattle.nb_records.specs.declared.router.RouteBy.TheVariants.{Dst, Src}
use Rattle.nb_records.specs.declared.router.RouterPort.{RouterPort}
use Rattle.nb_model.specs.Belongs.{same_policy}
use Rattle.nb_model.specs.Network.{Network, same}
use Rattle.nb_router.specs.Vocabulary.{ports_of}
use Rattle.net_router.specs.Input.{first_address, is_in_network, is_own}

-- how a packet leaves: by a port, for the next host, whose MAC is asked for from an address of the port
pub record Hop : Type 0 where
  pub port : RouterPort
  pub via : Ip4
  pub from : Ip4

-- a way that takes the packet: how many bits its prefix has, and where it leads
pub record Way : Type 0 where
  pub len : ℕ
  pub hop : Hop

abbrev pub hop_by : RouterPort → Ip4 → Ip4 → Hop
hop_by port via from = record { port = port; via = via; from = from }

-- ---- networks of ports

-- to each network of a port that has the destination: from its address there, to the destination itself
abbrev pub direct_ways : Ip4 → RouterPort → List Way
direct_ways dst port = map (λ own. record { len = own.len; hop = hop_by port dst own.base }) (filter (is_in_network dst.0) port.nets)

-- ---- static routes

-- the port has a network with the address
abbrev pub reaches : Ip4 → RouterPort → Bool
reaches ip port = list_any (is_in_network ip.0) port.nets

-- the port of a route: the one of this name on its router; without a name the lowest-numbered one that reaches the next router
abbrev pub is_exit : Route → Option (List ℕ) → RouterPort → Bool
is_exit route None port = reaches route.nexthop port
is_exit route (Some name) port = bytes_eq port.name name

abbrev pub exit_of : Network → Route → Option RouterPort
exit_of net route = find (is_exit route route.port) (ports_of net route.router)

-- the address from which a port asks for an address: the one in the first network that has it, else its first
abbrev pub asking : RouterPort → Ip4 → Ip4
asking port ip = option_map_or (λ own. own.base) (find (is_in_network ip.0) port.nets) (first_address port)

abbrev pub way_of : Network → Route → Option Way
way_of net route = option_map (λ port. record { len = route.prefix.len; hop = hop_by port route.nexthop (asking port route.nexthop) }) (exit_of net route)

-- the ways by routes of a policy that take an address
abbrev pub takes : ObjId → RouteBy → Ip4 → Route → Bool
takes router by ip route = same route.router router && same_policy route.by by && is_in_network ip.0 route.prefix

abbrev pub static_ways : Network → ObjId → RouteBy → Ip4 → List Way
static_ways net router by ip = filter_map (way_of net) (filter (takes router by ip) net.routes)

-- ---- the best

-- of two ways the one of the longer prefix; of equals the earlier
abbrev pub longer : Option Way → Way → Option Way
longer None way = Some way
longer (Some first) way = if nat_lt first.len way.len then Some way else Some first

-- all ways from a source to a destination: of equals first the networks of ports, then routes by destination, then those by source, each
-- by rising number
abbrev pub ways : Network → ObjId → Ip4 → Ip4 → List Way
ways net router src dst = flat_map (direct_ways dst) (ports_of net router) ++ static_ways net router Dst dst ++ static_ways net router Src src

abbrev pub route : Network → ObjId → Ip4 → Ip4 → Option Hop
route net router src dst = option_map (λ way. way.hop) (fold longer None (ways net router src dst))

-- the hop of a packet, if there is one; to the router itself none leads
abbrev pub hop_for : Network → ObjId → Ip4 → Ip4 → Option Hop
hop_for net router src dst = if is_own net router dst.0 then None else route net router src dst
