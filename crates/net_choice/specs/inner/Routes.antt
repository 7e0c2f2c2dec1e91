-- The longest way from a router, its ports told by number: of the networks of ports, and of static routes.
use Rattle.std.specs.Prelude.{ℕ, ◌-◌, ◌*◌, ◌/◌, ◌^◌, ◌&&◌, nat_lt, Bool, true, if◌then◌else◌, List, map, fold, Option, None, Some, option_and_then}
use Rattle.std.specs.List.{find}
use Rattle.std.specs.Str.{bytes_eq}
use Rattle.nv_base.specs.Block.{Block}
use Rattle.nv_base.specs.Ip4.{address}
use Rattle.nv_base.specs.Prefix.{block}
use Rattle.nv_base.specs.declared.ip4.Ip4.{Ip4}
use Rattle.nv_base.specs.declared.object.ObjId.{ObjId}
use Rattle.nb_records.specs.declared.router.Route.{Route}
use Rattle.nb_records.specs.declared.router.RouteBy.{RouteBy}
use Rattle.nb_records.specs.declared.router.RouterPort.{RouterPort}
use Rattle.nb_model.specs.Belongs.{same_block, same_policy}
use Rattle.nb_model.specs.Network.{Network, same}
use Rattle.nb_router.specs.Vocabulary.{ports_of}
use Rattle.net_router.specs.Input.{is_in_network}
use Rattle.net_router.specs.Routing as routing
use Rattle.net_router.specs.Routing.{reaches, static_ways, way_of}
use Rattle.net_choice.specs.Hops.{numbered}
use Rattle.net_choice.specs.declared.routes.Way.{Way}

-- a way, its port told by number
abbrev pub numbered_way : routing.Way → Way
numbered_way way = record { len = way.len; hop = numbered way.hop }

-- of two ways the one of the longer prefix; of equals the earlier
abbrev pub longer : Option Way → Way → Option Way
longer None way = Some way
longer (Some first) way = if nat_lt first.len way.len then Some way else Some first

-- ---- networks of ports

-- the way to a network of a port
abbrev pub direct_way : ObjId → Ip4 → Block → Way
direct_way port dst own = record { len = own.len; hop = record { port = port; via = dst; from = own.base } }

-- of a way and the one to a network, where this has the destination
abbrev pub longest_to : ObjId → Ip4 → Option Way → Block → Option Way
longest_to port dst best own = if is_in_network dst.0 own then longer best (direct_way port dst own) else best

-- of a way and those to the networks of a port
abbrev pub longest_by : Ip4 → Option Way → RouterPort → Option Way
longest_by dst best port = fold (longest_to port.id dst) best port.nets

-- of those to the networks of a router's ports
abbrev pub longest_direct : Network → ObjId → Ip4 → Option Way
longest_direct net router dst = fold (longest_by dst) None (ports_of net router)

-- ---- static routes

-- of a way and those by routes of a policy that take an address
abbrev pub longest_static : Network → ObjId → RouteBy → Ip4 → Option Way → Option Way
longest_static net router by ip best = fold longer best (map numbered_way (static_ways net router by ip))

-- a way is shorter than so many bits, or there is none
abbrev pub is_shorter : Option Way → ℕ → Bool
is_shorter None len = true
is_shorter (Some way) len = nat_lt way.len len

-- the network of this length that has the address
abbrev pub network_of : Ip4 → ℕ → Block
network_of ip len = block (address (ip.0 / 2 ^ (32 - len) * 2 ^ (32 - len))) len

-- the way by the route of a policy for a prefix
abbrev pub is_for : ObjId → RouteBy → Block → Route → Bool
is_for router by prefix route = same router route.router && same_policy by route.by && same_block prefix route.prefix

abbrev pub way_for : Network → ObjId → RouteBy → Block → Option routing.Way
way_for net router by prefix = option_and_then (way_of net) (find (is_for router by prefix) net.routes)

-- ---- their ports

-- the port of a router that has the name
abbrev pub named_exit : Network → ObjId → List ℕ → Option RouterPort
named_exit net router name = find (λ port. bytes_eq port.name name) (ports_of net router)

-- the lowest-numbered port of a router that reaches an address
abbrev pub reaching_exit : Network → ObjId → Ip4 → Option RouterPort
reaching_exit net router ip = find (reaches ip) (ports_of net router)
