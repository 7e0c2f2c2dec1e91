-- What soundness says of routers and of what belongs to them, in the forms that the proofs of rows use.
use Rattle.std.proofs.Common.{◌≡◌, ℕ, ◌^◌, ◌<◌, Bool, true, false, nat_lt, nat_le, ◌==◌, ◌&&◌, List, [], ◌∷◌, length, refl, arith}
use Rattle.std.specs.Prelude.{Option, Some, None, if◌then◌else◌}
use Rattle.std.specs.Bool.{IsTrue}
use Rattle.std.specs.List.{AllByRecursion, Contains, flat_map, list_all}
use Rattle.std.proofs.lemmas.Bool.{and_parts, eqb-true, leb-true, ltb-true}
use Rattle.nv_base.specs.Block.{Block}
use Rattle.nv_base.specs.Name.{is_object_name}
use Rattle.nv_base.specs.declared.ip4.Ip4.{Ip4}
use Rattle.nb_records.specs.declared.balancer.Lb.{Lb}
use Rattle.nb_records.specs.declared.balancer.Vip.{Vip}
use Rattle.nb_records.specs.declared.router.Binding.{Binding}
use Rattle.nb_records.specs.declared.router.Nat.{Nat}
use Rattle.nb_records.specs.declared.router.NatKind.{NatKind}
use Rattle.nb_records.specs.declared.router.NatKind.TheVariants.{Snat, Dnat, DnatAndSnat}
use Rattle.nb_records.specs.declared.router.Route.{Route}
use Rattle.nb_records.specs.declared.router.RouterPort.{RouterPort}
use Rattle.nb_records.specs.declared.switch.Addr.{Addr}
use Rattle.nb_records.specs.declared.switch.Addr.TheVariants as addr
use Rattle.nb_records.specs.declared.switch.Port.{Port}
use Rattle.nb_read.specs.Lists.{is_same_network}
use Rattle.nb_read.specs.Readings.{cleared, is_unicast}
use Rattle.nb_model.specs.Belongs.{is_port, is_to_router, peer_port, peer_router_port, same_block, same_frontend}
use Rattle.nb_model.specs.Network.{Network}
use Rattle.nb_model.specs.Readable.{are_apart, are_networks, ips_of, is_block, is_cleared, is_frontend, is_ip4, is_logical, is_mac, is_nexthop, is_service, is_vip, may_name}
use Rattle.nb_model.specs.Sound.{IsSound}
use Rattle.nb_model.proofs.Readable.{of_binding, of_lb, of_nat, of_route, of_router_port}
use Rattle.nv_table.proofs.Found.{found_there}
use Rattle.net_rows.proofs.Pairs.{OfPairs, every_filter, every_flat_map, every_map, every_piece, every_weaker}
use Rattle.net_rows.proofs.Sound.{each_passes}
use Rattle.net_rows.proofs.SoundObjects.{IsBlock, Unlike, every, port_is_sound, unlike_pairs}
use Rattle.net_rows.proofs.SoundVips.{IsSoundVip}
use Rattle.nb_router.specs.Vocabulary.{addresses_at}
use Rattle.lr_units.specs.Words.{addresses_once, free_addresses, hosts_at, hosts_of, hosts_of_peer}
use Rattle.lr_units.proofs.Matches.{HasLow, IsPort}
use Rattle.lr_units.proofs.Tests.{IsLow}

-- ---- numbers of MACs, addresses and prefixes

mac_below : (mac : ℕ) → IsTrue (is_mac mac) → mac < 2 ^ 48
mac_below mac is = ltb-true mac (2 ^ 48) (and_parts (nat_lt mac (2 ^ 48)) (is_unicast mac) is).0

ip_below : (ip : Ip4) → IsTrue (is_ip4 ip) → IsLow ip
ip_below ip is = ltb-true ip.0 (2 ^ 32) is

block_is : (net : Block) → IsTrue (is_block net) → IsBlock net
block_is net is = let both = and_parts (is_ip4 net.base) (nat_le net.len 32) is in record { base = ip_below net.base both.0; len = leb-true net.len 32 both.1 }

-- ---- ports of routers

-- two networks that are apart
abbrev pub OtherNets : Block → Block → Type 0
OtherNets = Unlike is_same_network

-- a router port has the name of an object, a MAC and networks, none of these twice
pub record IsSoundPort (port : RouterPort) : Type 0 where
  pub is : IsPort port.name port.mac port.nets
  pub apart : OfPairs OtherNets port.nets

one_port : (port : RouterPort) → IsTrue (of_router_port port) → IsSoundPort port
one_port port all =
    let last = and_parts (is_object_name port.name && is_mac port.mac) (are_networks port.nets) all in
    let first = and_parts (is_object_name port.name) (is_mac port.mac) last.0 in
    let nets = and_parts (nat_lt 0 (length port.nets) && list_all is_block port.nets) (are_apart is_same_network port.nets) last.1 in
    let some_nets = and_parts (nat_lt 0 (length port.nets)) (list_all is_block port.nets) nets.0 in
    record {
      is = record { named = first.0; low = mac_below port.mac first.1; blocks = every_weaker (λ net. IsTrue (is_block net)) IsBlock port.nets block_is (every is_block port.nets some_nets.1) };
      apart = unlike_pairs is_same_network port.nets nets.1;
    }

-- its addresses have 32 bits
pub own_low : (port : RouterPort) → IsSoundPort port → AllByRecursion IsLow (addresses_at port)
own_low port of = every_map IsLow (λ (net : Block). net.base) port.nets (every_weaker IsBlock (λ (net : Block). IsLow net.base) port.nets (λ net is. is.base) of.is.blocks)

-- ---- hosts

-- the hosts of an address have its IPv4 addresses
hosts_low : (address : Addr) → AllByRecursion IsLow (ips_of address) → AllByRecursion HasLow (hosts_of address)
hosts_low addr.Unknown all = tt
hosts_low addr.Router all = tt
hosts_low (addr.Host mac ips) all = every_map HasLow (λ ip. record { mac = mac; addr = ip }) ips all

module _ (net : Network) (sound : IsSound net) where
  pub router_port_is_sound : (port : RouterPort) → Contains net.router_ports port → IsSoundPort port
  router_port_is_sound port there = one_port port (each_passes of_router_port net.router_ports port sound.readable.router_ports there)

  -- those of its addresses that are free
  pub free_low : (port : RouterPort) → Contains net.router_ports port → AllByRecursion IsLow (free_addresses net port)
  free_low port there = every_filter IsLow _ (addresses_at port) (own_low port (router_port_is_sound port there))

  pub route_is_sound : (route : Route) → Contains net.routes route → IsBlock route.prefix
  route_is_sound route there =
      let all = each_passes of_route net.routes route sound.readable.routes there in
      let last = and_parts (is_cleared route.prefix && is_nexthop route.nexthop) (may_name route.port) all in
      let first = and_parts (is_cleared route.prefix) (is_nexthop route.nexthop) last.0 in
      block_is route.prefix (and_parts (is_block route.prefix) (same_block route.prefix (cleared route.prefix)) first.0).0

  pub binding_is_sound : (binding : Binding) → Contains net.bindings binding → IsLow binding.addr
  binding_is_sound binding there = ip_below binding.addr (and_parts (is_ip4 binding.addr) (is_mac binding.mac) (each_passes of_binding net.bindings binding sound.readable.bindings there)).0

  pub nat_is_sound : (nat : Nat) → Contains net.nats nat → IsLow nat.external × IsBlock nat.logical
  nat_is_sound nat there =
      let both = and_parts (is_ip4 nat.external) (is_logical nat.kind nat.logical) (each_passes of_nat net.nats nat sound.readable.nats there) in
      (ip_below nat.external both.0, by nat.kind both.1)
    where
      one_address : IsTrue (is_ip4 nat.logical.base && (nat.logical.len == 32)) → IsBlock nat.logical
      one_address is =
          let both = and_parts (is_ip4 nat.logical.base) (nat.logical.len == 32) is in
          let whole : nat.logical.len ≡ 32 = eqb-true nat.logical.len 32 both.1 in
          record { base = ip_below nat.logical.base both.0; len = omega (arith, whole) }

      by : (kind : NatKind) → IsTrue (is_logical kind nat.logical) → IsBlock nat.logical
      by Snat is = block_is nat.logical (and_parts (is_block nat.logical) (same_block nat.logical (cleared nat.logical)) is).0
      by Dnat is = one_address is
      by DnatAndSnat is = one_address is

  -- ---- load balancers

  -- the addresses of VIPs have 32 bits
  pub once_low : (vips : List Vip) → AllByRecursion IsSoundVip vips → AllByRecursion IsLow (addresses_once vips)
  once_low [] all = tt
  once_low (vip ∷ vips) all = (all.0.low, every_filter IsLow _ (addresses_once vips) (once_low vips all.1))

  -- ---- hosts

  -- the hosts at a port of a switch have addresses of 32 bits
  addresses_low : (addresses : List Addr) → AllByRecursion IsLow (flat_map ips_of addresses) → AllByRecursion HasLow (flat_map hosts_of addresses)
  addresses_low addresses all =
      every_flat_map HasLow hosts_of addresses
      (every_weaker (λ address. AllByRecursion IsLow (ips_of address)) (λ address. AllByRecursion HasLow (hosts_of address)) addresses hosts_low (every_piece IsLow ips_of addresses all))

  peer_low : (peer : Option RouterPort) → ((port : RouterPort) → peer ≡ Some port → Contains net.router_ports port) → AllByRecursion HasLow (hosts_of_peer peer)
  peer_low None there = tt
  peer_low (Some peer) there = every_map HasLow (λ ip. record { mac = peer.mac; addr = ip }) (addresses_at peer) (own_low peer (router_port_is_sound peer (there peer refl)))

  pub hosts_are_low : (port : Port) → Contains net.ports port → AllByRecursion HasLow (hosts_at net port)
  hosts_are_low port there = by (is_to_router port)
    where
      by : (b : Bool) → AllByRecursion HasLow (if b then hosts_of_peer (peer_router_port net port) else flat_map hosts_of port.addresses)
      by true = peer_low (peer_router_port net port) (λ peer found. (found_there (λ (other : RouterPort). is_port port (peer_port net other)) peer net.router_ports found).0)
      by false = addresses_low port.addresses (port_is_sound net sound port there).ips
