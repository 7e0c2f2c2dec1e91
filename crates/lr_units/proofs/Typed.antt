-- Each match of the rows of the routers of a sound network is well-typed.
use Rattle.std.specs.List.{All, Contains}
use Rattle.std.proofs.lemmas.List.Elements.{All-from_recursion}
use Rattle.std.specs.Prelude.{filter, Option, Some, None}
use Rattle.nv_base.specs.declared.ip4.Ip4.{Ip4}
use Rattle.nv_base.specs.declared.object.ObjId.{ObjId}
use Rattle.nb_records.specs.declared.balancer.Frontend.{Frontend}
use Rattle.nb_records.specs.declared.balancer.Lb.{Lb}
use Rattle.nb_records.specs.declared.balancer.Vip.{Vip}
use Rattle.nb_records.specs.declared.router.Binding.{Binding}
use Rattle.nb_records.specs.declared.router.Nat.{Nat}
use Rattle.nb_records.specs.declared.router.Route.{Route}
use Rattle.nb_records.specs.declared.router.Router.{Router}
use Rattle.nb_records.specs.declared.router.RouterPort.{RouterPort}
use Rattle.nb_records.specs.declared.switch.Port.{Port}
use Rattle.nb_model.specs.Belongs.{peer_port}
use Rattle.nb_model.specs.Network.{Network, same}
use Rattle.nb_model.specs.Sound.{IsSound}
use Rattle.sb_rows.specs.Row.{HasTypedMatch}
use Rattle.net_rows.specs.Unit.{unit_of_datapath}
use Rattle.net_rows.proofs.Elements.{one_of_none, Contains-from_filter}
use Rattle.net_rows.proofs.Pairs.{every_member}
use Rattle.net_rows.proofs.SoundVips.{IsSoundVip, vips_are_sound}
use Rattle.lr_rows.specs.Balancers.{vip_addr_rules, vip_router_rules}
use Rattle.lr_rows.specs.Input.{port_in_rules, router_in_rules}
use Rattle.lr_rows.specs.Nat.{nat_rules}
use Rattle.lr_rows.specs.Neighbours.{binding_rules, neighbour_rules}
use Rattle.lr_rows.specs.Routes.{port_route_rules, router_route_rules, static_route_rules}
use Rattle.lr_rows.specs.declared.inputs.BindingInput.{BindingInput}
use Rattle.lr_rows.specs.declared.inputs.NatRuleInput.{NatRuleInput}
use Rattle.lr_rows.specs.declared.inputs.NeighbourInput.{NeighbourInput}
use Rattle.lr_rows.specs.declared.inputs.PortInInput.{PortInInput}
use Rattle.lr_rows.specs.declared.inputs.PortRouteInput.{PortRouteInput}
use Rattle.lr_rows.specs.declared.inputs.StaticRouteInput.{StaticRouteInput}
use Rattle.lr_rows.specs.declared.inputs.VipAddrInput.{VipAddrInput}
use Rattle.net_rows.specs.declared.inputs.VipInput.{VipInput}
use Rattle.lr_units.specs.Build.{router_rows}
use Rattle.lr_units.specs.Units.{binding_input, binding_units, bindings_of, has_hosts, nat_rule_input, nat_rule_units, neighbour_input, neighbour_units, port_in_input, port_in_units, port_route_input, port_route_units, router_nat_units, router_units, static_route_input, static_route_units, vip_addr_input, vip_addr_units, vip_router_units}
use Rattle.nb_router.specs.Vocabulary.{is_attached, lbs_of}
use Rattle.lr_units.specs.Words.{across, addresses_once, beside, is_beside}
use Rattle.lr_units.proofs.Matches.{AreTypedRules, ArePrintable, binding_printable, nat_typed, neighbour_printable, port_in_printable, port_route_printable, printable_typed, router_in_typed, router_nat_typed, router_route_typed, static_route_printable, vip_addr_printable, vip_router_printable}
use Rattle.lr_units.proofs.SoundRouters.{binding_is_sound, free_low, hosts_are_low, nat_is_sound, once_low, route_is_sound, router_port_is_sound}
use Rattle.lr_units.proofs.Sources.{EachKind, each_of_balancers, each_of_map, each_of_pieces, every_of_kind, every_row}
use Rattle.lr_units.proofs.Tests.{IsLow}
use Rattle.net_rows.specs.Build.{vip_input}

-- the ports across a router port are ports
pub across_member : (net : Network) (port : RouterPort) (other : Port) → Contains (across net port) other → Contains net.ports other
across_member net port other there = by (peer_port net port) there
  where
    by : (peer : Option Port) → Contains (beside net peer) other → Contains net.ports other
    by None none = absurd (one_of_none other none)
    by (Some peer) at = Contains-from_filter (is_beside peer) net.ports other at

module _ (net : Network) (sound : IsSound net) where
  -- the rules of the units of ports
  port_in_each : (u : ObjId × PortInInput) → Contains (port_in_units net) u → ArePrintable (port_in_rules u.1)
  port_in_each =
      each_of_map (λ (u : ObjId × PortInInput). ArePrintable (port_in_rules u.1)) (λ (p : RouterPort). (p.id, port_in_input net p)) net.router_ports
      (λ p there. port_in_printable (port_in_input net p) (router_port_is_sound net sound p there).is (free_low net sound p there))

  port_route_each : (u : ObjId × PortRouteInput) → Contains (port_route_units net) u → ArePrintable (port_route_rules u.1)
  port_route_each =
      each_of_map (λ (u : ObjId × PortRouteInput). ArePrintable (port_route_rules u.1)) (λ (p : RouterPort). (p.id, port_route_input p)) net.router_ports
      (λ p there. port_route_printable (port_route_input p) (router_port_is_sound net sound p there).is)

  -- of routes, bindings and neighbours
  static_route_each : (u : ObjId × StaticRouteInput) → Contains (static_route_units net) u → ArePrintable (static_route_rules u.1)
  static_route_each =
      each_of_map (λ (u : ObjId × StaticRouteInput). ArePrintable (static_route_rules u.1)) (λ (r : Route). (r.id, static_route_input net r)) net.routes
      (λ r there. static_route_printable (static_route_input net r) (route_is_sound net sound r there))

  binding_each : (u : ObjId × BindingInput) → Contains (binding_units net) u → ArePrintable (binding_rules u.1)
  binding_each =
      each_of_pieces (λ (u : ObjId × BindingInput). ArePrintable (binding_rules u.1)) (bindings_of net) (λ port (b : Binding). (b.id, binding_input port b)) net.router_ports
      (λ port there b in_port.
      binding_printable (binding_input port b) (router_port_is_sound net sound port there).is.named
      (binding_is_sound net sound b (Contains-from_filter (λ (binding : Binding). same port.id binding.port) net.bindings b in_port)))

  pub neighbour_each : (u : (ObjId × ObjId) × NeighbourInput) → Contains (neighbour_units net) u → ArePrintable (neighbour_rules u.1)
  neighbour_each =
      each_of_pieces (λ (u : (ObjId × ObjId) × NeighbourInput). ArePrintable (neighbour_rules u.1)) (λ port. filter (has_hosts net) (across net port)) (λ port (o : Port). ((port.id, o.id), neighbour_input net port o)) net.router_ports
      (λ port there o at.
      neighbour_printable (neighbour_input net port o) (router_port_is_sound net sound port there).is.named
      (hosts_are_low net sound o (across_member net port o (Contains-from_filter (has_hosts net) (across net port) o at))))

  -- of NAT rules and load balancers
  nat_each : (u : ObjId × NatRuleInput) → Contains (nat_rule_units net) u → AreTypedRules (nat_rules u.1)
  nat_each =
      each_of_map (λ (u : ObjId × NatRuleInput). AreTypedRules (nat_rules u.1)) (λ (n : Nat). (n.id, nat_rule_input n)) net.nats
      (λ n there. let is = nat_is_sound net sound n there in nat_typed (nat_rule_input n) is.0 is.1)

  pub attached_member : (router : Router) (lb : Lb) → Contains (lbs_of net router.id) lb → Contains net.lbs lb
  attached_member router lb there = Contains-from_filter (is_attached net router.id) net.lbs lb there

  vip_router_each : (u : (ObjId × Frontend × ObjId) × VipInput) → Contains (vip_router_units net) u → ArePrintable (vip_router_rules u.1)
  vip_router_each =
      each_of_balancers (λ (u : (ObjId × Frontend × ObjId) × VipInput). ArePrintable (vip_router_rules u.1)) net (λ (lb : Lb). lb.vips) (λ router lb (vip : Vip). ((lb.id, vip.at, router.id), vip_input lb vip))
      (λ router there lb of_router vip in_lb.
      let is = every_member IsSoundVip lb.vips vip (vips_are_sound net sound lb (attached_member router lb of_router)) in_lb in
      vip_router_printable (vip_input lb vip) is.low is.service)

  vip_addr_each : (u : (ObjId × Ip4 × ObjId) × VipAddrInput) → Contains (vip_addr_units net) u → ArePrintable (vip_addr_rules u.1)
  vip_addr_each =
      each_of_balancers (λ (u : (ObjId × Ip4 × ObjId) × VipAddrInput). ArePrintable (vip_addr_rules u.1)) net (λ (lb : Lb). addresses_once lb.vips) (λ router lb addr. ((lb.id, addr, router.id), vip_addr_input addr))
      (λ router there lb of_router addr in_lb.
      vip_addr_printable (vip_addr_input addr)
      (every_member IsLow (addresses_once lb.vips) addr (once_low net sound lb.vips (vips_are_sound net sound lb (attached_member router lb of_router))) in_lb))

  -- all rules
  typed : EachKind HasTypedMatch net
  typed = record {
    router_in = every_of_kind HasTypedMatch (λ router input. unit_of_datapath router) (λ input. router_in_rules) (router_units net) (λ u there. router_in_typed);
    port_in = every_of_kind HasTypedMatch _ _ (port_in_units net) (λ u there. printable_typed (port_in_rules u.1) (port_in_each u there));
    router_route = every_of_kind HasTypedMatch (λ router input. unit_of_datapath router) (λ input. router_route_rules) (router_units net) (λ u there. router_route_typed);
    port_route = every_of_kind HasTypedMatch _ _ (port_route_units net) (λ u there. printable_typed (port_route_rules u.1) (port_route_each u there));
    static_route = every_of_kind HasTypedMatch _ _ (static_route_units net) (λ u there. printable_typed (static_route_rules u.1) (static_route_each u there));
    binding = every_of_kind HasTypedMatch _ _ (binding_units net) (λ u there. printable_typed (binding_rules u.1) (binding_each u there));
    neighbour = every_of_kind HasTypedMatch _ _ (neighbour_units net) (λ u there. printable_typed (neighbour_rules u.1) (neighbour_each u there));
    router_nat = every_of_kind HasTypedMatch _ _ (router_nat_units net) (λ u there. router_nat_typed u.1);
    nat_rule = every_of_kind HasTypedMatch _ _ (nat_rule_units net) nat_each;
    vip_router = every_of_kind HasTypedMatch _ _ (vip_router_units net) (λ u there. printable_typed (vip_router_rules u.1) (vip_router_each u there));
    vip_addr = every_of_kind HasTypedMatch _ _ (vip_addr_units net) (λ u there. printable_typed (vip_addr_rules u.1) (vip_addr_each u there));
  }

pub router_rows_typed : (net : Network) → IsSound net → All HasTypedMatch (router_rows net)
router_rows_typed net sound = All-from_recursion HasTypedMatch (router_rows net) (every_row HasTypedMatch net (typed net sound))
