-- No key stands twice among the units of the routers of a sound network.
use Rattle.std.proofs.Common.{◌≡◌, ◌≢◌, ◌<◌, Bool, true, not, eqb, List, [], ◌∷◌, map, sym, ap, ◌∙◌}
use Rattle.std.specs.Prelude.{Option, Some, None, filter}
use Rattle.std.specs.List.{Contains}
use Rattle.std.proofs.lemmas.Bool.{eq-eqb, eqb-true, false≢true, not-true}
use Rattle.std.proofs.lemmas.List.Elements.{All-contains, filter_passes}
use Rattle.nv_base.specs.declared.ip4.Ip4.{Ip4}
use Rattle.nv_base.specs.declared.object.ObjId.{ObjId}
use Rattle.nb_records.specs.declared.balancer.Lb.{Lb}
use Rattle.nb_records.specs.declared.balancer.Vip.{Vip}
use Rattle.nb_records.specs.declared.router.Binding.{Binding}
use Rattle.nb_records.specs.declared.router.Nat.{Nat}
use Rattle.nb_records.specs.declared.router.Route.{Route}
use Rattle.nb_records.specs.declared.router.Router.{Router}
use Rattle.nb_records.specs.declared.router.RouterPort.{RouterPort}
use Rattle.nb_records.specs.declared.switch.Port.{Port}
use Rattle.nb_model.specs.Belongs.{peer_port}
use Rattle.nb_model.specs.Network.{Network, same}
use Rattle.nb_model.specs.Sound.{IsSound}
use Rattle.nb_router.specs.Vocabulary.{is_attached, lbs_of}
use Rattle.net_rows.specs.Build.{vip_input}
use Rattle.net_rows.proofs.Elements.{Contains-from_filter, Contains-from_map}
use Rattle.net_rows.proofs.Pairs.{OfPairs, every_from_members, pairs_as, pairs_filter, pairs_flat_map}
use Rattle.lr_rows.specs.declared.inputs.BindingInput.{BindingInput}
use Rattle.lr_units.specs.Units.{binding_input, binding_units, bindings_of, has_hosts, nat_rule_input, nat_rule_units, neighbour_input, neighbour_units, port_in_input, port_in_units, port_route_input, port_route_units, router_nat_input, router_nat_units, router_units, static_route_input, static_route_units, vip_addr_input, vip_addr_units, vip_router_units}
use Rattle.lr_units.specs.Words.{across, addresses_once, beside, is_beside}
use Rattle.lr_units.proofs.Numbers.{Before, bindings_rise, lbs_rise, nats_rise, ports_rise, router_ports_rise, routers_rise, routes_rise}
use Rattle.lr_units.proofs.Typed.{attached_member}
use Rattle.net_units.specs.Keys.{KeysStandOnce, by_addr, by_number, by_numbers, by_vip}
use Rattle.net_units.proofs.Distinct.{OtherKeys, addrs_exact, lower_other, number_exact, numbers_exact, of_balancers_once, of_pieces_once, of_records_once, one_of_number, stand_once, vip_exact}
use Rattle.net_units.proofs.OnSwitches.{frontends_apart}

-- what passes a filter passes its test
kept_passes : {X : Type 0} (p : X → Bool) (xs : List X) (x : X) → Contains (filter p xs) x → p x ≡ true
kept_passes p xs x there = All-contains (λ y. p y ≡ true) (filter p xs) x (filter_passes p xs) there

-- each address once
once_apart : (vips : List Vip) → OfPairs (λ (a b : Ip4). a ≢ b) (addresses_once vips)
once_apart [] = tt
once_apart (vip ∷ vips) = (
  every_from_members (λ (b : Ip4). vip.at.addr ≢ b) (filter other (addresses_once vips))
      (λ b there e. false≢true (sym (not-true (eqb vip.at.addr.0 b.0) (kept_passes other (addresses_once vips) b there)) ∙ eq-eqb vip.at.addr.0 b.0 (ap (λ (a : Ip4). a.0) e))),
  pairs_filter (λ (a b : Ip4). a ≢ b) other (addresses_once vips) (once_apart vips),
)
  where
    other : Ip4 → Bool
    other addr = not (eqb vip.at.addr.0 addr.0)

module _ (net : Network) (sound : IsSound net) where
  -- a binding of one port is none of another
  two_bindings : (p q : RouterPort) → p.id.0 < q.id.0 → (b c : Binding) → Contains (bindings_of net p) b → Contains (bindings_of net q) c → b.id ≢ c.id
  two_bindings p q lower b c of_p of_q e =
      let in_net : (port : RouterPort) (x : Binding) → Contains (bindings_of net port) x → Contains net.bindings x = λ port x there. Contains-from_filter (λ (y : Binding). same port.id y.port) net.bindings x there in
      let one = one_of_number (λ (x : Binding). x.id) net.bindings (bindings_rise net sound) b c (in_net p b of_p) (in_net q c of_q) e in
      let port_of_b = eqb-true p.id.0 b.port.0 (kept_passes (λ (y : Binding). same p.id y.port) net.bindings b of_p) in
      let port_of_c = eqb-true q.id.0 c.port.0 (kept_passes (λ (y : Binding). same q.id y.port) net.bindings c of_q) in
      lower_other p.id q.id lower (ap (λ n. record { 0 = n }) (port_of_b ∙ ap (λ (x : Binding). x.port.0) one ∙ sym port_of_c))

  -- the ports across a port rise
  across_rise : (port : RouterPort) → OfPairs (Before (λ (o : Port). o.id)) (across net port)
  across_rise port = by (peer_port net port)
    where
      by : (peer : Option Port) → OfPairs (Before (λ (o : Port). o.id)) (beside net peer)
      by None = tt
      by (Some peer) = pairs_filter (Before (λ (o : Port). o.id)) (is_beside peer) net.ports (ports_rise net sound)

  -- the load balancers of a router rise
  attached_rise : (router : Router) → OfPairs (Before (λ (b : Lb). b.id)) (lbs_of net router.id)
  attached_rise router = pairs_filter (Before (λ (b : Lb). b.id)) (is_attached net router.id) net.lbs (lbs_rise net sound)

  -- ---- kinds

  pub routers_once : KeysStandOnce by_number (router_units net)
  routers_once = stand_once number_exact (router_units net) (of_records_once (λ (r : Router). r.id) _ net.routers (routers_rise net sound))

  pub port_in_once : KeysStandOnce by_number (port_in_units net)
  port_in_once = stand_once number_exact (port_in_units net) (of_records_once (λ (p : RouterPort). p.id) (port_in_input net) net.router_ports (router_ports_rise net sound))

  pub port_route_once : KeysStandOnce by_number (port_route_units net)
  port_route_once = stand_once number_exact (port_route_units net) (of_records_once (λ (p : RouterPort). p.id) port_route_input net.router_ports (router_ports_rise net sound))

  pub static_route_once : KeysStandOnce by_number (static_route_units net)
  static_route_once = stand_once number_exact (static_route_units net) (of_records_once (λ (r : Route). r.id) (static_route_input net) net.routes (routes_rise net sound))

  pub binding_once : KeysStandOnce by_number (binding_units net)
  binding_once =
      stand_once number_exact (binding_units net)
      (pairs_flat_map OtherKeys (λ port. map (unit port) (bindings_of net port)) net.router_ports
      (every_from_members _ net.router_ports
      (λ port there.
      of_records_once (λ (b : Binding). b.id) (binding_input port) (bindings_of net port) (pairs_filter (Before (λ (b : Binding). b.id)) (λ b. same port.id b.port) net.bindings (bindings_rise net sound))))
      (pairs_as (Before (λ (p : RouterPort). p.id)) _ net.router_ports
      (λ p q lower u v in_u in_v e.
      let b = Contains-from_map (unit p) (bindings_of net p) u in_u in
      let c = Contains-from_map (unit q) (bindings_of net q) v in_v in
      two_bindings p q lower b.0 c.0 b.1 c.1 (ap (λ (w : ObjId × BindingInput). w.0) b.2 ∙ e ∙ sym (ap (λ (w : ObjId × BindingInput). w.0) c.2)))
      (router_ports_rise net sound)))
    where
      unit : RouterPort → Binding → ObjId × BindingInput
      unit port binding = (binding.id, binding_input port binding)

  pub neighbour_once : KeysStandOnce by_numbers (neighbour_units net)
  neighbour_once =
      stand_once numbers_exact (neighbour_units net)
      (of_pieces_once (λ (p : RouterPort). p.id) (λ (o : Port). o.id) (λ port. filter (has_hosts net) (across net port)) (neighbour_input net) net.router_ports (router_ports_rise net sound)
      (λ port. pairs_filter (Before (λ (o : Port). o.id)) (has_hosts net) (across net port) (across_rise port)))

  pub router_nat_once : KeysStandOnce by_number (router_nat_units net)
  router_nat_once = stand_once number_exact (router_nat_units net) (of_records_once (λ (r : Router). r.id) (router_nat_input net) net.routers (routers_rise net sound))

  pub nat_rule_once : KeysStandOnce by_number (nat_rule_units net)
  nat_rule_once = stand_once number_exact (nat_rule_units net) (of_records_once (λ (n : Nat). n.id) nat_rule_input net.nats (nats_rise net sound))

  pub vip_router_once : KeysStandOnce by_vip (vip_router_units net)
  vip_router_once =
      stand_once vip_exact (vip_router_units net)
      (of_balancers_once (λ (r : Router). r.id) (λ r. lbs_of net r.id) (λ (lb : Lb). lb.vips) (λ (vip : Vip). vip.at) vip_input net.routers (routers_rise net sound) attached_rise
      (λ r lb of_r. frontends_apart net sound lb (attached_member net sound r lb of_r)))

  pub vip_addr_once : KeysStandOnce by_addr (vip_addr_units net)
  vip_addr_once =
      stand_once addrs_exact (vip_addr_units net)
      (of_balancers_once (λ (r : Router). r.id) (λ r. lbs_of net r.id) (λ (lb : Lb). addresses_once lb.vips) (λ (addr : Ip4). addr) (λ lb addr. vip_addr_input addr) net.routers (routers_rise net sound) attached_rise
      (λ r lb of_r. once_apart lb.vips))
