-- The numbers of the objects that rows of routers are made for: they rise, and no two kinds have one.
use Rattle.std.proofs.Common.{◌≢◌, ◌<◌, List, [], ◌∷◌, ◌++◌}
use Rattle.std.specs.List.{Contains}
use Rattle.std.proofs.lemmas.List.Elements.{Contains-append_left, Contains-append_right}
use Rattle.nv_base.specs.declared.object.ObjId.{ObjId}
use Rattle.nb_records.specs.declared.balancer.Lb.{Lb}
use Rattle.nb_records.specs.declared.router.Binding.{Binding}
use Rattle.nb_records.specs.declared.router.Nat.{Nat}
use Rattle.nb_records.specs.declared.router.Route.{Route}
use Rattle.nb_records.specs.declared.router.Router.{Router}
use Rattle.nb_records.specs.declared.router.RouterPort.{RouterPort}
use Rattle.nb_records.specs.declared.switch.Port.{Port}
use Rattle.nb_model.specs.Network.{Network, same}
use Rattle.nb_model.specs.Sound.{IsSound, acl_ids, all_ids, binding_ids, group_ids, lb_ids, nat_ids, port_ids, route_ids, router_ids, router_port_ids, set_ids, switch_ids}
use Rattle.nb_model.proofs.Rising.{rises}
use Rattle.nv_table.specs.Table.{NumbersRise}
use Rattle.net_rows.proofs.Pairs.{OfPairs, pairs_parts}
use Rattle.net_rows.proofs.SoundObjects.{Unlike, unlike_numbers, unlike_pairs}

-- ---- numbers rise

-- of records whose numbers rise an earlier one has the lower number
abbrev pub Before : {R : Type 0} → (R → ObjId) → R → R → Type 0
Before number r s = (number r).0 < (number s).0

earlier : {R : Type 0} (number : R → ObjId) (rs : List R) → NumbersRise number rs → OfPairs (Before number) rs
earlier number [] rise = tt
earlier number (r ∷ rs) rise = (rise.0, earlier number rs rise.1)

module _ (net : Network) (sound : IsSound net) where
  pub routers_rise : OfPairs (Before (λ (r : Router). r.id)) net.routers
  routers_rise = earlier (λ (r : Router). r.id) net.routers (rises (λ (r : Router). r.id) net.routers sound.numbered.order.routers)

  pub router_ports_rise : OfPairs (Before (λ (p : RouterPort). p.id)) net.router_ports
  router_ports_rise = earlier (λ (p : RouterPort). p.id) net.router_ports (rises (λ (p : RouterPort). p.id) net.router_ports sound.numbered.order.router_ports)

  pub routes_rise : OfPairs (Before (λ (r : Route). r.id)) net.routes
  routes_rise = earlier (λ (r : Route). r.id) net.routes (rises (λ (r : Route). r.id) net.routes sound.numbered.order.routes)

  pub nats_rise : OfPairs (Before (λ (n : Nat). n.id)) net.nats
  nats_rise = earlier (λ (n : Nat). n.id) net.nats (rises (λ (n : Nat). n.id) net.nats sound.numbered.order.nats)

  pub lbs_rise : OfPairs (Before (λ (b : Lb). b.id)) net.lbs
  lbs_rise = earlier (λ (b : Lb). b.id) net.lbs (rises (λ (b : Lb). b.id) net.lbs sound.numbered.order.lbs)

  pub bindings_rise : OfPairs (Before (λ (b : Binding). b.id)) net.bindings
  bindings_rise = earlier (λ (b : Binding). b.id) net.bindings (rises (λ (b : Binding). b.id) net.bindings sound.numbered.order.bindings)

  pub ports_rise : OfPairs (Before (λ (p : Port). p.id)) net.ports
  ports_rise = earlier (λ (p : Port). p.id) net.ports (rises (λ (p : Port). p.id) net.ports sound.numbered.order.ports)

-- ---- no two kinds have one number

-- the numbers from a kind on
abbrev from_acls : Network → List ObjId
from_acls net = acl_ids net ++ (set_ids net ++ (group_ids net ++ binding_ids net))

abbrev from_lbs : Network → List ObjId
from_lbs net = lb_ids net ++ from_acls net

abbrev from_nats : Network → List ObjId
from_nats net = nat_ids net ++ from_lbs net

abbrev from_routes : Network → List ObjId
from_routes net = route_ids net ++ from_nats net

abbrev from_router_ports : Network → List ObjId
from_router_ports net = router_port_ids net ++ from_routes net

abbrev from_routers : Network → List ObjId
from_routers net = router_ids net ++ from_router_ports net

abbrev from_ports : Network → List ObjId
from_ports net = port_ids net ++ from_routers net

-- those of one kind are among those from a kind before it on
module _ (net : Network) (number : ObjId) where
  bindings_from_acls : Contains (binding_ids net) number → Contains (from_acls net) number
  bindings_from_acls there =
      Contains-append_right (acl_ids net) (set_ids net ++ (group_ids net ++ binding_ids net)) number
      (Contains-append_right (set_ids net) (group_ids net ++ binding_ids net) number (Contains-append_right (group_ids net) (binding_ids net) number there))

  bindings_from_nats : Contains (binding_ids net) number → Contains (from_nats net) number
  bindings_from_nats there = Contains-append_right (nat_ids net) (from_lbs net) number (Contains-append_right (lb_ids net) (from_acls net) number (bindings_from_acls there))

  lbs_from_nats : Contains (lb_ids net) number → Contains (from_nats net) number
  lbs_from_nats there = Contains-append_right (nat_ids net) (from_lbs net) number (Contains-append_left (lb_ids net) (from_acls net) number there)

  -- after the numbers of routes
  later_routes : Contains (from_nats net) number → Contains (from_routes net) number
  later_routes there = Contains-append_right (route_ids net) (from_nats net) number there

  -- after those of ports of routers
  later_ports : Contains (from_routes net) number → Contains (from_routers net) number
  later_ports there = Contains-append_right (router_ids net) (from_router_ports net) number (Contains-append_right (router_port_ids net) (from_routes net) number there)

-- numbers that are told apart by the test
abbrev Apart : List ObjId → List ObjId → Type 0
Apart xs ys = (x y : ObjId) → Contains xs x → Contains ys y → x.0 ≢ y.0

abbrev Parts : List ObjId → List ObjId → Type 0
Parts xs ys = OfPairs (Unlike same) ys × Apart xs ys

parts : (xs ys : List ObjId) → OfPairs (Unlike same) (xs ++ ys) → Parts xs ys
parts xs ys of = let both = pairs_parts (Unlike same) xs ys of in (both.1, λ x y in_xs in_ys. unlike_numbers x.0 y.0 (both.2 x y in_xs in_ys))

module _ (net : Network) (sound : IsSound net) where
  switches_first : Parts (switch_ids net) (from_ports net)
  switches_first = parts (switch_ids net) (from_ports net) (unlike_pairs same (all_ids net) sound.numbered.apart)

  ports_first : Parts (port_ids net) (from_routers net)
  ports_first = parts (port_ids net) (from_routers net) switches_first.0

  router_ports_first : Parts (router_port_ids net) (from_routes net)
  router_ports_first = parts (router_port_ids net) (from_routes net) (parts (router_ids net) (from_router_ports net) ports_first.0).0

  routes_first : Parts (route_ids net) (from_nats net)
  routes_first = parts (route_ids net) (from_nats net) router_ports_first.0

  nats_first : Parts (nat_ids net) (from_lbs net)
  nats_first = parts (nat_ids net) (from_lbs net) routes_first.0

  -- of switches and routers
  pub switch_is_no_router : Apart (switch_ids net) (router_ids net)
  switch_is_no_router x y in_xs in_ys =
      switches_first.1 x y in_xs (Contains-append_right (port_ids net) (from_routers net) y (Contains-append_left (router_ids net) (from_router_ports net) y in_ys))

  -- of ports of switches and others
  pub port_is_no_router_port : Apart (port_ids net) (router_port_ids net)
  port_is_no_router_port x y in_xs in_ys =
      ports_first.1 x y in_xs (Contains-append_right (router_ids net) (from_router_ports net) y (Contains-append_left (router_port_ids net) (from_routes net) y in_ys))

  pub port_is_no_route : Apart (port_ids net) (route_ids net)
  port_is_no_route x y in_xs in_ys = ports_first.1 x y in_xs (later_ports net y (Contains-append_left (route_ids net) (from_nats net) y in_ys))

  pub port_is_no_binding : Apart (port_ids net) (binding_ids net)
  port_is_no_binding x y in_xs in_ys = ports_first.1 x y in_xs (later_ports net y (later_routes net y (bindings_from_nats net y in_ys)))

  -- of ports of routers and others
  pub router_port_is_no_route : Apart (router_port_ids net) (route_ids net)
  router_port_is_no_route x y in_xs in_ys = router_ports_first.1 x y in_xs (Contains-append_left (route_ids net) (from_nats net) y in_ys)

  pub router_port_is_no_nat : Apart (router_port_ids net) (nat_ids net)
  router_port_is_no_nat x y in_xs in_ys = router_ports_first.1 x y in_xs (later_routes net y (Contains-append_left (nat_ids net) (from_lbs net) y in_ys))

  pub router_port_is_no_lb : Apart (router_port_ids net) (lb_ids net)
  router_port_is_no_lb x y in_xs in_ys = router_ports_first.1 x y in_xs (later_routes net y (lbs_from_nats net y in_ys))

  pub router_port_is_no_binding : Apart (router_port_ids net) (binding_ids net)
  router_port_is_no_binding x y in_xs in_ys = router_ports_first.1 x y in_xs (later_routes net y (bindings_from_nats net y in_ys))

  -- of routes and bindings, of NAT rules and load balancers
  pub route_is_no_binding : Apart (route_ids net) (binding_ids net)
  route_is_no_binding x y in_xs in_ys = routes_first.1 x y in_xs (bindings_from_nats net y in_ys)

  pub nat_is_no_lb : Apart (nat_ids net) (lb_ids net)
  nat_is_no_lb x y in_xs in_ys = nats_first.1 x y in_xs (Contains-append_left (lb_ids net) (from_acls net) y in_ys)
