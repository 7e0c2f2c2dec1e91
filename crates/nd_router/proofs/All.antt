-- The rows that are made of a router's objects are the rows on it; those on each router are all.
use Rattle.std.proofs.Common.{◌≡◌, true, List, [], ◌++◌, append_assoc, sym, ap, subst, ◌∙◌, inl, inr, ◌⊎◌}
use Rattle.std.specs.Prelude.{◌↔◌, Some, filter}
use Rattle.std.specs.List.{AllByRecursion, Contains, flat_map}
use Rattle.std.proofs.lemmas.Bool.{eq-eqb}
use Rattle.std.proofs.lemmas.List.Elements.{Contains-append_cases, Contains-append_left, Contains-append_right}
use Rattle.nv_base.specs.declared.ip4.Ip4.{Ip4}
use Rattle.nv_base.specs.declared.object.ObjId.{ObjId}
use Rattle.nb_records.specs.declared.balancer.Frontend.{Frontend}
use Rattle.nb_records.specs.declared.balancer.Lb.{Lb}
use Rattle.nb_records.specs.declared.balancer.Vip.{Vip}
use Rattle.nb_records.specs.declared.router.Binding.{Binding}
use Rattle.nb_records.specs.declared.router.Nat.{Nat}
use Rattle.nb_records.specs.declared.router.Route.{Route}
use Rattle.nb_records.specs.declared.router.Router.{Router}
use Rattle.nb_records.specs.declared.router.RouterPort.{RouterPort}
use Rattle.nb_records.specs.declared.switch.Port.{Port}
use Rattle.nb_model.specs.Network.{Network, same}
use Rattle.nb_model.specs.Sound.{IsSound, router_ids}
use Rattle.nb_router.specs.Vocabulary.{dnats, lbs_of, nats_of, ports_of}
use Rattle.nv_table.specs.Table.{has_number, record_of}
use Rattle.nv_table.proofs.Found.{found_there}
use Rattle.sb_model.specs.declared.row.Row.{Row}
use Rattle.net_rows.specs.Unit.{said_by, unit_of, unit_of_datapath}
use Rattle.net_rows.specs.declared.rule.Rule.{Rule}
use Rattle.net_rows.specs.declared.rule.Unit.{Unit}
use Rattle.net_rows.proofs.Elements.{any_gives, Contains-filter, Contains-flat_map, Contains-from_filter, Contains-from_flat_map, Contains-from_map}
use Rattle.net_rows.proofs.Pairs.{every_from_members, every_member}
use Rattle.lr_rows.specs.Balancers.{vip_addr_rules, vip_router_rules}
use Rattle.lr_rows.specs.Input.{port_in_rules, router_in_rules}
use Rattle.lr_rows.specs.Nat.{nat_rules, router_nat_rules}
use Rattle.lr_rows.specs.Neighbours.{binding_rules, neighbour_rules}
use Rattle.lr_rows.specs.Routes.{port_route_rules, router_route_rules, static_route_rules}
use Rattle.lr_rows.specs.declared.inputs.BindingInput.{BindingInput}
use Rattle.lr_rows.specs.declared.inputs.NatRuleInput.{NatRuleInput}
use Rattle.lr_rows.specs.declared.inputs.NeighbourInput.{NeighbourInput}
use Rattle.lr_rows.specs.declared.inputs.PortInInput.{PortInInput}
use Rattle.lr_rows.specs.declared.inputs.PortRouteInput.{PortRouteInput}
use Rattle.lr_rows.specs.declared.inputs.RouterNatInput.{RouterNatInput}
use Rattle.lr_rows.specs.declared.inputs.StaticRouteInput.{StaticRouteInput}
use Rattle.lr_rows.specs.declared.inputs.VipAddrInput.{VipAddrInput}
use Rattle.net_rows.specs.declared.inputs.VipInput.{VipInput}
use Rattle.lr_units.specs.Build.{router_rows, rows_of}
use Rattle.lr_units.specs.Units.{binding_input, binding_units, bindings_of, has_hosts, nat_rule_input, nat_rule_units, neighbour_input, neighbour_units, port_in_input, port_in_units, port_route_input, port_route_units, router_nat_input, router_nat_units, router_units, static_route_input, static_route_units, vip_addr_input, vip_addr_units, vip_router_units}
use Rattle.lr_units.specs.Words.{across, addresses_once}
use Rattle.lr_units.proofs.Datapaths.{row_on_router}
use Rattle.lr_units.proofs.Sources.{EachKind, each_of_balancers, each_of_map, each_of_pieces, every_row}
use Rattle.nd_router.specs.Members.{HaveSameRows}
use Rattle.nd_router.specs.Router.{rows_on}
use Rattle.nd_router.specs.inner.Made.{balancer_rows, binding_rows, made_rows, nat_rows, neighbour_rows, own_rows, port_rows, reached_rows, route_rows, routes_of, rows_across, vip_rows}
use Rattle.nd_inputs.specs.inner.Numbered.{of_number}
use Rattle.nd_router.proofs.Among.{has_rows, in_balancers, in_map, in_pieces, of_binding, of_nat_rule, of_neighbour, of_port_in, of_port_route, of_router_in, of_router_nat, of_router_route, of_static_route, of_vip_addr, of_vip_router, on_unit, once_from, once_has}
use Rattle.nd_inputs.proofs.Any.{is_that, kept_passes, same_turned}
use Rattle.nd_inputs.proofs.Attached.{from_attached, to_attached}
use Rattle.nd_router.proofs.Same.{same_equal, same_through}
use Rattle.net_rows.specs.Build.{vip_input}

-- parts that come one after the other
pub three_parts : (old first second third a b c : List Row) → first ≡ old ++ a → second ≡ first ++ b → third ≡ second ++ c → third ≡ old ++ (a ++ (b ++ c))
three_parts old first second third a b c is_first is_second is_third =
    is_third ∙ ap (λ rows. rows ++ c) (is_second ∙ ap (λ rows. rows ++ b) is_first) ∙ ap (λ rows. rows ++ c) (append_assoc old a b) ∙ append_assoc old (a ++ b) c ∙ ap (λ rows. old ++ rows) (append_assoc a b c)

-- ---- each row that is made is one of the network's routers, on the datapath of its unit

module _ (net : Network) (row : Row) where
  -- it is among the rows of routers, on this one
  abbrev IsOn : ObjId → Type 0
  IsOn router = Contains (router_rows net) row × (router ≡ row.dp)

  own_is : (router : Router) → Contains net.routers router → Contains (own_rows net router.id) row → IsOn router.id
  unfolding own_rows
  own_is router there at = by (Contains-append_cases entering (routing ++ translating) row at)
    where
      entering : List Row
      entering = said_by (unit_of_datapath router.id) router_in_rules

      routing : List Row
      routing = said_by (unit_of_datapath router.id) router_route_rules

      translating : List Row
      translating = said_by (unit_of_datapath router.id) (router_nat_rules (router_nat_input net router))

      rest : Contains routing row ⊎ Contains translating row → IsOn router.id
      rest (inl said) = (
        of_router_route net row (in_map (λ own input. unit_of_datapath own) (λ input. router_route_rules) (λ (r : Router). (r.id, tt)) net.routers router row there said),
        on_unit (unit_of_datapath router.id) router_route_rules row said,
      )
      rest (inr said) = (
        of_router_nat net row (in_map (λ own input. unit_of_datapath own) router_nat_rules (λ (r : Router). (r.id, router_nat_input net r)) net.routers router row there said),
        on_unit (unit_of_datapath router.id) (router_nat_rules (router_nat_input net router)) row said,
      )

      by : Contains entering row ⊎ Contains (routing ++ translating) row → IsOn router.id
      by (inl said) = (
        of_router_in net row (in_map (λ own input. unit_of_datapath own) (λ input. router_in_rules) (λ (r : Router). (r.id, tt)) net.routers router row there said),
        on_unit (unit_of_datapath router.id) router_in_rules row said,
      )
      by (inr later) = rest (Contains-append_cases routing translating row later)

  module _ (port : RouterPort) (there : Contains net.router_ports port) where
    reached_is : Contains (reached_rows port.id (port_in_input net port)) row → IsOn port.router
    unfolding reached_rows
    reached_is at = by (Contains-append_cases entering routed row at)
      where
        entering : List Row
        entering = said_by (unit_of port.router port.id) (port_in_rules (port_in_input net port))

        routed : List Row
        routed = said_by (unit_of port.router port.id) (port_route_rules (port_route_input port))

        by : Contains entering row ⊎ Contains routed row → IsOn port.router
        by (inl said) = (
          of_port_in net row (in_map (λ p (input : PortInInput). unit_of input.dp p) port_in_rules (λ (p : RouterPort). (p.id, port_in_input net p)) net.router_ports port row there said),
          on_unit (unit_of port.router port.id) (port_in_rules (port_in_input net port)) row said,
        )
        by (inr said) = (
          of_port_route net row (in_map (λ p (input : PortRouteInput). unit_of input.dp p) port_route_rules (λ (p : RouterPort). (p.id, port_route_input p)) net.router_ports port row there said),
          on_unit (unit_of port.router port.id) (port_route_rules (port_route_input port)) row said,
        )

    binding_is : (binding : Binding) → Contains (bindings_of net port) binding → Contains (binding_rows port binding) row → IsOn port.router
    unfolding binding_rows
    binding_is binding of_port said = (
      of_binding net row (in_pieces (λ b (input : BindingInput). unit_of input.dp b) binding_rules (bindings_of net) (λ p (b : Binding). (b.id, binding_input p b)) net.router_ports port binding row there of_port said),
      on_unit (unit_of port.router binding.id) (binding_rules (binding_input port binding)) row said,
    )

    neighbour_is : (other : Port) → Contains (across net port) other → Contains (neighbour_rows net port other) row → IsOn port.router
    unfolding neighbour_rows
    neighbour_is other beside said =
        let kept = Contains-filter (has_hosts net) (across net port) other beside (has_rows (unit_of port.router other.id) (neighbour_input net port other) row said) in (
          of_neighbour net row
              (in_pieces (λ (ports : ObjId × ObjId) (input : NeighbourInput). unit_of input.dp ports.1) neighbour_rules (λ p. filter (has_hosts net) (across net p)) (λ (p : RouterPort) (o : Port). ((p.id, o.id), neighbour_input net p o)) net.router_ports port other row there
              kept said),
          on_unit (unit_of port.router other.id) (neighbour_rules (neighbour_input net port other)) row said,
        )

    port_is : Contains (port_rows net port) row → IsOn port.router
    unfolding port_rows
    port_is at = by (Contains-append_cases (reached_rows port.id (port_in_input net port)) (of_bindings ++ rows_across net port) row at)
      where
        of_bindings : List Row
        of_bindings = flat_map (binding_rows port) (bindings_of net port)

        rest : Contains of_bindings row ⊎ Contains (rows_across net port) row → IsOn port.router
        rest (inl of) = let from = Contains-from_flat_map (binding_rows port) (bindings_of net port) row of in binding_is from.0 from.1 from.2
        rest (inr of) = let from = Contains-from_flat_map (neighbour_rows net port) (across net port) row of in neighbour_is from.0 from.1 from.2

        by : Contains (reached_rows port.id (port_in_input net port)) row ⊎ Contains (of_bindings ++ rows_across net port) row → IsOn port.router
        by (inl reached) = reached_is reached
        by (inr later) = rest (Contains-append_cases of_bindings (rows_across net port) row later)

  route_is : (route : Route) → Contains net.routes route → Contains (route_rows net route) row → IsOn route.router
  unfolding route_rows
  route_is route there said = (
    of_static_route net row (in_map (λ r (input : StaticRouteInput). unit_of input.dp r) static_route_rules (λ (r : Route). (r.id, static_route_input net r)) net.routes route row there said),
    on_unit (unit_of route.router route.id) (static_route_rules (static_route_input net route)) row said,
  )

  nat_is : (nat : Nat) → Contains net.nats nat → Contains (nat_rows nat) row → IsOn nat.router
  unfolding nat_rows
  nat_is nat there said = (
    of_nat_rule net row (in_map (λ n (input : NatRuleInput). unit_of input.dp n) nat_rules (λ (n : Nat). (n.id, nat_rule_input n)) net.nats nat row there said),
    on_unit (unit_of nat.router nat.id) (nat_rules (nat_rule_input nat)) row said,
  )

  vip_is : (router : Router) (lb : Lb) (vip : Vip) → Contains net.routers router → Contains (lbs_of net router.id) lb → Contains lb.vips vip → Contains (vip_rows router.id lb vip) row → IsOn router.id
  unfolding vip_rows
  vip_is router lb vip there attached in_lb at = by (Contains-append_cases balanced told row at)
    where
      balanced : List Row
      balanced = said_by (unit_of router.id lb.id) (vip_router_rules (vip_input lb vip))

      told : List Row
      told = said_by (unit_of router.id lb.id) (vip_addr_rules (vip_addr_input vip.at.addr))

      by : Contains balanced row ⊎ Contains told row → IsOn router.id
      by (inl said) = (
        of_vip_router net row
            (in_balancers (λ (key : ObjId × Frontend × ObjId) input. unit_of key.2 key.0) vip_router_rules net (λ (b : Lb). b.vips) (λ own b (v : Vip). ((b.id, v.at, own.id), vip_input b v)) router lb vip row there attached in_lb said),
        on_unit (unit_of router.id lb.id) (vip_router_rules (vip_input lb vip)) row said,
      )
      by (inr said) = (
        of_vip_addr net row
            (in_balancers (λ (key : ObjId × Ip4 × ObjId) input. unit_of key.2 key.0) vip_addr_rules net (λ (b : Lb). addresses_once b.vips) (λ own b (addr : Ip4). ((b.id, addr, own.id), vip_addr_input addr)) router lb vip.at.addr row there attached
            (once_has lb.vips vip in_lb) said),
        on_unit (unit_of router.id lb.id) (vip_addr_rules (vip_addr_input vip.at.addr)) row said,
      )

module _ (net : Network) (sound : IsSound net) (router : Router) (there : record_of (λ (r : Router). r.id) router.id net.routers ≡ Some router) where
  abbrev of_ports : List Row
  of_ports = flat_map (port_rows net) (ports_of net router.id)

  abbrev of_routes : List Row
  of_routes = flat_map (route_rows net) (routes_of net router.id)

  abbrev of_nats : List Row
  of_nats = flat_map nat_rows (nats_of net router.id)

  abbrev of_lbs : List Row
  of_lbs = flat_map (of_number net (balancer_rows router.id)) router.lbs

  -- those of a record of the router
  at_router : {R : Type 0} (row : Row) (owner : R → ObjId) (give : R → List Row) (rs : List R) → ((r : R) → Contains rs r → Contains (give r) row → IsOn net row (owner r)) → Contains (flat_map give (filter (λ r. same router.id (owner r)) rs)) row → IsOn net row router.id
  at_router row owner give rs each at =
      let from = Contains-from_flat_map give (filter (λ r. same router.id (owner r)) rs) row at in
      let is = each from.0 (Contains-from_filter (λ r. same router.id (owner r)) rs from.0 from.1) from.2 in
      (is.0, is_that router.id (owner from.0) (kept_passes (λ r. same router.id (owner r)) rs from.0 from.1) ∙ is.1)

  module _ (row : Row) where
    is_one : Contains net.routers router
    is_one = (found_there (has_number (λ (r : Router). r.id) router.id) router net.routers there).0

    lbs_are : Contains of_lbs row → IsOn net row router.id
    lbs_are at =
        let of_lb = Contains-from_flat_map (balancer_rows router.id) (lbs_of net router.id) row (to_attached net sound router there (balancer_rows router.id) row at) in
        let of_vip = Contains-from_flat_map (vip_rows router.id of_lb.0) of_lb.0.vips row of_lb.2 in
        vip_is net row router of_lb.0 of_vip.0 is_one of_lb.1 of_vip.1 of_vip.2

    nats_are : Contains of_nats row ⊎ Contains of_lbs row → IsOn net row router.id
    nats_are (inl at) = at_router row (λ (n : Nat). n.router) nat_rows net.nats (nat_is net row) at
    nats_are (inr at) = lbs_are at

    routes_are : Contains of_routes row ⊎ Contains (of_nats ++ of_lbs) row → IsOn net row router.id
    routes_are (inl at) = at_router row (λ (r : Route). r.router) (route_rows net) net.routes (route_is net row) at
    routes_are (inr later) = nats_are (Contains-append_cases of_nats of_lbs row later)

    ports_are : Contains of_ports row ⊎ Contains (of_routes ++ (of_nats ++ of_lbs)) row → IsOn net row router.id
    ports_are (inl at) = at_router row (λ (p : RouterPort). p.router) (port_rows net) net.router_ports (port_is net row) at
    ports_are (inr later) = routes_are (Contains-append_cases of_routes (of_nats ++ of_lbs) row later)

    made_are : Contains (own_rows net router.id) row ⊎ Contains (of_ports ++ (of_routes ++ (of_nats ++ of_lbs))) row → IsOn net row router.id
    made_are (inl at) = own_is net row router is_one at
    made_are (inr later) = ports_are (Contains-append_cases of_ports (of_routes ++ (of_nats ++ of_lbs)) row later)

    made_is_on : Contains (made_rows net router) row → IsOn net row router.id
    made_is_on at = made_are (Contains-append_cases (own_rows net router.id) (of_ports ++ (of_routes ++ (of_nats ++ of_lbs))) row at)

  -- ---- each row of the network's routers on this one is made

  -- the rows of each kind of unit, by the order in which they are made
  module _ (row : Row) where
    in_own : Contains (own_rows net router.id) row → Contains (made_rows net router) row
    in_own at = Contains-append_left (own_rows net router.id) (of_ports ++ (of_routes ++ (of_nats ++ of_lbs))) row at

    after_own : Contains (of_ports ++ (of_routes ++ (of_nats ++ of_lbs))) row → Contains (made_rows net router) row
    after_own at = Contains-append_right (own_rows net router.id) (of_ports ++ (of_routes ++ (of_nats ++ of_lbs))) row at

    after_ports : Contains (of_routes ++ (of_nats ++ of_lbs)) row → Contains (made_rows net router) row
    after_ports at = after_own (Contains-append_right of_ports (of_routes ++ (of_nats ++ of_lbs)) row at)

    after_routes : Contains (of_nats ++ of_lbs) row → Contains (made_rows net router) row
    after_routes at = after_ports (Contains-append_right of_routes (of_nats ++ of_lbs) row at)

    in_port : (port : RouterPort) → Contains net.router_ports port → same router.id port.router ≡ true → Contains (port_rows net port) row → Contains (made_rows net router) row
    in_port port one on at =
        after_own
        (Contains-append_left of_ports (of_routes ++ (of_nats ++ of_lbs)) row
        (Contains-flat_map (port_rows net) (ports_of net router.id) port row (Contains-filter (λ (p : RouterPort). same router.id p.router) net.router_ports port one on) at))

    in_route : (route : Route) → Contains net.routes route → same router.id route.router ≡ true → Contains (route_rows net route) row → Contains (made_rows net router) row
    in_route route one on at =
        after_ports
        (Contains-append_left of_routes (of_nats ++ of_lbs) row (Contains-flat_map (route_rows net) (routes_of net router.id) route row (Contains-filter (λ (r : Route). same router.id r.router) net.routes route one on) at))

    in_nat : (nat : Nat) → Contains net.nats nat → same router.id nat.router ≡ true → Contains (nat_rows nat) row → Contains (made_rows net router) row
    in_nat nat one on at =
        after_routes (Contains-append_left of_nats of_lbs row (Contains-flat_map nat_rows (nats_of net router.id) nat row (Contains-filter (λ (n : Nat). same router.id n.router) net.nats nat one on) at))

    -- of another router of this number
    in_vip : (number : ObjId) (lb : Lb) (vip : Vip) → same router.id number ≡ true → Contains (lbs_of net number) lb → Contains lb.vips vip → Contains (vip_rows number lb vip) row → Contains (made_rows net router) row
    in_vip number lb vip on attached in_lb at =
        let is = sym (is_that router.id number on) in
        after_routes
        (Contains-append_right of_nats of_lbs row
        (from_attached net sound router there (balancer_rows router.id) row
        (Contains-flat_map (balancer_rows router.id) (lbs_of net router.id) lb row (subst (λ (n : ObjId). Contains (lbs_of net n) lb) is attached)
        (Contains-flat_map (vip_rows router.id lb) lb.vips vip row in_lb (subst (λ (n : ObjId). Contains (vip_rows n lb vip) row) is at)))))

    own_of : (number : ObjId) → same router.id number ≡ true → Contains (own_rows net number) row → Contains (made_rows net router) row
    own_of number on at = in_own (subst (λ (n : ObjId). Contains (own_rows net n) row) (sym (is_that router.id number on)) at)

  -- a row on the router is made
  abbrev IsMade : Row → Type 0
  IsMade row = same router.id row.dp ≡ true → Contains (made_rows net router) row

  -- a unit on the router has rows that are made
  abbrev HasMade : Unit → List Rule → Type 0
  HasMade unit rules = same router.id unit.dp ≡ true → (row : Row) → Contains (said_by unit rules) row → Contains (made_rows net router) row

  of_kind : {K I : Type 0} (unit_for : K → I → Unit) (rules_of : I → List Rule) (units : List (K × I)) → ((u : K × I) → Contains units u → HasMade (unit_for u.0 u.1) (rules_of u.1)) → AllByRecursion IsMade (rows_of unit_for rules_of units)
  of_kind unit_for rules_of units each =
      every_from_members IsMade (rows_of unit_for rules_of units)
      (λ row at on.
      let from = Contains-from_flat_map (λ u. said_by (unit_for u.0 u.1) (rules_of u.1)) units row at in
      each from.0 from.1 (subst (λ (dp : ObjId). same router.id dp ≡ true) (sym (on_unit (unit_for from.0.0 from.0.1) (rules_of from.0.1) row from.2)) on) row from.2)

  router_in_made : (number : ObjId) → HasMade (unit_of_datapath number) router_in_rules
  unfolding own_rows
  router_in_made number on row at =
      own_of row number on
      (Contains-append_left (said_by (unit_of_datapath number) router_in_rules) (said_by (unit_of_datapath number) router_route_rules ++ said_by (unit_of_datapath number) (router_nat_rules (record { dnats = dnats net number }))) row at)

  router_route_made : (number : ObjId) → HasMade (unit_of_datapath number) router_route_rules
  unfolding own_rows
  router_route_made number on row at =
      own_of row number on
      (Contains-append_right (said_by (unit_of_datapath number) router_in_rules) (said_by (unit_of_datapath number) router_route_rules ++ said_by (unit_of_datapath number) (router_nat_rules (record { dnats = dnats net number }))) row
      (Contains-append_left (said_by (unit_of_datapath number) router_route_rules) (said_by (unit_of_datapath number) (router_nat_rules (record { dnats = dnats net number }))) row at))

  router_nat_made : (number : ObjId) → HasMade (unit_of_datapath number) (router_nat_rules (record { dnats = dnats net number }))
  unfolding own_rows
  router_nat_made number on row at =
      own_of row number on
      (Contains-append_right (said_by (unit_of_datapath number) router_in_rules) (said_by (unit_of_datapath number) router_route_rules ++ said_by (unit_of_datapath number) (router_nat_rules (record { dnats = dnats net number }))) row
      (Contains-append_right (said_by (unit_of_datapath number) router_route_rules) (said_by (unit_of_datapath number) (router_nat_rules (record { dnats = dnats net number }))) row at))

  module _ (port : RouterPort) (one : Contains net.router_ports port) where
    abbrev later : List Row
    later = flat_map (binding_rows port) (bindings_of net port) ++ rows_across net port

    port_in_made : HasMade (unit_of port.router port.id) (port_in_rules (port_in_input net port))
    unfolding port_rows reached_rows
    port_in_made on row at =
        in_port row port one on
        (Contains-append_left (reached_rows port.id (port_in_input net port)) later row
        (Contains-append_left (said_by (unit_of port.router port.id) (port_in_rules (port_in_input net port))) (said_by (unit_of port.router port.id) (port_route_rules (port_route_input port))) row at))

    port_route_made : HasMade (unit_of port.router port.id) (port_route_rules (port_route_input port))
    unfolding port_rows reached_rows
    port_route_made on row at =
        in_port row port one on
        (Contains-append_left (reached_rows port.id (port_in_input net port)) later row
        (Contains-append_right (said_by (unit_of port.router port.id) (port_in_rules (port_in_input net port))) (said_by (unit_of port.router port.id) (port_route_rules (port_route_input port))) row at))

    binding_made : (binding : Binding) → Contains (bindings_of net port) binding → HasMade (unit_of port.router binding.id) (binding_rules (binding_input port binding))
    unfolding port_rows binding_rows
    binding_made binding of_port on row at =
        in_port row port one on
        (Contains-append_right (reached_rows port.id (port_in_input net port)) later row
        (Contains-append_left (flat_map (binding_rows port) (bindings_of net port)) (rows_across net port) row (Contains-flat_map (binding_rows port) (bindings_of net port) binding row of_port at)))

    neighbour_made : (other : Port) → Contains (filter (has_hosts net) (across net port)) other → HasMade (unit_of port.router other.id) (neighbour_rules (neighbour_input net port other))
    unfolding port_rows neighbour_rows
    neighbour_made other kept on row at =
        in_port row port one on
        (Contains-append_right (reached_rows port.id (port_in_input net port)) later row
        (Contains-append_right (flat_map (binding_rows port) (bindings_of net port)) (rows_across net port) row
        (Contains-flat_map (neighbour_rows net port) (across net port) other row (Contains-from_filter (has_hosts net) (across net port) other kept) at)))

  route_made : (route : Route) → Contains net.routes route → HasMade (unit_of route.router route.id) (static_route_rules (static_route_input net route))
  unfolding route_rows
  route_made route one on row at = in_route row route one on at

  nat_made : (nat : Nat) → Contains net.nats nat → HasMade (unit_of nat.router nat.id) (nat_rules (nat_rule_input nat))
  unfolding nat_rows
  nat_made nat one on row at = in_nat row nat one on at

  module _ (own : Router) (lb : Lb) (attached : Contains (lbs_of net own.id) lb) where
    vip_router_made : (vip : Vip) → Contains lb.vips vip → HasMade (unit_of own.id lb.id) (vip_router_rules (vip_input lb vip))
    unfolding vip_rows
    vip_router_made vip in_lb on row at =
        in_vip row own.id lb vip on attached in_lb
        (Contains-append_left (said_by (unit_of own.id lb.id) (vip_router_rules (vip_input lb vip))) (said_by (unit_of own.id lb.id) (vip_addr_rules (vip_addr_input vip.at.addr))) row at)

    vip_addr_made : (addr : Ip4) → Contains (addresses_once lb.vips) addr → HasMade (unit_of own.id lb.id) (vip_addr_rules (vip_addr_input addr))
    unfolding vip_rows
    vip_addr_made addr once on row at =
        let from = once_from lb.vips addr once in
        in_vip row own.id lb from.0 on attached from.1
        (Contains-append_right (said_by (unit_of own.id lb.id) (vip_router_rules (vip_input lb from.0))) (said_by (unit_of own.id lb.id) (vip_addr_rules (vip_addr_input from.0.at.addr))) row
        (subst (λ (a : Ip4). Contains (said_by (unit_of own.id lb.id) (vip_addr_rules (vip_addr_input a))) row) (sym from.2) at))

  each_made : EachKind IsMade net
  each_made = record {
    router_in =
        of_kind (λ own input. unit_of_datapath own) (λ input. router_in_rules) (router_units net)
        (each_of_map (λ u. HasMade (unit_of_datapath u.0) router_in_rules) (λ (r : Router). (r.id, tt)) net.routers (λ r one. router_in_made r.id));
    port_in =
        of_kind (λ p (input : PortInInput). unit_of input.dp p) port_in_rules (port_in_units net)
        (each_of_map (λ (u : ObjId × PortInInput). HasMade (unit_of u.1.dp u.0) (port_in_rules u.1)) (λ (p : RouterPort). (p.id, port_in_input net p)) net.router_ports port_in_made);
    router_route =
        of_kind (λ own input. unit_of_datapath own) (λ input. router_route_rules) (router_units net)
        (each_of_map (λ u. HasMade (unit_of_datapath u.0) router_route_rules) (λ (r : Router). (r.id, tt)) net.routers (λ r one. router_route_made r.id));
    port_route =
        of_kind (λ p (input : PortRouteInput). unit_of input.dp p) port_route_rules (port_route_units net)
        (each_of_map (λ (u : ObjId × PortRouteInput). HasMade (unit_of u.1.dp u.0) (port_route_rules u.1)) (λ (p : RouterPort). (p.id, port_route_input p)) net.router_ports port_route_made);
    static_route =
        of_kind (λ r (input : StaticRouteInput). unit_of input.dp r) static_route_rules (static_route_units net)
        (each_of_map (λ (u : ObjId × StaticRouteInput). HasMade (unit_of u.1.dp u.0) (static_route_rules u.1)) (λ (r : Route). (r.id, static_route_input net r)) net.routes route_made);
    binding =
        of_kind (λ b (input : BindingInput). unit_of input.dp b) binding_rules (binding_units net)
        (each_of_pieces (λ (u : ObjId × BindingInput). HasMade (unit_of u.1.dp u.0) (binding_rules u.1)) (bindings_of net) (λ p (b : Binding). (b.id, binding_input p b)) net.router_ports binding_made);
    neighbour =
        of_kind (λ (ports : ObjId × ObjId) (input : NeighbourInput). unit_of input.dp ports.1) neighbour_rules (neighbour_units net)
        (each_of_pieces (λ (u : (ObjId × ObjId) × NeighbourInput). HasMade (unit_of u.1.dp u.0.1) (neighbour_rules u.1)) (λ p. filter (has_hosts net) (across net p)) (λ p (o : Port). ((p.id, o.id), neighbour_input net p o)) net.router_ports neighbour_made);
    router_nat =
        of_kind (λ own input. unit_of_datapath own) router_nat_rules (router_nat_units net)
        (each_of_map (λ (u : ObjId × RouterNatInput). HasMade (unit_of_datapath u.0) (router_nat_rules u.1)) (λ (r : Router). (r.id, router_nat_input net r)) net.routers (λ r one. router_nat_made r.id));
    nat_rule =
        of_kind (λ n (input : NatRuleInput). unit_of input.dp n) nat_rules (nat_rule_units net)
        (each_of_map (λ (u : ObjId × NatRuleInput). HasMade (unit_of u.1.dp u.0) (nat_rules u.1)) (λ (n : Nat). (n.id, nat_rule_input n)) net.nats nat_made);
    vip_router =
        of_kind (λ (key : ObjId × Frontend × ObjId) input. unit_of key.2 key.0) vip_router_rules (vip_router_units net)
        (each_of_balancers (λ (u : (ObjId × Frontend × ObjId) × VipInput). HasMade (unit_of u.0.2 u.0.0) (vip_router_rules u.1)) net (λ (b : Lb). b.vips) (λ own b (v : Vip). ((b.id, v.at, own.id), vip_input b v))
        (λ own one b attached. vip_router_made own b attached));
    vip_addr =
        of_kind (λ (key : ObjId × Ip4 × ObjId) input. unit_of key.2 key.0) vip_addr_rules (vip_addr_units net)
        (each_of_balancers (λ (u : (ObjId × Ip4 × ObjId) × VipAddrInput). HasMade (unit_of u.0.2 u.0.0) (vip_addr_rules u.1)) net (λ (b : Lb). addresses_once b.vips) (λ own b (addr : Ip4). ((b.id, addr, own.id), vip_addr_input addr))
        (λ own one b attached. vip_addr_made own b attached));
  }

  -- ---- so what is made are the rows on the router

  pub made_on : HaveSameRows (made_rows net router) (rows_on net router.id)
  unfolding rows_on
  made_on = record {
    members = λ row. (
      λ at. let is = made_is_on row at in Contains-filter (λ r. same router.id r.dp) (router_rows net) row is.0 (eq-eqb router.id.0 row.dp.0 (ap (λ (n : ObjId). n.0) is.1)),
      λ at. every_member IsMade (router_rows net) row (every_row IsMade net each_made) (Contains-from_filter (λ r. same router.id r.dp) (router_rows net) row at) (kept_passes (λ r. same router.id r.dp) (router_rows net) row at),
    );
  }

  -- and so are they in the order of their keys, as they come
  pub made_router : (none own ports routes nats all : List Row) → none ≡ [] → own ≡ none ++ own_rows net router.id → ports ≡ own ++ of_ports → routes ≡ ports ++ of_routes → nats ≡ routes ++ of_nats → all ≡ nats ++ of_lbs
      → (list : List Row) → ((r : Row) → Contains list r ↔ Contains all r) → HaveSameRows list (rows_on net router.id)
  made_router none own ports routes nats all is_none is_own is_ports is_routes is_nats is_all list is_list =
      same_through list all (rows_on net router.id) (record { members = is_list })
      (same_through all (made_rows net router) (rows_on net router.id) (same_equal all (made_rows net router) are_all) made_on)
    where
      are_all : all ≡ made_rows net router
      are_all =
          three_parts own ports routes all of_ports of_routes (of_nats ++ of_lbs) is_ports is_routes (is_all ∙ ap (λ rows. rows ++ of_lbs) is_nats ∙ append_assoc routes of_nats of_lbs)
          ∙ ap (λ rows. rows ++ (of_ports ++ (of_routes ++ (of_nats ++ of_lbs)))) (is_own ∙ ap (λ rows. rows ++ own_rows net router.id) is_none)

-- the rows on each router are those of the routers
pub on_each : (net : Network) → IsSound net → HaveSameRows (flat_map (λ router. rows_on net router.id) net.routers) (router_rows net)
unfolding rows_on
on_each net sound = record { members = λ row. (to row, back row) }
  where
    on : Router → List Row
    on router = filter (λ r. same router.id r.dp) (router_rows net)

    to : (row : Row) → Contains (flat_map on net.routers) row → Contains (router_rows net) row
    to row at = let from = Contains-from_flat_map on net.routers row at in Contains-from_filter (λ r. same from.0.id r.dp) (router_rows net) row from.2

    back : (row : Row) → Contains (router_rows net) row → Contains (flat_map on net.routers) row
    back row at =
        let its = any_gives (same row.dp) (router_ids net) (row_on_router net sound row at) in
        let from = Contains-from_map (λ (r : Router). r.id) net.routers its.0 its.1 in
        let is_its : same from.0.id row.dp ≡ true = ap (λ (n : ObjId). same n row.dp) from.2 ∙ same_turned its.0 row.dp ∙ its.2 in
        Contains-flat_map on net.routers from.0 row from.1 (Contains-filter (λ r. same from.0.id r.dp) (router_rows net) row at is_its)
