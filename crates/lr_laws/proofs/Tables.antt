-- What a row of the table of a router and a stage is: what a rule of the router says in that stage, of one of its ports, of one of its static
-- routes, of a static binding of one of its ports, of a port across one, of a NAT rule of it, or of a load balancer that is attached to it.
use Rattle.std.proofs.Common.{◌≡◌, Bool, true, List, [], ◌++◌, map, sym, ap, refl, ◌∙◌, subst, ◌⊎◌, inl, inr}
use Rattle.std.specs.Prelude.{filter, ⊤}
use Rattle.std.specs.List.{Contains, flat_map}
use Rattle.std.proofs.lemmas.Bool.{eq-eqb, eqb-true}
use Rattle.std.proofs.lemmas.List.Elements.{Contains-append_left, Contains-append_right, Contains-append_cases}
use Rattle.nv_base.specs.declared.ip4.Ip4.{Ip4}
use Rattle.nv_base.specs.declared.object.ObjId.{ObjId}
use Rattle.nb_records.specs.declared.balancer.Frontend.{Frontend}
use Rattle.nb_records.specs.declared.balancer.Lb.{Lb}
use Rattle.nb_records.specs.declared.balancer.Vip.{Vip}
use Rattle.nb_records.specs.declared.router.Binding.{Binding}
use Rattle.nb_records.specs.declared.router.Nat.{Nat}
use Rattle.nb_records.specs.declared.router.Route.{Route}
use Rattle.nb_records.specs.declared.router.Router.{Router}
use Rattle.nb_records.specs.declared.router.RouterPort.{RouterPort}
use Rattle.nb_records.specs.declared.switch.Port.{Port}
use Rattle.nb_records.specs.declared.switch.Switch.{Switch}
use Rattle.nb_model.specs.Belongs.{is_among}
use Rattle.nb_model.specs.Network.{Network, same}
use Rattle.nb_model.specs.Sound.{IsSound, router_ids, switch_ids}
use Rattle.sb_model.specs.declared.row.Row.{Row}
use Rattle.sb_model.specs.declared.stage.Stage.{Stage}
use Rattle.sb_rows.specs.Match.{is_in_table}
use Rattle.sb_rows.proofs.Tables.{in_table-gives}
use Rattle.net_rows.specs.Build.{all_rows, vip_input}
use Rattle.net_rows.specs.Unit.{row_of, said_by, unit_of, unit_of_datapath}
use Rattle.net_rows.specs.declared.inputs.VipInput.{VipInput}
use Rattle.net_rows.specs.declared.rule.Rule.{Rule}
use Rattle.net_rows.specs.declared.rule.Unit.{Unit}
use Rattle.net_rows.proofs.Elements.{any_gives, Contains-filter, Contains-from_filter, Contains-flat_map, Contains-from_flat_map, Contains-from_map, Contains-map}
use Rattle.net_rows.proofs.Sound.{each_passes}
use Rattle.net_rows.proofs.Units.{IsRow, all_rows-gives}
use Rattle.lr_rows.specs.Input.{port_in_rules, router_in_rules}
use Rattle.lr_rows.specs.Balancers.{vip_addr_rules, vip_router_rules}
use Rattle.lr_rows.specs.Nat.{nat_rules, router_nat_rules}
use Rattle.lr_rows.specs.declared.inputs.BindingInput.{BindingInput}
use Rattle.lr_rows.specs.declared.inputs.NeighbourInput.{NeighbourInput}
use Rattle.lr_rows.specs.declared.inputs.VipAddrInput.{VipAddrInput}
use Rattle.lr_rows.specs.Neighbours.{binding_rules, neighbour_rules}
use Rattle.lr_rows.specs.Routes.{port_route_rules, router_route_rules, static_route_rules}
use Rattle.lr_units.specs.Build.{router_rows, rows_of, rows_of_input, rows_of_nat, rows_of_routes, router_in_rows, port_in_rows, router_route_rows, port_route_rows, static_route_rows, binding_rows, neighbour_rows, router_nat_rows, nat_rule_rows, vip_router_rows, vip_addr_rows}
use Rattle.lr_units.specs.Units.{binding_input, binding_units, bindings_of, has_hosts, nat_rule_input, nat_rule_units, neighbour_input, neighbour_units, port_in_input, port_in_units, port_route_input, port_route_units, router_nat_input, router_nat_units, router_units, static_route_input, static_route_units, vip_addr_input, vip_addr_units, vip_router_units}
use Rattle.lr_units.specs.Words.{across, addresses_once}
use Rattle.lr_units.proofs.Numbers.{switch_is_no_router}
use Rattle.lr_units.proofs.Whole.{network_members}
use Rattle.nb_router.specs.Vocabulary.{dnats, lbs_of, nats_of}
use Rattle.ls_laws.proofs.Tables.{filter_passes}
use Rattle.lr_units.specs.Network.{network_rows}
use Rattle.lr_laws.specs.Steps.{IsOnRouter}

-- ---- the rules of a router, and of a port of it

-- those of the router, which changes destinations or changes none
abbrev pub own_rules : Bool → List Rule
own_rules dnats = router_in_rules ++ (router_route_rules ++ router_nat_rules (record { dnats = dnats }))

abbrev pub port_rules : Network → RouterPort → List Rule
port_rules net port = port_in_rules (port_in_input net port) ++ port_route_rules (port_route_input port)

-- ---- the rows of a kind of units

-- a rule of a unit of a kind says the row
pub record IsSaid {K I : Type 0} (unit_for : K → I → Unit) (rules_of : I → List Rule) (units : List (K × I)) (row : Row) : Type 0 where
  pub unit : K × I
  pub among : Contains units unit
  pub says : Rule
  pub in_rules : Contains (rules_of unit.1) says
  pub is : row_of (unit_for unit.0 unit.1) says ≡ row

module _ {K I : Type 0} (unit_for : K → I → Unit) (rules_of : I → List Rule) (units : List (K × I)) where
  said_gives : (row : Row) → Contains (rows_of unit_for rules_of units) row → IsSaid unit_for rules_of units row
  said_gives row there =
      let at = Contains-from_flat_map (λ u. said_by (unit_for u.0 u.1) (rules_of u.1)) units row there in
      let said = Contains-from_map (row_of (unit_for at.0.0 at.0.1)) (rules_of at.0.1) row at.2 in
      record { unit = at.0; among = at.1; says = said.0; in_rules = said.1; is = said.2 }

  said_from : (u : K × I) (says : Rule) → Contains units u → Contains (rules_of u.1) says → Contains (rows_of unit_for rules_of units) (row_of (unit_for u.0 u.1) says)
  said_from u says there in_it =
      Contains-flat_map (λ v. said_by (unit_for v.0 v.1) (rules_of v.1)) units u (row_of (unit_for u.0 u.1) says) there (Contains-map (row_of (unit_for u.0 u.1)) (rules_of u.1) says in_it)

-- ---- where a row of a router comes from

-- a rule of the router itself
pub record IsOwnRule (net : Network) (dp : ObjId) (stage : Stage) (row : Row) : Type 0 where
  pub says : Rule
  pub in_rules : Contains (own_rules (dnats net dp)) says
  pub of_stage : says.stage ≡ stage
  pub is : row ≡ row_of (unit_of_datapath dp) says

-- of a port
pub record IsPortRule (net : Network) (dp : ObjId) (stage : Stage) (row : Row) : Type 0 where
  pub port : RouterPort
  pub among : Contains net.router_ports port
  pub of_router : port.router ≡ dp
  pub says : Rule
  pub in_rules : Contains (port_rules net port) says
  pub of_stage : says.stage ≡ stage
  pub is : row ≡ row_of (unit_of dp port.id) says

-- of a static route
pub record IsRouteRule (net : Network) (dp : ObjId) (stage : Stage) (row : Row) : Type 0 where
  pub route : Route
  pub among : Contains net.routes route
  pub of_router : route.router ≡ dp
  pub says : Rule
  pub in_rules : Contains (static_route_rules (static_route_input net route)) says
  pub of_stage : says.stage ≡ stage
  pub is : row ≡ row_of (unit_of dp route.id) says

-- of a static binding of a port
pub record IsBindingRule (net : Network) (dp : ObjId) (stage : Stage) (row : Row) : Type 0 where
  pub port : RouterPort
  pub among : Contains net.router_ports port
  pub of_router : port.router ≡ dp
  pub binding : Binding
  pub in_port : Contains (bindings_of net port) binding
  pub says : Rule
  pub in_rules : Contains (binding_rules (binding_input port binding)) says
  pub of_stage : says.stage ≡ stage
  pub is : row ≡ row_of (unit_of dp binding.id) says

-- of a port across a port
pub record IsNeighbourRule (net : Network) (dp : ObjId) (stage : Stage) (row : Row) : Type 0 where
  pub port : RouterPort
  pub among : Contains net.router_ports port
  pub of_router : port.router ≡ dp
  pub other : Port
  pub across_it : Contains (across net port) other
  pub says : Rule
  pub in_rules : Contains (neighbour_rules (neighbour_input net port other)) says
  pub of_stage : says.stage ≡ stage
  pub is : row ≡ row_of (unit_of dp other.id) says

-- of a NAT rule
pub record IsNatRule (net : Network) (dp : ObjId) (stage : Stage) (row : Row) : Type 0 where
  pub nat : Nat
  pub among : Contains (nats_of net dp) nat
  pub says : Rule
  pub in_rules : Contains (nat_rules (nat_rule_input nat)) says
  pub of_stage : says.stage ≡ stage
  pub is : row ≡ row_of (unit_of dp nat.id) says

-- of a VIP of a load balancer
pub record IsVipRule (net : Network) (dp : ObjId) (stage : Stage) (row : Row) : Type 0 where
  pub lb : Lb
  pub among : Contains (lbs_of net dp) lb
  pub vip : Vip
  pub in_lb : Contains lb.vips vip
  pub says : Rule
  pub in_rules : Contains (vip_router_rules (vip_input lb vip)) says
  pub of_stage : says.stage ≡ stage
  pub is : row ≡ row_of (unit_of dp lb.id) says

-- and of an address of its VIPs
pub record IsVipAddrRule (net : Network) (dp : ObjId) (stage : Stage) (row : Row) : Type 0 where
  pub lb : Lb
  pub among : Contains (lbs_of net dp) lb
  pub addr : Ip4
  pub in_lb : Contains (addresses_once lb.vips) addr
  pub says : Rule
  pub in_rules : Contains (vip_addr_rules (vip_addr_input addr)) says
  pub of_stage : says.stage ≡ stage
  pub is : row ≡ row_of (unit_of dp lb.id) says

-- of what a router translates by
pub data Translates (net : Network) (dp : ObjId) (stage : Stage) (row : Row) : Type 0 where
  OfNat : IsNatRule net dp stage row → Translates net dp stage row
  OfVip : IsVipRule net dp stage row → Translates net dp stage row
  OfVipAddr : IsVipAddrRule net dp stage row → Translates net dp stage row

pub data IsRule (net : Network) (dp : ObjId) (stage : Stage) (row : Row) : Type 0 where
  OfRouter : IsOwnRule net dp stage row → IsRule net dp stage row
  OfPort : IsPortRule net dp stage row → IsRule net dp stage row
  OfRoute : IsRouteRule net dp stage row → IsRule net dp stage row
  OfBinding : IsBindingRule net dp stage row → IsRule net dp stage row
  OfNeighbour : IsNeighbourRule net dp stage row → IsRule net dp stage row
  OfTranslation : Translates net dp stage row → IsRule net dp stage row

-- a NAT rule of a router is one of the network, and names the router
pub nat_of : (net : Network) (dp : ObjId) (nat : Nat) → Contains (nats_of net dp) nat → Contains net.nats nat × (nat.router ≡ dp)
nat_of net dp nat there =
    let number = eqb-true dp.0 nat.router.0 (filter_passes (λ (n : Nat). same dp n.router) net.nats nat there) in
    (Contains-from_filter (λ (n : Nat). same dp n.router) net.nats nat there, λ i. record { 0 = sym number i })

module _ (net : Network) (router : Router) (stage : Stage) (row : Row) (of : (row.dp ≡ router.id) × (row.stage ≡ stage)) where
  abbrev dp : ObjId
  dp = router.id

  -- what says the row is of the router and the stage
  on_dp : (unit : Unit) (says : Rule) → row_of unit says ≡ row → unit.dp ≡ dp
  on_dp unit says is = ap (λ (r : Row). r.dp) is ∙ of.0

  at_stage : (unit : Unit) (says : Rule) → row_of unit says ≡ row → says.stage ≡ stage
  at_stage unit says is = ap (λ (r : Row). r.stage) is ∙ of.1

  as_row : (unit : Unit) (says : Rule) → row_of unit says ≡ row → row ≡ row_of (unit_of dp unit.hint) says
  as_row unit says is = sym is ∙ ap (λ d. row_of (unit_of d unit.hint) says) (on_dp unit says is)

  -- ---- rules of the router

  from_own : (unit : Unit) (says : Rule) → unit.hint ≡ record { 0 = 0 } → Contains (own_rules (dnats net dp)) says → row_of unit says ≡ row → IsRule net dp stage row
  from_own unit says no_hint there is =
      OfRouter (record { says = says; in_rules = there; of_stage = at_stage unit says is; is = as_row unit says is ∙ ap (λ h. row_of (unit_of dp h) says) no_hint })

  by_router_in : Contains (router_in_rows net) row → IsRule net dp stage row
  by_router_in there =
      let at = said_gives (λ (r : ObjId) (i : ⊤). unit_of_datapath r) (λ i. router_in_rules) (router_units net) row there in
      from_own (unit_of_datapath at.unit.0) at.says refl (Contains-append_left router_in_rules (router_route_rules ++ router_nat_rules (record { dnats = dnats net dp })) at.says at.in_rules) at.is

  by_router_route : Contains (router_route_rows net) row → IsRule net dp stage row
  by_router_route there =
      let at = said_gives (λ (r : ObjId) (i : ⊤). unit_of_datapath r) (λ i. router_route_rules) (router_units net) row there in
      from_own (unit_of_datapath at.unit.0) at.says refl
      (Contains-append_right router_in_rules (router_route_rules ++ router_nat_rules (record { dnats = dnats net dp })) at.says
      (Contains-append_left router_route_rules (router_nat_rules (record { dnats = dnats net dp })) at.says at.in_rules)) at.is

  by_router_nat : Contains (router_nat_rows net) row → IsRule net dp stage row
  by_router_nat there =
      let at = said_gives _ _ (router_nat_units net) row there in
      let from = Contains-from_map (λ (r : Router). (r.id, router_nat_input net r)) net.routers at.unit at.among in
      let own : at.unit.0 ≡ dp = on_dp (unit_of_datapath at.unit.0) at.says at.is in
      let its : from.0.id ≡ dp = ap (λ u. u.0) from.2 ∙ own in
      let same_way : at.unit.1.dnats ≡ dnats net dp = sym (ap (λ u. u.1.dnats) from.2) ∙ ap (dnats net) its in
      let there_too : Contains (router_nat_rules (record { dnats = dnats net dp })) at.says = subst (λ b. Contains (router_nat_rules (record { dnats = b })) at.says) same_way at.in_rules in
      from_own (unit_of_datapath at.unit.0) at.says refl
      (Contains-append_right router_in_rules (router_route_rules ++ router_nat_rules (record { dnats = dnats net dp })) at.says
      (Contains-append_right router_route_rules (router_nat_rules (record { dnats = dnats net dp })) at.says there_too)) at.is

  -- ---- rules of its ports

  by_port_in : Contains (port_in_rows net) row → IsRule net dp stage row
  by_port_in there =
      let at = said_gives _ _ (port_in_units net) row there in
      let from = Contains-from_map (λ (p : RouterPort). (p.id, port_in_input net p)) net.router_ports at.unit at.among in
      by from.0 from.1 at.says (subst (λ u. Contains (port_in_rules u.1) at.says) (sym from.2) at.in_rules) (ap (λ u. row_of (unit_of u.1.dp u.0) at.says) from.2 ∙ at.is)
    where
      by : (port : RouterPort) → Contains net.router_ports port → (says : Rule) → Contains (port_in_rules (port_in_input net port)) says → row_of (unit_of port.router port.id) says ≡ row → IsRule net dp stage row
      by port among says there_in is =
          let unit = unit_of port.router port.id in
          OfPort
          (record {
            port = port;
            among = among;
            of_router = on_dp unit says is;
            says = says;
            in_rules = Contains-append_left (port_in_rules (port_in_input net port)) (port_route_rules (port_route_input port)) says there_in;
            of_stage = at_stage unit says is;
            is = as_row unit says is;
          })

  by_port_route : Contains (port_route_rows net) row → IsRule net dp stage row
  by_port_route there =
      let at = said_gives _ _ (port_route_units net) row there in
      let from = Contains-from_map (λ (p : RouterPort). (p.id, port_route_input p)) net.router_ports at.unit at.among in
      by from.0 from.1 at.says (subst (λ u. Contains (port_route_rules u.1) at.says) (sym from.2) at.in_rules) (ap (λ u. row_of (unit_of u.1.dp u.0) at.says) from.2 ∙ at.is)
    where
      by : (port : RouterPort) → Contains net.router_ports port → (says : Rule) → Contains (port_route_rules (port_route_input port)) says → row_of (unit_of port.router port.id) says ≡ row → IsRule net dp stage row
      by port among says there_in is =
          let unit = unit_of port.router port.id in
          OfPort
          (record {
            port = port;
            among = among;
            of_router = on_dp unit says is;
            says = says;
            in_rules = Contains-append_right (port_in_rules (port_in_input net port)) (port_route_rules (port_route_input port)) says there_in;
            of_stage = at_stage unit says is;
            is = as_row unit says is;
          })

  by_route : Contains (static_route_rows net) row → IsRule net dp stage row
  by_route there =
      let at = said_gives _ _ (static_route_units net) row there in
      let from = Contains-from_map (λ (r : Route). (r.id, static_route_input net r)) net.routes at.unit at.among in
      by from.0 from.1 at.says (subst (λ u. Contains (static_route_rules u.1) at.says) (sym from.2) at.in_rules) (ap (λ u. row_of (unit_of u.1.dp u.0) at.says) from.2 ∙ at.is)
    where
      by : (route : Route) → Contains net.routes route → (says : Rule) → Contains (static_route_rules (static_route_input net route)) says → row_of (unit_of route.router route.id) says ≡ row → IsRule net dp stage row
      by route among says there_in is =
          let unit = unit_of route.router route.id in
          OfRoute (record { route = route; among = among; of_router = on_dp unit says is; says = says; in_rules = there_in; of_stage = at_stage unit says is; is = as_row unit says is })

  by_binding : Contains (binding_rows net) row → IsRule net dp stage row
  by_binding there =
      let at = said_gives _ _ (binding_units net) row there in
      let of_port = Contains-from_flat_map (λ (p : RouterPort). map (λ (b : Binding). (b.id, binding_input p b)) (bindings_of net p)) net.router_ports at.unit at.among in
      let from = Contains-from_map (λ (b : Binding). (b.id, binding_input of_port.0 b)) (bindings_of net of_port.0) at.unit of_port.2 in
      by of_port.0 of_port.1 from.0 from.1 at.says (subst (λ u. Contains (binding_rules u.1) at.says) (sym from.2) at.in_rules) (ap (λ u. row_of (unit_of u.1.dp u.0) at.says) from.2 ∙ at.is)
    where
      by : (port : RouterPort) → Contains net.router_ports port → (binding : Binding) → Contains (bindings_of net port) binding → (says : Rule) → Contains (binding_rules (binding_input port binding)) says
          → row_of (unit_of port.router binding.id) says ≡ row → IsRule net dp stage row
      by port among binding in_port says there_in is =
          let unit = unit_of port.router binding.id in
          OfBinding
          (record { port = port; among = among; of_router = on_dp unit says is; binding = binding; in_port = in_port; says = says; in_rules = there_in; of_stage = at_stage unit says is; is = as_row unit says is })

  by_neighbour : Contains (neighbour_rows net) row → IsRule net dp stage row
  by_neighbour there =
      let at = said_gives _ _ (neighbour_units net) row there in
      let of_port = Contains-from_flat_map (λ (p : RouterPort). map (λ (o : Port). ((p.id, o.id), neighbour_input net p o)) (filter (has_hosts net) (across net p))) net.router_ports at.unit at.among in
      let from = Contains-from_map (λ (o : Port). ((of_port.0.id, o.id), neighbour_input net of_port.0 o)) (filter (has_hosts net) (across net of_port.0)) at.unit of_port.2 in
      by of_port.0 of_port.1 from.0 (Contains-from_filter (has_hosts net) (across net of_port.0) from.0 from.1) at.says (subst (λ u. Contains (neighbour_rules u.1) at.says) (sym from.2) at.in_rules)
      (ap (λ u. row_of (unit_of u.1.dp u.0.1) at.says) from.2 ∙ at.is)
    where
      by : (port : RouterPort) → Contains net.router_ports port → (other : Port) → Contains (across net port) other → (says : Rule) → Contains (neighbour_rules (neighbour_input net port other)) says
          → row_of (unit_of port.router other.id) says ≡ row → IsRule net dp stage row
      by port among other across_it says there_in is =
          let unit = unit_of port.router other.id in
          OfNeighbour
          (record { port = port; among = among; of_router = on_dp unit says is; other = other; across_it = across_it; says = says; in_rules = there_in; of_stage = at_stage unit says is; is = as_row unit says is })

  -- ---- rules of what it translates by

  by_nat : Contains (nat_rule_rows net) row → IsRule net dp stage row
  by_nat there =
      let at = said_gives _ _ (nat_rule_units net) row there in
      let from = Contains-from_map (λ (n : Nat). (n.id, nat_rule_input n)) net.nats at.unit at.among in
      by from.0 from.1 at.says (subst (λ u. Contains (nat_rules u.1) at.says) (sym from.2) at.in_rules) (ap (λ u. row_of (unit_of u.1.dp u.0) at.says) from.2 ∙ at.is)
    where
      by : (nat : Nat) → Contains net.nats nat → (says : Rule) → Contains (nat_rules (nat_rule_input nat)) says → row_of (unit_of nat.router nat.id) says ≡ row → IsRule net dp stage row
      by nat among says there_in is =
          let unit = unit_of nat.router nat.id in
          let own = eq-eqb router.id.0 nat.router.0 (ap (λ (o : ObjId). o.0) (sym (on_dp unit says is))) in
          OfTranslation (OfNat
          (record { nat = nat; among = Contains-filter (λ (n : Nat). same router.id n.router) net.nats nat among own; says = says; in_rules = there_in; of_stage = at_stage unit says is; is = as_row unit says is }))

  by_vip : Contains (vip_router_rows net) row → IsRule net dp stage row
  by_vip there =
      let at = said_gives _ _ (vip_router_units net) row there in
      let of_router = Contains-from_flat_map (λ (r : Router). flat_map (λ (lb : Lb). map (λ (vip : Vip). ((lb.id, vip.at, r.id), vip_input lb vip)) lb.vips) (lbs_of net r.id)) net.routers at.unit at.among in
      let of_lb = Contains-from_flat_map (λ (lb : Lb). map (λ (vip : Vip). ((lb.id, vip.at, of_router.0.id), vip_input lb vip)) lb.vips) (lbs_of net of_router.0.id) at.unit of_router.2 in
      let from = Contains-from_map (λ (vip : Vip). ((of_lb.0.id, vip.at, of_router.0.id), vip_input of_lb.0 vip)) of_lb.0.vips at.unit of_lb.2 in
      by of_router.0 of_lb.0 of_lb.1 from.0 from.1 at.says (subst (λ u. Contains (vip_router_rules u.1) at.says) (sym from.2) at.in_rules) (ap (λ u. row_of (unit_of u.0.2 u.0.0) at.says) from.2 ∙ at.is)
    where
      by : (other : Router) (lb : Lb) → Contains (lbs_of net other.id) lb → (vip : Vip) → Contains lb.vips vip → (says : Rule) → Contains (vip_router_rules (vip_input lb vip)) says
          → row_of (unit_of other.id lb.id) says ≡ row → IsRule net dp stage row
      by other lb attached vip in_lb says there_in is =
          let unit = unit_of other.id lb.id in
          let own = subst (λ d. Contains (lbs_of net d) lb) (on_dp unit says is) attached in
          OfTranslation (OfVip (record { lb = lb; among = own; vip = vip; in_lb = in_lb; says = says; in_rules = there_in; of_stage = at_stage unit says is; is = as_row unit says is }))

  by_vip_addr : Contains (vip_addr_rows net) row → IsRule net dp stage row
  by_vip_addr there =
      let at = said_gives _ _ (vip_addr_units net) row there in
      let of_router = Contains-from_flat_map (λ (r : Router). flat_map (λ (lb : Lb). map (λ (addr : Ip4). ((lb.id, addr, r.id), vip_addr_input addr)) (addresses_once lb.vips)) (lbs_of net r.id)) net.routers at.unit at.among in
      let of_lb = Contains-from_flat_map (λ (lb : Lb). map (λ (addr : Ip4). ((lb.id, addr, of_router.0.id), vip_addr_input addr)) (addresses_once lb.vips)) (lbs_of net of_router.0.id) at.unit of_router.2 in
      let from = Contains-from_map (λ (addr : Ip4). ((of_lb.0.id, addr, of_router.0.id), vip_addr_input addr)) (addresses_once of_lb.0.vips) at.unit of_lb.2 in
      by of_router.0 of_lb.0 of_lb.1 from.0 from.1 at.says (subst (λ u. Contains (vip_addr_rules u.1) at.says) (sym from.2) at.in_rules) (ap (λ u. row_of (unit_of u.0.2 u.0.0) at.says) from.2 ∙ at.is)
    where
      by : (other : Router) (lb : Lb) → Contains (lbs_of net other.id) lb → (addr : Ip4) → Contains (addresses_once lb.vips) addr → (says : Rule) → Contains (vip_addr_rules (vip_addr_input addr)) says
          → row_of (unit_of other.id lb.id) says ≡ row → IsRule net dp stage row
      by other lb attached addr in_lb says there_in is =
          let unit = unit_of other.id lb.id in
          let own = subst (λ d. Contains (lbs_of net d) lb) (on_dp unit says is) attached in
          OfTranslation (OfVipAddr (record { lb = lb; among = own; addr = addr; in_lb = in_lb; says = says; in_rules = there_in; of_stage = at_stage unit says is; is = as_row unit says is }))

  -- ---- each row of routers

  cases : {A : Type 0} (xs ys : List Row) → (Contains xs row → A) → (Contains ys row → A) → Contains (xs ++ ys) row → A
  cases {A} xs ys left right there = by (Contains-append_cases xs ys row there)
    where
      by : Contains xs row ⊎ Contains ys row → A
      by (inl at) = left at
      by (inr at) = right at

  by_input : Contains (rows_of_input net) row → IsRule net dp stage row
  by_input = cases (router_in_rows net) (port_in_rows net) by_router_in by_port_in

  by_routes : Contains (rows_of_routes net) row → IsRule net dp stage row
  by_routes =
      cases (router_route_rows net) (port_route_rows net ++ (static_route_rows net ++ (binding_rows net ++ neighbour_rows net))) by_router_route
      (cases (port_route_rows net) (static_route_rows net ++ (binding_rows net ++ neighbour_rows net)) by_port_route
      (cases (static_route_rows net) (binding_rows net ++ neighbour_rows net) by_route (cases (binding_rows net) (neighbour_rows net) by_binding by_neighbour)))

  by_translation : Contains (rows_of_nat net) row → IsRule net dp stage row
  by_translation =
      cases (router_nat_rows net) (nat_rule_rows net ++ (vip_router_rows net ++ vip_addr_rows net)) by_router_nat
      (cases (nat_rule_rows net) (vip_router_rows net ++ vip_addr_rows net) by_nat (cases (vip_router_rows net) (vip_addr_rows net) by_vip by_vip_addr))

  from_router_rows : Contains (router_rows net) row → IsRule net dp stage row
  from_router_rows = cases (rows_of_input net) (rows_of_routes net ++ rows_of_nat net) by_input (cases (rows_of_routes net) (rows_of_nat net) by_routes by_translation)

  -- no row of a switch is on a router
  no_switch_row : IsSound net → Contains net.routers router → Contains (all_rows net) row → ⊥
  no_switch_row sound among there = by (all_rows-gives net row there)
    where
      own : Contains (router_ids net) router.id
      own = Contains-map (λ (r : Router). r.id) net.routers router among

      no_switch : (s : ObjId) → Contains (switch_ids net) s → s ≡ router.id → ⊥
      no_switch s there is = switch_is_no_router net sound s router.id there own (ap (λ (o : ObjId). o.0) is)

      by : IsRow net row → ⊥
      by (inl at) = no_switch at.switch.id (Contains-map (λ (s : Switch). s.id) net.switches at.switch at.among) (ap (λ (r : Row). r.dp) at.is ∙ of.0)
      by (inr (inl at)) =
          let some = any_gives (same at.port.switch) (switch_ids net) (each_passes (λ (p : Port). is_among p.switch (switch_ids net)) net.ports at.port sound.refers.ports at.among) in
          let number = eqb-true at.port.switch.0 some.0.0 some.2 in
          let named : some.0 ≡ at.port.switch = λ i. record { 0 = sym number i } in
          no_switch some.0 some.1 (named ∙ ap (λ (r : Row). r.dp) at.is ∙ of.0)
      by (inr (inr (inl at))) =
          no_switch at.switch.id (Contains-map (λ (s : Switch). s.id) net.switches at.switch (Contains-from_filter _ net.switches at.switch at.applied)) (ap (λ (r : Row). r.dp) at.is ∙ of.0)
      by (inr (inr (inr at))) = no_switch at.switch.id (Contains-map (λ (s : Switch). s.id) net.switches at.switch at.among) (ap (λ (r : Row). r.dp) at.is ∙ of.0)

-- each row of a router's table is one of these
pub table-gives : (net : Network) (router : Router) (packet : _) → IsOnRouter net router packet → (stage : Stage) (row : Row) → Contains (network_rows net) row → is_in_table router.id stage row ≡ true
    → IsRule net router.id stage row
table-gives net router packet on stage row there in_it = by (Contains-append_cases (all_rows net) (router_rows net) row ((network_members net row).0 there))
  where
    of : (row.dp ≡ router.id) × (row.stage ≡ stage)
    of = in_table-gives router.id stage row in_it

    by : Contains (all_rows net) row ⊎ Contains (router_rows net) row → IsRule net router.id stage row
    by (inl at) = absurd (no_switch_row net router stage row of on.sound on.among at)
    by (inr at) = from_router_rows net router stage row of at

-- ---- and each rule has its row

module _ (net : Network) where
  from_routers : (row : Row) → Contains (router_rows net) row → Contains (network_rows net) row
  from_routers row there = (network_members net row).1 (Contains-append_right (all_rows net) (router_rows net) row there)

  from_input : (row : Row) → Contains (rows_of_input net) row → Contains (network_rows net) row
  from_input row there = from_routers row (Contains-append_left (rows_of_input net) (rows_of_routes net ++ rows_of_nat net) row there)

  from_routes : (row : Row) → Contains (rows_of_routes net) row → Contains (network_rows net) row
  from_routes row there =
      from_routers row (Contains-append_right (rows_of_input net) (rows_of_routes net ++ rows_of_nat net) row (Contains-append_left (rows_of_routes net) (rows_of_nat net) row there))

  -- those of a port, but for the first kind, and so on
  abbrev after_port_routes : List Row
  after_port_routes = static_route_rows net ++ (binding_rows net ++ neighbour_rows net)

  pub rows-router_in : (router : Router) (says : Rule) → Contains net.routers router → Contains router_in_rules says → Contains (network_rows net) (row_of (unit_of_datapath router.id) says)
  rows-router_in router says there in_it =
      let row = row_of (unit_of_datapath router.id) says in
      from_input row (Contains-append_left (router_in_rows net) (port_in_rows net) row
      (said_from (λ (r : ObjId) (i : ⊤). unit_of_datapath r) (λ i. router_in_rules) (router_units net) (router.id, tt) says (Contains-map (λ (r : Router). (r.id, tt)) net.routers router there) in_it))

  pub rows-router_route : (router : Router) (says : Rule) → Contains net.routers router → Contains router_route_rules says → Contains (network_rows net) (row_of (unit_of_datapath router.id) says)
  rows-router_route router says there in_it =
      let row = row_of (unit_of_datapath router.id) says in
      from_routes row (Contains-append_left (router_route_rows net) (port_route_rows net ++ after_port_routes) row
      (said_from (λ (r : ObjId) (i : ⊤). unit_of_datapath r) (λ i. router_route_rules) (router_units net) (router.id, tt) says (Contains-map (λ (r : Router). (r.id, tt)) net.routers router there) in_it))

  pub rows-router_nat : (router : Router) (says : Rule) → Contains net.routers router → Contains (router_nat_rules (router_nat_input net router)) says → Contains (network_rows net) (row_of (unit_of_datapath router.id) says)
  rows-router_nat router says there in_it =
      let row = row_of (unit_of_datapath router.id) says in
      from_routers row (Contains-append_right (rows_of_input net) (rows_of_routes net ++ rows_of_nat net) row
      (Contains-append_right (rows_of_routes net) (rows_of_nat net) row
      (Contains-append_left (router_nat_rows net) (nat_rule_rows net ++ (vip_router_rows net ++ vip_addr_rows net)) row
      (said_from _ _ (router_nat_units net) (router.id, router_nat_input net router) says (Contains-map (λ (r : Router). (r.id, router_nat_input net r)) net.routers router there) in_it))))

  pub rows-port_in : (port : RouterPort) (says : Rule) → Contains net.router_ports port → Contains (port_in_rules (port_in_input net port)) says → Contains (network_rows net) (row_of (unit_of port.router port.id) says)
  rows-port_in port says there in_it =
      let row = row_of (unit_of port.router port.id) says in
      from_input row (Contains-append_right (router_in_rows net) (port_in_rows net) row
      (said_from _ _ (port_in_units net) (port.id, port_in_input net port) says (Contains-map (λ (p : RouterPort). (p.id, port_in_input net p)) net.router_ports port there) in_it))

  pub rows-port_route : (port : RouterPort) (says : Rule) → Contains net.router_ports port → Contains (port_route_rules (port_route_input port)) says → Contains (network_rows net) (row_of (unit_of port.router port.id) says)
  rows-port_route port says there in_it =
      let row = row_of (unit_of port.router port.id) says in
      from_routes row (Contains-append_right (router_route_rows net) (port_route_rows net ++ after_port_routes) row
      (Contains-append_left (port_route_rows net) after_port_routes row
      (said_from _ _ (port_route_units net) (port.id, port_route_input port) says (Contains-map (λ (p : RouterPort). (p.id, port_route_input p)) net.router_ports port there) in_it)))

  pub rows-route : (route : Route) (says : Rule) → Contains net.routes route → Contains (static_route_rules (static_route_input net route)) says → Contains (network_rows net) (row_of (unit_of route.router route.id) says)
  rows-route route says there in_it =
      let row = row_of (unit_of route.router route.id) says in
      from_routes row (Contains-append_right (router_route_rows net) (port_route_rows net ++ after_port_routes) row
      (Contains-append_right (port_route_rows net) after_port_routes row
      (Contains-append_left (static_route_rows net) (binding_rows net ++ neighbour_rows net) row
      (said_from _ _ (static_route_units net) (route.id, static_route_input net route) says (Contains-map (λ (r : Route). (r.id, static_route_input net r)) net.routes route there) in_it))))

  pub rows-binding : (port : RouterPort) (binding : Binding) (says : Rule) → Contains net.router_ports port → Contains (bindings_of net port) binding → Contains (binding_rules (binding_input port binding)) says
      → Contains (network_rows net) (row_of (unit_of port.router binding.id) says)
  rows-binding port binding says there in_port in_it =
      let row = row_of (unit_of port.router binding.id) says in
      let unit : ObjId × BindingInput = (binding.id, binding_input port binding) in
      from_routes row (Contains-append_right (router_route_rows net) (port_route_rows net ++ after_port_routes) row
      (Contains-append_right (port_route_rows net) after_port_routes row
      (Contains-append_right (static_route_rows net) (binding_rows net ++ neighbour_rows net) row
      (Contains-append_left (binding_rows net) (neighbour_rows net) row
      (said_from _ _ (binding_units net) unit says
      (Contains-flat_map (λ (p : RouterPort). map (λ (b : Binding). (b.id, binding_input p b)) (bindings_of net p)) net.router_ports port unit there
      (Contains-map (λ (b : Binding). (b.id, binding_input port b)) (bindings_of net port) binding in_port))
      in_it)))))

  pub rows-neighbour : (port : RouterPort) (other : Port) (says : Rule) → Contains net.router_ports port → Contains (across net port) other → has_hosts net other ≡ true
      → Contains (neighbour_rules (neighbour_input net port other)) says → Contains (network_rows net) (row_of (unit_of port.router other.id) says)
  rows-neighbour port other says there across_it hosts in_it =
      let row = row_of (unit_of port.router other.id) says in
      let unit : (ObjId × ObjId) × NeighbourInput = ((port.id, other.id), neighbour_input net port other) in
      from_routes row (Contains-append_right (router_route_rows net) (port_route_rows net ++ after_port_routes) row
      (Contains-append_right (port_route_rows net) after_port_routes row
      (Contains-append_right (static_route_rows net) (binding_rows net ++ neighbour_rows net) row
      (Contains-append_right (binding_rows net) (neighbour_rows net) row
      (said_from _ _ (neighbour_units net) unit says
      (Contains-flat_map (λ (p : RouterPort). map (λ (o : Port). ((p.id, o.id), neighbour_input net p o)) (filter (has_hosts net) (across net p))) net.router_ports port unit there
      (Contains-map (λ (o : Port). ((port.id, o.id), neighbour_input net port o)) (filter (has_hosts net) (across net port)) other (Contains-filter (has_hosts net) (across net port) other across_it hosts)))
      in_it)))))

  -- those of translation
  from_translation : (row : Row) → Contains (nat_rule_rows net ++ (vip_router_rows net ++ vip_addr_rows net)) row → Contains (network_rows net) row
  from_translation row there =
      from_routers row (Contains-append_right (rows_of_input net) (rows_of_routes net ++ rows_of_nat net) row
      (Contains-append_right (rows_of_routes net) (rows_of_nat net) row (Contains-append_right (router_nat_rows net) (nat_rule_rows net ++ (vip_router_rows net ++ vip_addr_rows net)) row there)))

  pub rows-nat : (nat : Nat) (says : Rule) → Contains net.nats nat → Contains (nat_rules (nat_rule_input nat)) says → Contains (network_rows net) (row_of (unit_of nat.router nat.id) says)
  rows-nat nat says there in_it =
      let row = row_of (unit_of nat.router nat.id) says in
      from_translation row (Contains-append_left (nat_rule_rows net) (vip_router_rows net ++ vip_addr_rows net) row
      (said_from _ _ (nat_rule_units net) (nat.id, nat_rule_input nat) says (Contains-map (λ (n : Nat). (n.id, nat_rule_input n)) net.nats nat there) in_it))

  pub rows-vip : (router : Router) (lb : Lb) (vip : Vip) (says : Rule) → Contains net.routers router → Contains (lbs_of net router.id) lb → Contains lb.vips vip → Contains (vip_router_rules (vip_input lb vip)) says
      → Contains (network_rows net) (row_of (unit_of router.id lb.id) says)
  rows-vip router lb vip says there attached in_lb in_it =
      let row = row_of (unit_of router.id lb.id) says in
      let unit : (ObjId × Frontend × ObjId) × VipInput = ((lb.id, vip.at, router.id), vip_input lb vip) in
      from_translation row (Contains-append_right (nat_rule_rows net) (vip_router_rows net ++ vip_addr_rows net) row
      (Contains-append_left (vip_router_rows net) (vip_addr_rows net) row
      (said_from _ _ (vip_router_units net) unit says
      (Contains-flat_map (λ (r : Router). flat_map (λ (b : Lb). map (λ (v : Vip). ((b.id, v.at, r.id), vip_input b v)) b.vips) (lbs_of net r.id)) net.routers router unit there
      (Contains-flat_map (λ (b : Lb). map (λ (v : Vip). ((b.id, v.at, router.id), vip_input b v)) b.vips) (lbs_of net router.id) lb unit attached
      (Contains-map (λ (v : Vip). ((lb.id, v.at, router.id), vip_input lb v)) lb.vips vip in_lb)))
      in_it)))

  pub rows-vip_addr : (router : Router) (lb : Lb) (addr : Ip4) (says : Rule) → Contains net.routers router → Contains (lbs_of net router.id) lb → Contains (addresses_once lb.vips) addr → Contains (vip_addr_rules (vip_addr_input addr)) says
      → Contains (network_rows net) (row_of (unit_of router.id lb.id) says)
  rows-vip_addr router lb addr says there attached in_lb in_it =
      let row = row_of (unit_of router.id lb.id) says in
      let unit : (ObjId × Ip4 × ObjId) × VipAddrInput = ((lb.id, addr, router.id), vip_addr_input addr) in
      from_translation row (Contains-append_right (nat_rule_rows net) (vip_router_rows net ++ vip_addr_rows net) row
      (Contains-append_right (vip_router_rows net) (vip_addr_rows net) row
      (said_from _ _ (vip_addr_units net) unit says
      (Contains-flat_map (λ (r : Router). flat_map (λ (b : Lb). map (λ (a : Ip4). ((b.id, a, r.id), vip_addr_input a)) (addresses_once b.vips)) (lbs_of net r.id)) net.routers router unit there
      (Contains-flat_map (λ (b : Lb). map (λ (a : Ip4). ((b.id, a, router.id), vip_addr_input a)) (addresses_once b.vips)) (lbs_of net router.id) lb unit attached
      (Contains-map (λ (a : Ip4). ((lb.id, a, router.id), vip_addr_input a)) (addresses_once lb.vips) addr in_lb)))
      in_it)))
