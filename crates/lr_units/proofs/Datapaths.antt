-- Each row of the routers of a sound network is on a router, in a stage that routers have.
use Rattle.std.proofs.Common.{◌≡◌, Bool, true, false, List, refl, sym, ◌∙◌}
use Rattle.std.specs.Prelude.{filter}
use Rattle.std.specs.Bool.{IsTrue}
use Rattle.std.specs.List.{AllByRecursion, Contains}
use Rattle.std.proofs.lemmas.Bool.{eq-eqb, eqb-true}
use Rattle.nv_base.specs.declared.ip4.Ip4.{Ip4}
use Rattle.nv_base.specs.declared.object.ObjId.{ObjId}
use Rattle.nb_records.specs.declared.balancer.Frontend.{Frontend}
use Rattle.nb_records.specs.declared.balancer.Lb.{Lb}
use Rattle.nb_records.specs.declared.balancer.Vip.{Vip}
use Rattle.nb_records.specs.declared.router.Binding.{Binding}
use Rattle.nb_records.specs.declared.router.Nat.{Nat}
use Rattle.nb_records.specs.declared.router.Route.{Route}
use Rattle.nb_records.specs.declared.router.Router.{Router}
use Rattle.nb_records.specs.declared.router.RouterPort.{RouterPort}
use Rattle.nb_records.specs.declared.switch.Port.{Port}
use Rattle.nb_model.specs.Belongs.{is_among}
use Rattle.nb_model.specs.Network.{Network, same}
use Rattle.nb_model.specs.Sound.{IsSound, router_ids, switch_ids}
use Rattle.sb_model.specs.Stage.{stage_table}
use Rattle.sb_model.specs.declared.row.Row.{Row}
use Rattle.sb_model.specs.declared.stage.DatapathKind.TheVariants as kind
use Rattle.sb_model.specs.declared.stage.Stage.{Stage}
use Rattle.net_rows.specs.Unit.{row_of, unit_of_datapath}
use Rattle.net_rows.specs.declared.rule.Rule.{Rule}
use Rattle.net_rows.specs.declared.rule.Unit.{Unit}
use Rattle.net_rows.proofs.Elements.{any_from, any_gives, Contains-map}
use Rattle.net_rows.proofs.Pairs.{every_from_members, every_member}
use Rattle.net_rows.proofs.Sound.{each_passes}
use Rattle.lr_rows.specs.Input.{router_in_rules}
use Rattle.lr_rows.specs.Routes.{router_route_rules}
use Rattle.lr_rows.specs.declared.inputs.BindingInput.{BindingInput}
use Rattle.lr_rows.specs.declared.inputs.NatRuleInput.{NatRuleInput}
use Rattle.lr_rows.specs.declared.inputs.NeighbourInput.{NeighbourInput}
use Rattle.lr_rows.specs.declared.inputs.PortInInput.{PortInInput}
use Rattle.lr_rows.specs.declared.inputs.PortRouteInput.{PortRouteInput}
use Rattle.lr_rows.specs.declared.inputs.RouterNatInput.{RouterNatInput}
use Rattle.lr_rows.specs.declared.inputs.StaticRouteInput.{StaticRouteInput}
use Rattle.lr_rows.specs.declared.inputs.VipAddrInput.{VipAddrInput}
use Rattle.net_rows.specs.declared.inputs.VipInput.{VipInput}
use Rattle.lr_units.specs.Build.{router_rows, rows_of}
use Rattle.lr_units.specs.Units.{binding_input, binding_units, bindings_of, has_hosts, nat_rule_input, nat_rule_units, neighbour_input, neighbour_units, port_in_input, port_in_units, port_route_input, port_route_units, router_nat_input, router_nat_units, router_units, static_route_input, static_route_units, vip_addr_input, vip_addr_units, vip_router_units}
use Rattle.lr_units.specs.Words.{across, addresses_once}
use Rattle.lr_units.proofs.Numbers.{switch_is_no_router}
use Rattle.lr_units.proofs.Stages.{binding_at, nat_at, neighbour_at, port_in_at, port_route_at, router_in_at, router_nat_at, router_route_at, static_route_at, vip_addr_at, vip_router_at}
use Rattle.lr_units.proofs.Sources.{EachKind, each_of_balancers, each_of_map, each_of_pieces, every_of_kind, every_row}
use Rattle.net_rows.specs.Build.{vip_input}

-- ---- stages

-- the stage is one of routers
abbrev IsOfRouters : Stage → Type 0
IsOfRouters stage = (stage_table stage).kind ≡ kind.Router

-- a row in such a stage
abbrev HasStage : Row → Type 0
HasStage row = IsOfRouters row.stage

stages : (net : Network) → EachKind HasStage net
stages net = record {
  router_in = every_of_kind HasStage (λ router input. unit_of_datapath router) (λ input. router_in_rules) (router_units net) (λ u there. router_in_at IsOfRouters refl refl refl);
  port_in = every_of_kind HasStage _ _ (port_in_units net) (λ u there. port_in_at IsOfRouters refl refl refl u.1);
  router_route = every_of_kind HasStage (λ router input. unit_of_datapath router) (λ input. router_route_rules) (router_units net) (λ u there. router_route_at IsOfRouters refl refl refl refl);
  port_route = every_of_kind HasStage _ _ (port_route_units net) (λ u there. port_route_at IsOfRouters refl refl u.1);
  static_route = every_of_kind HasStage _ _ (static_route_units net) (λ u there. static_route_at IsOfRouters refl u.1);
  binding = every_of_kind HasStage _ _ (binding_units net) (λ u there. binding_at IsOfRouters refl u.1);
  neighbour = every_of_kind HasStage _ _ (neighbour_units net) (λ u there. neighbour_at IsOfRouters refl u.1);
  router_nat = every_of_kind HasStage _ _ (router_nat_units net) (λ u there. router_nat_at IsOfRouters refl refl refl refl refl u.1);
  nat_rule = every_of_kind HasStage _ _ (nat_rule_units net) (λ u there. nat_at IsOfRouters refl refl refl refl u.1);
  vip_router = every_of_kind HasStage _ _ (vip_router_units net) (λ u there. vip_router_at IsOfRouters refl u.1);
  vip_addr = every_of_kind HasStage _ _ (vip_addr_units net) (λ u there. vip_addr_at IsOfRouters refl u.1);
}

pub row_has_stage : (net : Network) (row : Row) → Contains (router_rows net) row → HasStage row
row_has_stage net row there = every_member HasStage (router_rows net) row (every_row HasStage net (stages net)) there

-- ---- datapaths

module _ (net : Network) (sound : IsSound net) where
  -- the number is that of a router
  abbrev IsRouter : ObjId → Type 0
  IsRouter number = IsTrue (is_among number (router_ids net))

  abbrev OnRouter : Row → Type 0
  OnRouter row = IsRouter row.dp

  -- a router is one
  its_router : (router : Router) → Contains net.routers router → IsRouter router.id
  its_router router there = any_from (same router.id) (router_ids net) router.id (Contains-map (λ (r : Router). r.id) net.routers router there) (eq-eqb router.id.0 router.id.0 refl)

  of_port : (port : RouterPort) → Contains net.router_ports port → IsRouter port.router
  of_port port there = each_passes (λ (p : RouterPort). is_among p.router (router_ids net)) net.router_ports port sound.refers.router_ports there

  of_route : (route : Route) → Contains net.routes route → IsRouter route.router
  of_route route there = each_passes (λ (r : Route). is_among r.router (router_ids net)) net.routes route sound.refers.routes there

  of_nat : (nat : Nat) → Contains net.nats nat → IsRouter nat.router
  of_nat nat there = each_passes (λ (n : Nat). is_among n.router (router_ids net)) net.nats nat sound.refers.nats there

  -- the rows of units of a kind, where the unit of each is on a router
  on_router : {K I : Type 0} (unit_for : K → I → Unit) (rules_of : I → List Rule) (units : List (K × I)) → ((u : K × I) → Contains units u → IsRouter (unit_for u.0 u.1).dp) → AllByRecursion OnRouter (rows_of unit_for rules_of units)
  on_router unit_for rules_of units each =
      every_of_kind OnRouter unit_for rules_of units (λ u there. every_from_members (λ r. OnRouter (row_of (unit_for u.0 u.1) r)) (rules_of u.1) (λ r in_rules. each u there))

  binding_on : (u : ObjId × BindingInput) → Contains (binding_units net) u → IsRouter u.1.dp
  binding_on = each_of_pieces (λ (u : ObjId × BindingInput). IsRouter u.1.dp) (bindings_of net) (λ port (b : Binding). (b.id, binding_input port b)) net.router_ports (λ port there b in_port. of_port port there)

  neighbour_on : (u : (ObjId × ObjId) × NeighbourInput) → Contains (neighbour_units net) u → IsRouter u.1.dp
  neighbour_on =
      each_of_pieces (λ (u : (ObjId × ObjId) × NeighbourInput). IsRouter u.1.dp) (λ port. filter (has_hosts net) (across net port)) (λ port (o : Port). ((port.id, o.id), neighbour_input net port o)) net.router_ports
      (λ port there o beside. of_port port there)

  datapaths : EachKind OnRouter net
  datapaths = record {
    router_in = on_router (λ router input. unit_of_datapath router) (λ input. router_in_rules) (router_units net) (each_of_map (λ u. IsRouter u.0) (λ (r : Router). (r.id, tt)) net.routers its_router);
    port_in = on_router _ _ (port_in_units net) (each_of_map (λ (u : ObjId × PortInInput). IsRouter u.1.dp) (λ (p : RouterPort). (p.id, port_in_input net p)) net.router_ports of_port);
    router_route = on_router (λ router input. unit_of_datapath router) (λ input. router_route_rules) (router_units net) (each_of_map (λ u. IsRouter u.0) (λ (r : Router). (r.id, tt)) net.routers its_router);
    port_route = on_router _ _ (port_route_units net) (each_of_map (λ (u : ObjId × PortRouteInput). IsRouter u.1.dp) (λ (p : RouterPort). (p.id, port_route_input p)) net.router_ports of_port);
    static_route = on_router _ _ (static_route_units net) (each_of_map (λ (u : ObjId × StaticRouteInput). IsRouter u.1.dp) (λ (r : Route). (r.id, static_route_input net r)) net.routes of_route);
    binding = on_router _ _ (binding_units net) binding_on;
    neighbour = on_router _ _ (neighbour_units net) neighbour_on;
    router_nat = on_router _ _ (router_nat_units net) (each_of_map (λ (u : ObjId × RouterNatInput). IsRouter u.0) (λ (r : Router). (r.id, router_nat_input net r)) net.routers its_router);
    nat_rule = on_router _ _ (nat_rule_units net) (each_of_map (λ (u : ObjId × NatRuleInput). IsRouter u.1.dp) (λ (n : Nat). (n.id, nat_rule_input n)) net.nats of_nat);
    vip_router =
        on_router _ _ (vip_router_units net)
        (each_of_balancers (λ (u : (ObjId × Frontend × ObjId) × VipInput). IsRouter u.0.2) net (λ (lb : Lb). lb.vips) (λ router lb (vip : Vip). ((lb.id, vip.at, router.id), vip_input lb vip))
        (λ router there lb of_router vip in_lb. its_router router there));
    vip_addr =
        on_router _ _ (vip_addr_units net)
        (each_of_balancers (λ (u : (ObjId × Ip4 × ObjId) × VipAddrInput). IsRouter u.0.2) net (λ (lb : Lb). addresses_once lb.vips) (λ router lb addr. ((lb.id, addr, router.id), vip_addr_input addr))
        (λ router there lb of_router addr in_lb. its_router router there));
  }

  pub row_on_router : (row : Row) → Contains (router_rows net) row → IsTrue (is_among row.dp (router_ids net))
  row_on_router row there = every_member OnRouter (router_rows net) row (every_row OnRouter net datapaths) there

  -- a router is no switch
  pub row_on_no_switch : (row : Row) → Contains (router_rows net) row → is_among row.dp (switch_ids net) ≡ false
  row_on_no_switch row there = by (is_among row.dp (switch_ids net)) refl
    where
      by : (b : Bool) → is_among row.dp (switch_ids net) ≡ b → b ≡ false
      by false is = refl
      by true is =
          let router = any_gives (same row.dp) (router_ids net) (row_on_router row there) in
          let switch = any_gives (same row.dp) (switch_ids net) is in
          absurd (switch_is_no_router net sound switch.0 router.0 switch.1 router.1 (sym (eqb-true row.dp.0 switch.0.0 switch.2) ∙ eqb-true row.dp.0 router.0.0 router.2))
