-- Where the rows of routers come from: each is of a unit of one of the eleven kinds.
use Rattle.std.proofs.Common.{List, ◌++◌, map, subst}
use Rattle.std.specs.List.{AllByRecursion, Contains, flat_map}
use Rattle.nb_records.specs.declared.balancer.Lb.{Lb}
use Rattle.nb_records.specs.declared.router.Router.{Router}
use Rattle.nb_model.specs.Network.{Network}
use Rattle.sb_model.specs.declared.row.Row.{Row}
use Rattle.net_rows.specs.Unit.{row_of, said_by}
use Rattle.net_rows.specs.declared.rule.Rule.{Rule}
use Rattle.net_rows.specs.declared.rule.Unit.{Unit}
use Rattle.net_rows.proofs.Elements.{every_append, Contains-from_flat_map, Contains-from_map}
use Rattle.net_rows.proofs.Pairs.{every_flat_map, every_from_members, every_map}
use Rattle.nb_router.specs.Vocabulary.{lbs_of}
use Rattle.lr_units.specs.Units.{of_balancers}
use Rattle.lr_units.specs.Build.{binding_rows, nat_rule_rows, neighbour_rows, port_in_rows, port_route_rows, router_in_rows, router_nat_rows, router_route_rows, router_rows, rows_of, rows_of_input, rows_of_nat, rows_of_routes, static_route_rows, vip_addr_rows, vip_router_rows}

-- ---- units

-- what holds of the unit of each record holds of each unit
pub each_of_map : {R U : Type 0} (P : U → Type 0) (make : R → U) (rs : List R) → ((r : R) → Contains rs r → P (make r)) → (u : U) → Contains (map make rs) u → P u
each_of_map P make rs each u there = let at = Contains-from_map make rs u there in subst P at.2 (each at.0 at.1)

-- and so where a record has pieces, each of which has a unit
pub each_of_pieces : {R S U : Type 0} (P : U → Type 0) (pieces : R → List S) (make : R → S → U) (rs : List R) → ((r : R) → Contains rs r → (s : S) → Contains (pieces r) s → P (make r s))
    → (u : U) → Contains (flat_map (λ r. map (make r) (pieces r)) rs) u → P u
each_of_pieces P pieces make rs each u there =
    let at = Contains-from_flat_map (λ r. map (make r) (pieces r)) rs u there in
    each_of_map P (make at.0) (pieces at.0) (each at.0 at.1) u at.2

-- and where each load balancer of each router gives pieces
pub each_of_balancers : {S U : Type 0} (P : U → Type 0) (net : Network) (pieces : Lb → List S) (make : Router → Lb → S → U)
    → ((router : Router) → Contains net.routers router → (lb : Lb) → Contains (lbs_of net router.id) lb → (s : S) → Contains (pieces lb) s → P (make router lb s))
    → (u : U) → Contains (of_balancers net (λ router lb. map (make router lb) (pieces lb))) u → P u
each_of_balancers P net pieces make each u there =
    let at = Contains-from_flat_map (λ (router : Router). flat_map (λ lb. map (make router lb) (pieces lb)) (lbs_of net router.id)) net.routers u there in
    each_of_pieces P pieces (make at.0) (lbs_of net at.0.id) (each at.0 at.1) u at.2

-- ---- rows

-- what holds of each rule of each unit of a kind holds of the rows of the kind
pub every_of_kind : {K I : Type 0} (P : Row → Type 0) (unit_for : K → I → Unit) (rules_of : I → List Rule) (units : List (K × I))
    → ((u : K × I) → Contains units u → AllByRecursion (λ r. P (row_of (unit_for u.0 u.1) r)) (rules_of u.1)) → AllByRecursion P (rows_of unit_for rules_of units)
every_of_kind P unit_for rules_of units each =
    every_flat_map P (λ u. said_by (unit_for u.0 u.1) (rules_of u.1)) units
    (every_from_members (λ u. AllByRecursion P (said_by (unit_for u.0 u.1) (rules_of u.1))) units
    (λ u there. every_map P (row_of (unit_for u.0 u.1)) (rules_of u.1) (each u there)))

-- what holds of the rows of each kind
pub record EachKind (P : Row → Type 0) (net : Network) : Type 0 where
  pub router_in : AllByRecursion P (router_in_rows net)
  pub port_in : AllByRecursion P (port_in_rows net)
  pub router_route : AllByRecursion P (router_route_rows net)
  pub port_route : AllByRecursion P (port_route_rows net)
  pub static_route : AllByRecursion P (static_route_rows net)
  pub binding : AllByRecursion P (binding_rows net)
  pub neighbour : AllByRecursion P (neighbour_rows net)
  pub router_nat : AllByRecursion P (router_nat_rows net)
  pub nat_rule : AllByRecursion P (nat_rule_rows net)
  pub vip_router : AllByRecursion P (vip_router_rows net)
  pub vip_addr : AllByRecursion P (vip_addr_rows net)

-- holds of all
pub every_row : (P : Row → Type 0) (net : Network) → EachKind P net → AllByRecursion P (router_rows net)
every_row P net each =
    every_append P (rows_of_input net) (rows_of_routes net ++ rows_of_nat net) (every_append P (router_in_rows net) (port_in_rows net) each.router_in each.port_in)
    (every_append P (rows_of_routes net) (rows_of_nat net)
    (every_append P (router_route_rows net) (port_route_rows net ++ (static_route_rows net ++ (binding_rows net ++ neighbour_rows net))) each.router_route
    (every_append P (port_route_rows net) (static_route_rows net ++ (binding_rows net ++ neighbour_rows net)) each.port_route
    (every_append P (static_route_rows net) (binding_rows net ++ neighbour_rows net) each.static_route
    (every_append P (binding_rows net) (neighbour_rows net) each.binding each.neighbour))))
    (every_append P (router_nat_rows net) (nat_rule_rows net ++ (vip_router_rows net ++ vip_addr_rows net)) each.router_nat
    (every_append P (nat_rule_rows net) (vip_router_rows net ++ vip_addr_rows net) each.nat_rule
    (every_append P (vip_router_rows net) (vip_addr_rows net) each.vip_router each.vip_addr))))
