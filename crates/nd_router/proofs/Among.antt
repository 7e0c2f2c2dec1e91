-- The rows of units are among those of their kind, and these among the rows of routers.
use Rattle.std.proofs.Common.{◌≡◌, true, false, Bool, not, List, [], ◌∷◌, ◌++◌, map, refl, ap, subst, inl, inr, ◌⊎◌}
use Rattle.std.specs.Prelude.{◌==◌, filter}
use Rattle.std.specs.List.{Contains, flat_map}
use Rattle.std.proofs.lemmas.Bool.{eqb-true}
use Rattle.std.proofs.lemmas.List.Elements.{Contains-append_left, Contains-append_right}
use Rattle.nv_base.specs.declared.ip4.Ip4.{Ip4}
use Rattle.nb_records.specs.declared.balancer.Lb.{Lb}
use Rattle.nb_records.specs.declared.balancer.Vip.{Vip}
use Rattle.nb_records.specs.declared.router.Router.{Router}
use Rattle.nb_model.specs.Applies.{is_empty}
use Rattle.nb_model.specs.Network.{Network}
use Rattle.nb_router.specs.Vocabulary.{lbs_of}
use Rattle.sb_model.specs.declared.row.Row.{Row}
use Rattle.net_rows.specs.Unit.{row_of, said_by}
use Rattle.net_rows.specs.declared.rule.Rule.{Rule}
use Rattle.net_rows.specs.declared.rule.Unit.{Unit}
use Rattle.net_rows.proofs.Elements.{Contains-filter, Contains-flat_map, Contains-from_filter, Contains-from_map, Contains-map, one_first, one_later, one_of, one_of_none}
use Rattle.lr_rows.specs.Neighbours.{neighbour_rules}
use Rattle.lr_rows.specs.declared.inputs.Host.{Host}
use Rattle.lr_rows.specs.declared.inputs.NeighbourInput.{NeighbourInput}
use Rattle.lr_units.specs.Build.{binding_rows, nat_rule_rows, neighbour_rows, port_in_rows, port_route_rows, router_in_rows, router_nat_rows, router_route_rows, router_rows, rows_of, rows_of_input, rows_of_nat, rows_of_routes, static_route_rows, vip_addr_rows, vip_router_rows}
use Rattle.lr_units.specs.Units.{of_balancers}
use Rattle.lr_units.specs.Words.{addresses_once}

-- ---- rows of a unit

-- a row of a unit is on its datapath
pub on_unit : (unit : Unit) (rules : List Rule) (row : Row) → Contains (said_by unit rules) row → unit.dp ≡ row.dp
on_unit unit rules row at = let said = Contains-from_map (row_of unit) rules row at in ap (λ (r : Row). r.dp) said.2

-- no hosts have no rows
pub has_rows : (unit : Unit) (input : NeighbourInput) (row : Row) → Contains (said_by unit (neighbour_rules input)) row → not (is_empty input.hosts) ≡ true
unfolding neighbour_rules
has_rows unit input row at = by input.hosts refl
  where
    by : (hosts : List Host) → input.hosts ≡ hosts → not (is_empty hosts) ≡ true
    by [] is = absurd (one_of_none row (subst (λ (hosts : List Host). Contains (said_by unit (neighbour_rules (record input { hosts = hosts }))) row) is at))
    by (host ∷ hosts) is = refl

-- ---- addresses, each once

pub once_from : (vips : List Vip) (addr : Ip4) → Contains (addresses_once vips) addr → (vip : Vip) × Contains vips vip × (vip.at.addr ≡ addr)
once_from [] addr at = absurd (one_of_none addr at)
once_from (vip ∷ vips) addr at = by (once_from vips addr) (one_of vip.at.addr (filter (λ other. not (vip.at.addr.0 == other.0)) (addresses_once vips)) addr at)
  where
    by : (Contains (addresses_once vips) addr → (v : Vip) × Contains vips v × (v.at.addr ≡ addr)) → (vip.at.addr ≡ addr) ⊎ Contains (filter (λ other. not (vip.at.addr.0 == other.0)) (addresses_once vips)) addr
        → (v : Vip) × Contains (vip ∷ vips) v × (v.at.addr ≡ addr)
    by rest (inl is) = (vip, one_first vip vips vip refl, is)
    by rest (inr later) = let from = rest (Contains-from_filter (λ other. not (vip.at.addr.0 == other.0)) (addresses_once vips) addr later) in (from.0, one_later vip vips from.0 from.1, from.2)

pub once_has : (vips : List Vip) (vip : Vip) → Contains vips vip → Contains (addresses_once vips) vip.at.addr
once_has [] vip at = absurd (one_of_none vip at)
once_has (first ∷ vips) vip at = by (once_has vips vip) (one_of first vips vip at)
  where
    others : List Ip4
    others = filter (λ other. not (first.at.addr.0 == other.0)) (addresses_once vips)

    rest : Contains (addresses_once vips) vip.at.addr → (b : Bool) → (first.at.addr.0 == vip.at.addr.0) ≡ b → Contains (first.at.addr ∷ others) vip.at.addr
    rest there true is = one_first first.at.addr others vip.at.addr (ap (λ n. let addr : Ip4 = record { 0 = n } in addr) (eqb-true first.at.addr.0 vip.at.addr.0 is))
    rest there false is = one_later first.at.addr others vip.at.addr (Contains-filter (λ other. not (first.at.addr.0 == other.0)) (addresses_once vips) vip.at.addr there (ap not is))

    by : (Contains vips vip → Contains (addresses_once vips) vip.at.addr) → (first ≡ vip) ⊎ Contains vips vip → Contains (first.at.addr ∷ others) vip.at.addr
    by more (inl is) = one_first first.at.addr others vip.at.addr (ap (λ (v : Vip). v.at.addr) is)
    by more (inr later) = rest (more later) (first.at.addr.0 == vip.at.addr.0) refl

-- ---- rows of a kind

-- the rows of the unit of each record
pub in_map : {R K I : Type 0} (unit_for : K → I → Unit) (rules_of : I → List Rule) (make : R → K × I) (rs : List R) (r : R) (row : Row)
    → Contains rs r → Contains (said_by (unit_for (make r).0 (make r).1) (rules_of (make r).1)) row → Contains (rows_of unit_for rules_of (map make rs)) row
in_map unit_for rules_of make rs r row there at = Contains-flat_map (λ u. said_by (unit_for u.0 u.1) (rules_of u.1)) (map make rs) (make r) row (Contains-map make rs r there) at

-- of each piece of each record
pub in_pieces : {R S K I : Type 0} (unit_for : K → I → Unit) (rules_of : I → List Rule) (pieces : R → List S) (make : R → S → K × I) (rs : List R) (r : R) (s : S) (row : Row)
    → Contains rs r → Contains (pieces r) s → Contains (said_by (unit_for (make r s).0 (make r s).1) (rules_of (make r s).1)) row → Contains (rows_of unit_for rules_of (flat_map (λ x. map (make x) (pieces x)) rs)) row
in_pieces unit_for rules_of pieces make rs r s row there piece at =
    Contains-flat_map (λ u. said_by (unit_for u.0 u.1) (rules_of u.1)) (flat_map (λ x. map (make x) (pieces x)) rs) (make r s) row
    (Contains-flat_map (λ x. map (make x) (pieces x)) rs r (make r s) there (Contains-map (make r) (pieces r) s piece)) at

-- of each piece of each load balancer of each router
pub in_balancers : {S K I : Type 0} (unit_for : K → I → Unit) (rules_of : I → List Rule) (net : Network) (pieces : Lb → List S) (make : Router → Lb → S → K × I) (router : Router) (lb : Lb) (s : S) (row : Row)
    → Contains net.routers router → Contains (lbs_of net router.id) lb → Contains (pieces lb) s → Contains (said_by (unit_for (make router lb s).0 (make router lb s).1) (rules_of (make router lb s).1)) row
    → Contains (rows_of unit_for rules_of (of_balancers net (λ own b. map (make own b) (pieces b)))) row
in_balancers unit_for rules_of net pieces make router lb s row there attached piece at =
    Contains-flat_map (λ u. said_by (unit_for u.0 u.1) (rules_of u.1)) (of_balancers net (λ own b. map (make own b) (pieces b))) (make router lb s) row
    (Contains-flat_map (λ own. flat_map (λ b. map (make own b) (pieces b)) (lbs_of net own.id)) net.routers router (make router lb s) there
    (Contains-flat_map (λ b. map (make router b) (pieces b)) (lbs_of net router.id) lb (make router lb s) attached (Contains-map (make router lb) (pieces lb) s piece))) at

-- ---- kinds among the rows of routers

module _ (net : Network) (row : Row) where
  of_input : Contains (rows_of_input net) row → Contains (router_rows net) row
  of_input at = Contains-append_left (rows_of_input net) (rows_of_routes net ++ rows_of_nat net) row at

  of_routes : Contains (rows_of_routes net) row → Contains (router_rows net) row
  of_routes at = Contains-append_right (rows_of_input net) (rows_of_routes net ++ rows_of_nat net) row (Contains-append_left (rows_of_routes net) (rows_of_nat net) row at)

  of_nat : Contains (rows_of_nat net) row → Contains (router_rows net) row
  of_nat at = Contains-append_right (rows_of_input net) (rows_of_routes net ++ rows_of_nat net) row (Contains-append_right (rows_of_routes net) (rows_of_nat net) row at)

  pub of_router_in : Contains (router_in_rows net) row → Contains (router_rows net) row
  of_router_in at = of_input (Contains-append_left (router_in_rows net) (port_in_rows net) row at)

  pub of_port_in : Contains (port_in_rows net) row → Contains (router_rows net) row
  of_port_in at = of_input (Contains-append_right (router_in_rows net) (port_in_rows net) row at)

  -- the kinds of routing from one on
  abbrev from_port_route : List Row
  from_port_route = port_route_rows net ++ (static_route_rows net ++ (binding_rows net ++ neighbour_rows net))

  after_router_route : Contains from_port_route row → Contains (router_rows net) row
  after_router_route at = of_routes (Contains-append_right (router_route_rows net) from_port_route row at)

  after_port_route : Contains (static_route_rows net ++ (binding_rows net ++ neighbour_rows net)) row → Contains (router_rows net) row
  after_port_route at = after_router_route (Contains-append_right (port_route_rows net) (static_route_rows net ++ (binding_rows net ++ neighbour_rows net)) row at)

  after_static_route : Contains (binding_rows net ++ neighbour_rows net) row → Contains (router_rows net) row
  after_static_route at = after_port_route (Contains-append_right (static_route_rows net) (binding_rows net ++ neighbour_rows net) row at)

  pub of_router_route : Contains (router_route_rows net) row → Contains (router_rows net) row
  of_router_route at = of_routes (Contains-append_left (router_route_rows net) from_port_route row at)

  pub of_port_route : Contains (port_route_rows net) row → Contains (router_rows net) row
  of_port_route at = after_router_route (Contains-append_left (port_route_rows net) (static_route_rows net ++ (binding_rows net ++ neighbour_rows net)) row at)

  pub of_static_route : Contains (static_route_rows net) row → Contains (router_rows net) row
  of_static_route at = after_port_route (Contains-append_left (static_route_rows net) (binding_rows net ++ neighbour_rows net) row at)

  pub of_binding : Contains (binding_rows net) row → Contains (router_rows net) row
  of_binding at = after_static_route (Contains-append_left (binding_rows net) (neighbour_rows net) row at)

  pub of_neighbour : Contains (neighbour_rows net) row → Contains (router_rows net) row
  of_neighbour at = after_static_route (Contains-append_right (binding_rows net) (neighbour_rows net) row at)

  -- the kinds of address translation from one on
  after_router_nat : Contains (nat_rule_rows net ++ (vip_router_rows net ++ vip_addr_rows net)) row → Contains (router_rows net) row
  after_router_nat at = of_nat (Contains-append_right (router_nat_rows net) (nat_rule_rows net ++ (vip_router_rows net ++ vip_addr_rows net)) row at)

  after_nat_rule : Contains (vip_router_rows net ++ vip_addr_rows net) row → Contains (router_rows net) row
  after_nat_rule at = after_router_nat (Contains-append_right (nat_rule_rows net) (vip_router_rows net ++ vip_addr_rows net) row at)

  pub of_router_nat : Contains (router_nat_rows net) row → Contains (router_rows net) row
  of_router_nat at = of_nat (Contains-append_left (router_nat_rows net) (nat_rule_rows net ++ (vip_router_rows net ++ vip_addr_rows net)) row at)

  pub of_nat_rule : Contains (nat_rule_rows net) row → Contains (router_rows net) row
  of_nat_rule at = after_router_nat (Contains-append_left (nat_rule_rows net) (vip_router_rows net ++ vip_addr_rows net) row at)

  pub of_vip_router : Contains (vip_router_rows net) row → Contains (router_rows net) row
  of_vip_router at = after_nat_rule (Contains-append_left (vip_router_rows net) (vip_addr_rows net) row at)

  pub of_vip_addr : Contains (vip_addr_rows net) row → Contains (router_rows net) row
  of_vip_addr at = after_nat_rule (Contains-append_right (vip_router_rows net) (vip_addr_rows net) row at)
