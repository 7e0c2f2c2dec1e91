-- The rows of the units of a network's routers (modelled on ovn-northd(8)).
use Rattle.std.specs.Prelude.{List, ◌++◌}
use Rattle.std.specs.List.{flat_map}
use Rattle.nb_model.specs.Network.{Network}
use Rattle.sb_model.specs.declared.row.Row.{Row}
use Rattle.net_rows.specs.Unit.{said_by, unit_of, unit_of_datapath}
use Rattle.net_rows.specs.declared.rule.Rule.{Rule}
use Rattle.net_rows.specs.declared.rule.Unit.{Unit}
use Rattle.lr_rows.specs.Balancers.{vip_addr_rules, vip_router_rules}
use Rattle.lr_rows.specs.Input.{port_in_rules, router_in_rules}
use Rattle.lr_rows.specs.Nat.{nat_rules, router_nat_rules}
use Rattle.lr_rows.specs.Neighbours.{binding_rules, neighbour_rules}
use Rattle.lr_rows.specs.Routes.{port_route_rules, router_route_rules, static_route_rules}
use Rattle.lr_units.specs.Units.{binding_units, nat_rule_units, neighbour_units, port_in_units, port_route_units, router_nat_units, router_units, static_route_units, vip_addr_units, vip_router_units}

-- the rows of the units of a kind: which unit a key and an input are of, and the rules of an input
abbrev pub rows_of : {K I : Type 0} → (K → I → Unit) → (I → List Rule) → List (K × I) → List Row
rows_of unit_for rules_of units = flat_map (λ unit. said_by (unit_for unit.0 unit.1) (rules_of unit.1)) units

-- ---- what routers have in the stages of admission, of learning neighbours and of input

abbrev pub router_in_rows : Network → List Row
router_in_rows net = rows_of (λ router input. unit_of_datapath router) (λ input. router_in_rules) (router_units net)

abbrev pub port_in_rows : Network → List Row
port_in_rows net = rows_of (λ port input. unit_of input.dp port) port_in_rules (port_in_units net)

-- ---- in those of routing, resolution and delivery

abbrev pub router_route_rows : Network → List Row
router_route_rows net = rows_of (λ router input. unit_of_datapath router) (λ input. router_route_rules) (router_units net)

abbrev pub port_route_rows : Network → List Row
port_route_rows net = rows_of (λ port input. unit_of input.dp port) port_route_rules (port_route_units net)

abbrev pub static_route_rows : Network → List Row
static_route_rows net = rows_of (λ route input. unit_of input.dp route) static_route_rules (static_route_units net)

abbrev pub binding_rows : Network → List Row
binding_rows net = rows_of (λ binding input. unit_of input.dp binding) binding_rules (binding_units net)

-- the rows of a router port and a port across it are made for the latter
abbrev pub neighbour_rows : Network → List Row
neighbour_rows net = rows_of (λ ports input. unit_of input.dp ports.1) neighbour_rules (neighbour_units net)

-- ---- in those of address translation and load balancing

abbrev pub router_nat_rows : Network → List Row
router_nat_rows net = rows_of (λ router input. unit_of_datapath router) router_nat_rules (router_nat_units net)

abbrev pub nat_rule_rows : Network → List Row
nat_rule_rows net = rows_of (λ nat input. unit_of input.dp nat) nat_rules (nat_rule_units net)

-- the rows of a VIP, or of an address of VIPs, at a router are made for its load balancer
abbrev pub vip_router_rows : Network → List Row
vip_router_rows net = rows_of (λ vip input. unit_of vip.2 vip.0) vip_router_rules (vip_router_units net)

abbrev pub vip_addr_rows : Network → List Row
vip_addr_rows net = rows_of (λ vip input. unit_of vip.2 vip.0) vip_addr_rules (vip_addr_units net)

-- ---- the rows of all units

abbrev pub rows_of_input : Network → List Row
rows_of_input net = router_in_rows net ++ port_in_rows net

abbrev pub rows_of_routes : Network → List Row
rows_of_routes net = router_route_rows net ++ (port_route_rows net ++ (static_route_rows net ++ (binding_rows net ++ neighbour_rows net)))

abbrev pub rows_of_nat : Network → List Row
rows_of_nat net = router_nat_rows net ++ (nat_rule_rows net ++ (vip_router_rows net ++ vip_addr_rows net))

-- in the order of their kinds
abbrev pub router_rows : Network → List Row
router_rows net = rows_of_input net ++ (rows_of_routes net ++ rows_of_nat net)
