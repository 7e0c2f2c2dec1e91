-- That no row is of two units: neither of two of one kind, nor of two kinds.
use Rattle.std.specs.Prelude.{◌≡◌, List, Some}
use Rattle.std.specs.List.{Contains}
use Rattle.std.specs.declared.cmp.Ordering.{Ordering}
use Rattle.std.specs.declared.cmp.Ordering.TheVariants.{Equal}
use Rattle.nv_map.specs.Map.{value_at}
use Rattle.nb_model.specs.Network.{Network}
use Rattle.sb_model.specs.declared.row.Row.{Row}
use Rattle.net_rows.specs.Acls.{acl_on_rules, port_acl_rules, switch_acl_rules}
use Rattle.net_rows.specs.LoadBalancers.{switch_lb_rules, vip_switch_rules}
use Rattle.net_rows.specs.Lookup.{port_l2_rules, switch_l2_rules}
use Rattle.net_rows.specs.PortSecurity.{port_sec_rules, switch_sec_rules}
use Rattle.net_rows.specs.Unit.{said_by, unit_of, unit_of_datapath}
use Rattle.net_rows.specs.declared.rule.Rule.{Rule}
use Rattle.net_rows.specs.declared.rule.Unit.{Unit}
use Rattle.lr_rows.specs.Balancers.{vip_addr_rules, vip_router_rules}
use Rattle.lr_rows.specs.Input.{port_in_rules, router_in_rules}
use Rattle.lr_rows.specs.Nat.{nat_rules, router_nat_rules}
use Rattle.lr_rows.specs.Neighbours.{binding_rules, neighbour_rules}
use Rattle.lr_rows.specs.Routes.{port_route_rules, router_route_rules, static_route_rules}
use Rattle.lr_units.specs.Units.{binding_units, nat_rule_units, neighbour_units, port_in_units, port_route_units, router_nat_units, router_units, static_route_units, vip_addr_units, vip_router_units}
use Rattle.net_units.specs.Keys.{by_addr, by_number, by_numbers, by_vip}
use Rattle.net_units.specs.Units.{acl_on_units, port_acl_units, port_l2_units, port_sec_units, switch_acl_units, switch_l2_units, switch_units, vip_switch_units}

-- ---- of one kind

-- where a row is of the units at two keys, the keys are equal; which unit a key and an input are of, and the rules of an input, are as in `rows_of`
abbrev pub RowsOfOneUnit : {K I : Type 0} → (K → K → Ordering) → (K → I → Unit) → (I → List Rule) → List (K × I) → Type 0
RowsOfOneUnit {K} {I} cmp unit_for rules_of units =
    (row : Row) (key key' : K) (input input' : I) → value_at cmp key units ≡ Some input → value_at cmp key' units ≡ Some input'
    → Contains (said_by (unit_for key input) (rules_of input)) row → Contains (said_by (unit_for key' input') (rules_of input')) row → cmp key key' ≡ Equal

-- and so of each kind
pub record AllRowsOfOneUnit (net : Network) : Type 0 where
  pub switch_sec : RowsOfOneUnit by_number (λ switch input. unit_of_datapath switch) (λ input. switch_sec_rules) (switch_units net)
  pub port_sec : RowsOfOneUnit by_number (λ port input. unit_of input.dp port) port_sec_rules (port_sec_units net)
  pub switch_acl : RowsOfOneUnit by_number (λ switch input. unit_of_datapath switch) switch_acl_rules (switch_acl_units net)
  pub port_acl : RowsOfOneUnit by_number (λ port input. unit_of input.dp port) port_acl_rules (port_acl_units net)
  pub acl_on : RowsOfOneUnit by_numbers (λ place input. unit_of place.1 place.0) acl_on_rules (acl_on_units net)
  pub switch_lb : RowsOfOneUnit by_number (λ switch input. unit_of_datapath switch) (λ input. switch_lb_rules) (switch_units net)
  pub vip_switch : RowsOfOneUnit by_vip (λ vip input. unit_of vip.2 vip.0) vip_switch_rules (vip_switch_units net)
  pub switch_l2 : RowsOfOneUnit by_number (λ switch input. unit_of_datapath switch) switch_l2_rules (switch_l2_units net)
  pub port_l2 : RowsOfOneUnit by_number (λ port input. unit_of input.dp port) port_l2_rules (port_l2_units net)
  pub router_in : RowsOfOneUnit by_number (λ router input. unit_of_datapath router) (λ input. router_in_rules) (router_units net)
  pub port_in : RowsOfOneUnit by_number (λ port input. unit_of input.dp port) port_in_rules (port_in_units net)
  pub router_route : RowsOfOneUnit by_number (λ router input. unit_of_datapath router) (λ input. router_route_rules) (router_units net)
  pub port_route : RowsOfOneUnit by_number (λ port input. unit_of input.dp port) port_route_rules (port_route_units net)
  pub static_route : RowsOfOneUnit by_number (λ route input. unit_of input.dp route) static_route_rules (static_route_units net)
  pub binding : RowsOfOneUnit by_number (λ binding input. unit_of input.dp binding) binding_rules (binding_units net)
  pub neighbour : RowsOfOneUnit by_numbers (λ ports input. unit_of input.dp ports.1) neighbour_rules (neighbour_units net)
  pub router_nat : RowsOfOneUnit by_number (λ router input. unit_of_datapath router) router_nat_rules (router_nat_units net)
  pub nat_rule : RowsOfOneUnit by_number (λ nat input. unit_of input.dp nat) nat_rules (nat_rule_units net)
  pub vip_router : RowsOfOneUnit by_vip (λ vip input. unit_of vip.2 vip.0) vip_router_rules (vip_router_units net)
  pub vip_addr : RowsOfOneUnit by_addr (λ vip input. unit_of vip.2 vip.0) vip_addr_rules (vip_addr_units net)

-- ---- of two kinds

-- no row is among both
abbrev pub ShareNoRow : List Row → List Row → Type 0
ShareNoRow rows others = (row : Row) → Contains rows row → Contains others row → ⊥
