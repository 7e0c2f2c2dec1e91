-- The rows of a network, kind of units by kind (modelled on ovn-northd(8)).
use Rattle.std.specs.Prelude.{List, [], ◌∷◌, ◌++◌}
use Rattle.nb_model.specs.Network.{Network}
use Rattle.sb_model.specs.declared.row.Row.{Row}
use Rattle.net_rows.specs.Acls.{acl_on_rules, port_acl_rules, switch_acl_rules}
use Rattle.net_rows.specs.LoadBalancers.{switch_lb_rules, vip_switch_rules}
use Rattle.net_rows.specs.Lookup.{port_l2_rules, switch_l2_rules}
use Rattle.net_rows.specs.PortSecurity.{port_sec_rules, switch_sec_rules}
use Rattle.net_rows.specs.Unit.{unit_of, unit_of_datapath}
use Rattle.lr_units.specs.Build.{binding_rows, nat_rule_rows, neighbour_rows, port_in_rows, port_route_rows, router_in_rows, router_nat_rows, router_route_rows, router_rows, rows_of, static_route_rows, vip_addr_rows, vip_router_rows}
use Rattle.net_units.specs.Units.{acl_on_units, port_acl_units, port_l2_units, port_sec_units, switch_acl_units, switch_l2_units, switch_units, vip_switch_units}

-- ---- of switches

abbrev pub switch_sec_rows : Network → List Row
switch_sec_rows net = rows_of (λ switch input. unit_of_datapath switch) (λ input. switch_sec_rules) (switch_units net)

abbrev pub switch_acl_rows : Network → List Row
switch_acl_rows net = rows_of (λ switch input. unit_of_datapath switch) switch_acl_rules (switch_acl_units net)

abbrev pub switch_lb_rows : Network → List Row
switch_lb_rows net = rows_of (λ switch input. unit_of_datapath switch) (λ input. switch_lb_rules) (switch_units net)

abbrev pub switch_l2_rows : Network → List Row
switch_l2_rows net = rows_of (λ switch input. unit_of_datapath switch) switch_l2_rules (switch_l2_units net)

-- ---- of their ports

abbrev pub port_sec_rows : Network → List Row
port_sec_rows net = rows_of (λ port input. unit_of input.dp port) port_sec_rules (port_sec_units net)

abbrev pub port_acl_rows : Network → List Row
port_acl_rows net = rows_of (λ port input. unit_of input.dp port) port_acl_rules (port_acl_units net)

abbrev pub port_l2_rows : Network → List Row
port_l2_rows net = rows_of (λ port input. unit_of input.dp port) port_l2_rules (port_l2_units net)

-- ---- of ACLs on switches, and of VIPs on switches, which are made for their load balancers

abbrev pub acl_on_rows : Network → List Row
acl_on_rows net = rows_of (λ place input. unit_of place.1 place.0) acl_on_rules (acl_on_units net)

abbrev pub vip_switch_rows : Network → List Row
vip_switch_rows net = rows_of (λ vip input. unit_of vip.2 vip.0) vip_switch_rules (vip_switch_units net)

-- ---- of all kinds

abbrev pub rows_of_switches : Network → List Row
rows_of_switches net = switch_sec_rows net ++ (switch_acl_rows net ++ (switch_lb_rows net ++ switch_l2_rows net))

abbrev pub rows_of_ports : Network → List Row
rows_of_ports net = port_sec_rows net ++ (port_acl_rows net ++ port_l2_rows net)

abbrev pub rows_by_kind : Network → List Row
rows_by_kind net = (rows_of_switches net ++ (rows_of_ports net ++ (acl_on_rows net ++ vip_switch_rows net))) ++ router_rows net

-- and those of each kind apart, in the order of their counts: SwitchSec, PortSec, SwitchAcl, PortAcl, AclOn, SwitchLb, VipSwitch, SwitchL2, PortL2,
-- RouterIn, PortIn, RouterRoute, PortRoute, StaticRoute, Binding, Neighbour, RouterNat, NatRule, VipRouter, VipAddr
abbrev pub rows_of_kinds : Network → List (List Row)
rows_of_kinds net =
    switch_sec_rows net
    ∷ port_sec_rows net
    ∷ switch_acl_rows net
    ∷ port_acl_rows net
    ∷ acl_on_rows net
    ∷ switch_lb_rows net
    ∷ vip_switch_rows net
    ∷ switch_l2_rows net
    ∷ port_l2_rows net
    ∷ router_in_rows net
    ∷ port_in_rows net
    ∷ router_route_rows net
    ∷ port_route_rows net
    ∷ static_route_rows net
    ∷ binding_rows net
    ∷ neighbour_rows net
    ∷ router_nat_rows net
    ∷ nat_rule_rows net
    ∷ vip_router_rows net
    ∷ vip_addr_rows net
    ∷ []
