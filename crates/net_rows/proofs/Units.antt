-- The rows of the units of the switches of a network.
use Rattle.std.proofs.Common.{◌≡◌, List, ◌⊎◌, inl, inr, ◌++◌}
use Rattle.std.specs.List.{Contains, flat_map}
use Rattle.std.proofs.lemmas.List.Elements.{Contains-append_left, Contains-append_right, Contains-append_cases}
use Rattle.sb_model.specs.declared.row.Row.{Row}
use Rattle.nb_records.specs.declared.acl.Acl.{Acl}
use Rattle.nb_records.specs.declared.balancer.Lb.{Lb}
use Rattle.nb_records.specs.declared.balancer.Vip.{Vip}
use Rattle.nb_records.specs.declared.switch.Port.{Port}
use Rattle.nb_records.specs.declared.switch.Switch.{Switch}
use Rattle.nb_model.specs.Applies.{lbs_on, switches_of_acl}
use Rattle.nb_model.specs.Network.{Network}
use Rattle.net_rows.specs.Acls.{acl_on_rules}
use Rattle.net_rows.specs.Build.{acl_on_input, switch_rules, port_rules, switch_rows, port_rows, acl_on_rows, acl_rows, lb_on_rows, lb_rows, all_rows, vip_input, vip_on_rows}
use Rattle.net_rows.specs.LoadBalancers.{vip_switch_rules}
use Rattle.net_rows.specs.Unit.{unit_of, unit_of_datapath, row_of}
use Rattle.net_rows.specs.declared.rule.Rule.{Rule}
use Rattle.net_rows.proofs.Elements.{Contains-from_map, Contains-map, Contains-from_flat_map, Contains-flat_map}

-- ---- where a row comes from

-- a rule of a switch
pub record IsSwitchRow (net : Network) (row : Row) : Type 0 where
  pub switch : Switch
  pub among : Contains net.switches switch
  pub says : Rule
  pub in_rules : Contains (switch_rules net switch.id) says
  pub is : row_of (unit_of_datapath switch.id) says ≡ row

-- a rule of a port
pub record IsPortRow (net : Network) (row : Row) : Type 0 where
  pub port : Port
  pub among : Contains net.ports port
  pub says : Rule
  pub in_rules : Contains (port_rules net port) says
  pub is : row_of (unit_of port.switch port.id) says ≡ row

-- a rule of an ACL on a switch to which it applies
pub record IsAclRow (net : Network) (row : Row) : Type 0 where
  pub acl : Acl
  pub among : Contains net.acls acl
  pub switch : Switch
  pub applied : Contains (switches_of_acl net acl) switch
  pub says : Rule
  pub in_rules : Contains (acl_on_rules (acl_on_input net acl switch.id)) says
  pub is : row_of (unit_of switch.id acl.id) says ≡ row

-- a rule of a VIP of a load balancer on a switch to which it is attached
pub record IsLbRow (net : Network) (row : Row) : Type 0 where
  pub switch : Switch
  pub among : Contains net.switches switch
  pub lb : Lb
  pub attached : Contains (lbs_on net switch.id) lb
  pub vip : Vip
  pub in_lb : Contains lb.vips vip
  pub says : Rule
  pub in_rules : Contains (vip_switch_rules (vip_input lb vip)) says
  pub is : row_of (unit_of switch.id lb.id) says ≡ row

-- one of these
abbrev pub IsRow : Network → Row → Type 0
IsRow net row = IsSwitchRow net row ⊎ (IsPortRow net row ⊎ (IsAclRow net row ⊎ IsLbRow net row))

module _ (net : Network) (row : Row) where
  switch_row : Contains (flat_map (switch_rows net) net.switches) row → IsSwitchRow net row
  unfolding switch_rows
  switch_row there =
      let at = Contains-from_flat_map (switch_rows net) net.switches row there in
      let said = Contains-from_map (row_of (unit_of_datapath at.0.id)) (switch_rules net at.0.id) row at.2 in
      record { switch = at.0; among = at.1; says = said.0; in_rules = said.1; is = said.2 }

  port_row : Contains (flat_map (port_rows net) net.ports) row → IsPortRow net row
  unfolding port_rows
  port_row there =
      let at = Contains-from_flat_map (port_rows net) net.ports row there in
      let said = Contains-from_map (row_of (unit_of at.0.switch at.0.id)) (port_rules net at.0) row at.2 in
      record { port = at.0; among = at.1; says = said.0; in_rules = said.1; is = said.2 }

  acl_row : Contains (flat_map (acl_rows net) net.acls) row → IsAclRow net row
  unfolding acl_on_rows
  acl_row there =
      let at = Contains-from_flat_map (acl_rows net) net.acls row there in
      let on = Contains-from_flat_map (acl_on_rows net at.0) (switches_of_acl net at.0) row at.2 in
      let said = Contains-from_map (row_of (unit_of on.0.id at.0.id)) (acl_on_rules (acl_on_input net at.0 on.0.id)) row on.2 in
      record { acl = at.0; among = at.1; switch = on.0; applied = on.1; says = said.0; in_rules = said.1; is = said.2 }

  lb_row : Contains (flat_map (lb_rows net) net.switches) row → IsLbRow net row
  unfolding vip_on_rows
  lb_row there =
      let at = Contains-from_flat_map (lb_rows net) net.switches row there in
      let of = Contains-from_flat_map (lb_on_rows at.0) (lbs_on net at.0.id) row at.2 in
      let on = Contains-from_flat_map (vip_on_rows at.0 of.0) of.0.vips row of.2 in
      let said = Contains-from_map (row_of (unit_of at.0.id of.0.id)) (vip_switch_rules (vip_input of.0 on.0)) row on.2 in
      record { switch = at.0; among = at.1; lb = of.0; attached = of.1; vip = on.0; in_lb = on.1; says = said.0; in_rules = said.1; is = said.2 }

  abbrev of_switches : List Row
  of_switches = flat_map (switch_rows net) net.switches

  abbrev of_ports : List Row
  of_ports = flat_map (port_rows net) net.ports

  abbrev of_acls : List Row
  of_acls = flat_map (acl_rows net) net.acls

  abbrev of_lbs : List Row
  of_lbs = flat_map (lb_rows net) net.switches

  -- each row comes from a switch, a port, an ACL or a load balancer
  pub all_rows-gives : Contains (all_rows net) row → IsRow net row
  all_rows-gives there = by (Contains-append_cases of_switches (of_ports ++ (of_acls ++ of_lbs)) row there)
    where
      last : Contains of_acls row ⊎ Contains of_lbs row → IsRow net row
      last (inl at) = inr (inr (inl (acl_row at)))
      last (inr at) = inr (inr (inr (lb_row at)))

      later : Contains of_ports row ⊎ Contains (of_acls ++ of_lbs) row → IsRow net row
      later (inl at) = inr (inl (port_row at))
      later (inr at) = last (Contains-append_cases of_acls of_lbs row at)

      by : Contains of_switches row ⊎ Contains (of_ports ++ (of_acls ++ of_lbs)) row → IsRow net row
      by (inl at) = inl (switch_row at)
      by (inr at) = later (Contains-append_cases of_ports (of_acls ++ of_lbs) row at)

module _ (net : Network) where
  -- the rows of one part are among those of all
  switches_there : (row : Row) → Contains (of_switches net row) row → Contains (all_rows net) row
  switches_there row at = Contains-append_left (of_switches net row) (of_ports net row ++ (of_acls net row ++ of_lbs net row)) row at

  later_there : (row : Row) → Contains (of_ports net row ++ (of_acls net row ++ of_lbs net row)) row → Contains (all_rows net) row
  later_there row at = Contains-append_right (of_switches net row) (of_ports net row ++ (of_acls net row ++ of_lbs net row)) row at

  last_there : (row : Row) → Contains (of_acls net row ++ of_lbs net row) row → Contains (all_rows net) row
  last_there row at = later_there row (Contains-append_right (of_ports net row) (of_acls net row ++ of_lbs net row) row at)

  -- each rule of each switch is there
  pub rows-switch : (switch : Switch) (says : Rule) → Contains net.switches switch → Contains (switch_rules net switch.id) says → Contains (all_rows net) (row_of (unit_of_datapath switch.id) says)
  unfolding switch_rows
  rows-switch switch says there in_it =
      let row = row_of (unit_of_datapath switch.id) says in
      switches_there row (Contains-flat_map (switch_rows net) net.switches switch row there (Contains-map (row_of (unit_of_datapath switch.id)) (switch_rules net switch.id) says in_it))

  -- and of each port
  pub rows-port : (port : Port) (says : Rule) → Contains net.ports port → Contains (port_rules net port) says → Contains (all_rows net) (row_of (unit_of port.switch port.id) says)
  unfolding port_rows
  rows-port port says there in_it =
      let row = row_of (unit_of port.switch port.id) says in
      later_there row
      (Contains-append_left (of_ports net row) (of_acls net row ++ of_lbs net row) row
      (Contains-flat_map (port_rows net) net.ports port row there (Contains-map (row_of (unit_of port.switch port.id)) (port_rules net port) says in_it)))

  -- and of each ACL on each switch to which it applies
  pub rows-acl : (acl : Acl) (switch : Switch) (says : Rule) → Contains net.acls acl → Contains (switches_of_acl net acl) switch → Contains (acl_on_rules (acl_on_input net acl switch.id)) says
      → Contains (all_rows net) (row_of (unit_of switch.id acl.id) says)
  unfolding acl_on_rows
  rows-acl acl switch says there applied in_it =
      let row = row_of (unit_of switch.id acl.id) says in
      last_there row
      (Contains-append_left (of_acls net row) (of_lbs net row) row
      (Contains-flat_map (acl_rows net) net.acls acl row there
      (Contains-flat_map (acl_on_rows net acl) (switches_of_acl net acl) switch row applied (Contains-map (row_of (unit_of switch.id acl.id)) (acl_on_rules (acl_on_input net acl switch.id)) says in_it))))

  -- and of each VIP of each load balancer on each switch to which it is attached
  pub rows-lb : (switch : Switch) (lb : Lb) (vip : Vip) (says : Rule) → Contains net.switches switch → Contains (lbs_on net switch.id) lb → Contains lb.vips vip → Contains (vip_switch_rules (vip_input lb vip)) says
      → Contains (all_rows net) (row_of (unit_of switch.id lb.id) says)
  unfolding vip_on_rows
  rows-lb switch lb vip says there attached in_lb in_it =
      let row = row_of (unit_of switch.id lb.id) says in
      last_there row
      (Contains-append_right (of_acls net row) (of_lbs net row) row
      (Contains-flat_map (lb_rows net) net.switches switch row there
      (Contains-flat_map (lb_on_rows switch) (lbs_on net switch.id) lb row attached
      (Contains-flat_map (vip_on_rows switch lb) lb.vips vip row in_lb (Contains-map (row_of (unit_of switch.id lb.id)) (vip_switch_rules (vip_input lb vip)) says in_it)))))
