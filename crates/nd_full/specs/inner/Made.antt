-- What is made of the network's objects: the rows of each unit in row order, one unit after the other.
use Rattle.std.specs.Prelude.{Bool, ◌&&◌, if◌then◌else◌, List, [], ◌++◌, filter}
use Rattle.std.specs.List.{flat_map, list_any}
use Rattle.nv_base.specs.declared.object.ObjId.{ObjId}
use Rattle.nb_records.specs.declared.acl.Acl.{Acl}
use Rattle.nb_records.specs.declared.balancer.Lb.{Lb}
use Rattle.nb_records.specs.declared.balancer.Vip.{Vip}
use Rattle.nb_records.specs.declared.switch.Port.{Port}
use Rattle.nb_records.specs.declared.switch.Switch.{Switch}
use Rattle.nb_model.specs.Network.{Network}
use Rattle.nb_model.specs.Applies.{applies, is_related, tracks}
use Rattle.nb_model.specs.Belongs.{is_to_router}
use Rattle.net_rows.specs.Acls.{acl_on_rules, port_acl_rules, switch_acl_rules}
use Rattle.net_rows.specs.Build.{acl_on_rows, lb_rows, port_acl_input, port_l2_input, port_sec_input, switch_rows, vip_input}
use Rattle.net_rows.specs.LoadBalancers.{switch_lb_rules, vip_switch_rules}
use Rattle.net_rows.specs.Lookup.{port_l2_rules, switch_l2_rules}
use Rattle.net_rows.specs.PortSecurity.{port_sec_rules, switch_sec_rules}
use Rattle.net_rows.specs.Unit.{unit_of, unit_of_datapath, unit_rows}
use Rattle.net_rows.specs.declared.inputs.AclOnInput.{AclOnInput}
use Rattle.net_rows.specs.declared.inputs.SwitchAclInput.{SwitchAclInput}
use Rattle.net_rows.specs.declared.inputs.SwitchL2Input.{SwitchL2Input}
use Rattle.net_rows.specs.declared.rule.Rule.{Rule}
use Rattle.sb_model.specs.declared.row.Row.{Row}
use Rattle.nd_full.specs.inner.Owners.{acls_of, ports_on}

-- an `allow-related` ACL has this owner
abbrev pub has_related : Network → ObjId → Bool
has_related net owner = list_any (λ acl. is_related acl.verdict) (acls_of net owner)

-- the input of an ACL on a switch that tracks connections, or does not
abbrev pub input_on : Bool → Acl → AclOnInput
input_on tracks acl = record { way = acl.way; priority = acl.priority; matching = acl.matching; verdict = acl.verdict; tracks = tracks }

-- of an ACL on a switch
abbrev pub acl_unit : ObjId → Bool → Acl → List Row
acl_unit switch tracks acl = unit_rows (unit_of switch acl.id) (acl_on_rules (input_on tracks acl))

-- of the ACLs of an owner on a switch
abbrev pub acl_units : Network → ObjId → Bool → ObjId → List Row
acl_units net switch tracks owner = flat_map (acl_unit switch tracks) (acls_of net owner)

-- of a VIP on a switch
abbrev pub vip_unit : ObjId → Lb → Vip → List Row
vip_unit switch lb vip = unit_rows (unit_of switch lb.id) (vip_switch_rules (vip_input lb vip))

-- of a load balancer on a switch
abbrev pub balancer_units : ObjId → Lb → List Row
balancer_units switch lb = flat_map (vip_unit switch lb) lb.vips

-- of a switch
abbrev pub switch_units : ObjId → SwitchAclInput → SwitchL2Input → List Row
switch_units switch acl lookup =
    unit_rows (unit_of_datapath switch) switch_sec_rules
    ++ (unit_rows (unit_of_datapath switch) (switch_acl_rules acl) ++ (unit_rows (unit_of_datapath switch) switch_lb_rules ++ unit_rows (unit_of_datapath switch) (switch_l2_rules lookup)))

-- the rules of a port in the stages of ACLs, where its switch tracks connections and where it does not
abbrev pub acl_rules_where : Bool → Port → List Rule
acl_rules_where tracks port = if is_to_router port && tracks then port_acl_rules (port_acl_input port) else []

-- of a port
abbrev pub port_units : Network → Port → List Row
port_units net port =
    unit_rows (unit_of port.switch port.id) (port_sec_rules (port_sec_input port))
    ++ (unit_rows (unit_of port.switch port.id) (acl_rules_where (tracks net port.switch) port) ++ unit_rows (unit_of port.switch port.id) (port_l2_rules (port_l2_input net port)))

-- the rows of the datapath of a switch but those of its ports
abbrev pub rows_at : Network → Switch → List Row
rows_at net switch = switch_rows net switch ++ (flat_map (λ acl. acl_on_rows net acl switch) (filter (applies net switch.id) net.acls) ++ lb_rows net switch)

-- all rows of the datapath of a switch
abbrev pub datapath_rows : Network → Switch → List Row
datapath_rows net switch = rows_at net switch ++ flat_map (port_units net) (ports_on net switch.id)
