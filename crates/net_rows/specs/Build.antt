-- The full build: the rows of the units of a network (modelled on ovn-northd(8)).
use Rattle.std.specs.Prelude.{ℕ, Bool, ◌&&◌, if◌then◌else◌, List, [], ◌++◌, Option, option_map}
use Rattle.std.specs.List.{flat_map, list_any}
use Rattle.nv_base.specs.declared.object.ObjId.{ObjId}
use Rattle.nb_records.specs.declared.acl.Acl.{Acl}
use Rattle.nb_records.specs.declared.balancer.Lb.{Lb}
use Rattle.nb_records.specs.declared.balancer.Vip.{Vip}
use Rattle.nb_records.specs.declared.switch.Port.{Port}
use Rattle.nb_records.specs.declared.switch.Switch.{Switch}
use Rattle.nb_model.specs.Applies.{switches_of_acl}
use Rattle.nb_model.specs.Belongs.{is_to_router, peer_router_port}
use Rattle.nb_model.specs.Network.{Network}
use Rattle.sb_model.specs.declared.row.Row.{Row}
use Rattle.nb_model.specs.Applies.{tracks, balances, lbs_on}
use Rattle.nb_model.specs.Ports.{is_open, takes_unknown}
use Rattle.net_rows.specs.Acls.{switch_acl_rules, port_acl_rules, acl_on_rules}
use Rattle.net_rows.specs.LoadBalancers.{switch_lb_rules, vip_switch_rules}
use Rattle.net_rows.specs.Lookup.{switch_l2_rules, port_l2_rules}
use Rattle.net_rows.specs.PortSecurity.{switch_sec_rules, port_sec_rules}
use Rattle.net_rows.specs.Unit.{unit_of, unit_of_datapath, said_by}
use Rattle.net_rows.specs.declared.inputs.AclOnInput.{AclOnInput}
use Rattle.net_rows.specs.declared.inputs.PortAclInput.{PortAclInput}
use Rattle.net_rows.specs.declared.inputs.PortL2Input.{PortL2Input}
use Rattle.net_rows.specs.declared.inputs.PortSecInput.{PortSecInput}
use Rattle.net_rows.specs.declared.inputs.SwitchAclInput.{SwitchAclInput}
use Rattle.net_rows.specs.declared.inputs.SwitchL2Input.{SwitchL2Input}
use Rattle.net_rows.specs.declared.inputs.VipInput.{VipInput}
use Rattle.net_rows.specs.declared.rule.Rule.{Rule}

-- ---- the inputs of units

abbrev pub port_sec_input : Port → PortSecInput
port_sec_input port = record { dp = port.switch; name = port.name; enabled = port.enabled; security = port.security }

abbrev pub switch_acl_input : Network → ObjId → SwitchAclInput
switch_acl_input net switch = record { tracks = tracks net switch; balances = balances net switch }

abbrev pub port_acl_input : Port → PortAclInput
port_acl_input port = record { dp = port.switch; name = port.name }

-- what comes and goes by the port is not tracked: it leads to a router, and its switch tracks connections
abbrev pub is_untracked : Network → Port → Bool
is_untracked net port = is_to_router port && tracks net port.switch

abbrev pub acl_on_input : Network → Acl → ObjId → AclOnInput
acl_on_input net acl switch = record { way = acl.way; priority = acl.priority; matching = acl.matching; verdict = acl.verdict; tracks = tracks net switch }

-- an enabled port of the switch has the address `unknown`
abbrev pub has_unknown : Network → ObjId → Bool
has_unknown net switch = list_any (λ port. is_open switch port && takes_unknown port) net.ports

abbrev pub switch_l2_input : Network → ObjId → SwitchL2Input
switch_l2_input net switch = record { unknown = has_unknown net switch }

-- the MAC of the router port that is a port's peer
abbrev pub peer_mac : Network → Port → Option ℕ
peer_mac net port = option_map (λ peer. peer.mac) (peer_router_port net port)

abbrev pub port_l2_input : Network → Port → PortL2Input
port_l2_input net port =
    record { dp = port.switch; name = port.name; enabled = port.enabled; kind = port.kind; addresses = port.addresses; peer_mac = peer_mac net port }

-- of a VIP of a load balancer, at a switch or at a router
abbrev pub vip_input : Lb → Vip → VipInput
vip_input lb vip = record { at = vip.at; proto = lb.proto; backends = vip.backends }

-- ---- the rows of units

-- the rules of the units of a switch
abbrev pub switch_rules : Network → ObjId → List Rule
switch_rules net switch =
    switch_sec_rules ++ (switch_acl_rules (switch_acl_input net switch) ++ (switch_lb_rules ++ switch_l2_rules (switch_l2_input net switch)))

-- the rules of a port in the stages of ACLs
abbrev pub acl_rules_of_port : Network → Port → List Rule
acl_rules_of_port net port = if is_untracked net port then port_acl_rules (port_acl_input port) else []

-- the rules of the units of a port
abbrev pub port_rules : Network → Port → List Rule
port_rules net port = port_sec_rules (port_sec_input port) ++ (acl_rules_of_port net port ++ port_l2_rules (port_l2_input net port))

unfoldable pub switch_rows : Network → Switch → List Row
switch_rows net switch = said_by (unit_of_datapath switch.id) (switch_rules net switch.id)

unfoldable pub port_rows : Network → Port → List Row
port_rows net port = said_by (unit_of port.switch port.id) (port_rules net port)

-- the rows of an ACL on a switch
unfoldable pub acl_on_rows : Network → Acl → Switch → List Row
acl_on_rows net acl switch = said_by (unit_of switch.id acl.id) (acl_on_rules (acl_on_input net acl switch.id))

abbrev pub acl_rows : Network → Acl → List Row
acl_rows net acl = flat_map (acl_on_rows net acl) (switches_of_acl net acl)

-- the rows of a VIP on a switch are made for its load balancer
unfoldable pub vip_on_rows : Switch → Lb → Vip → List Row
vip_on_rows switch lb vip = said_by (unit_of switch.id lb.id) (vip_switch_rules (vip_input lb vip))

abbrev pub lb_on_rows : Switch → Lb → List Row
lb_on_rows switch lb = flat_map (vip_on_rows switch lb) lb.vips

abbrev pub lb_rows : Network → Switch → List Row
lb_rows net switch = flat_map (lb_on_rows switch) (lbs_on net switch.id)

-- the rows of all units
abbrev pub all_rows : Network → List Row
all_rows net =
    flat_map (switch_rows net) net.switches ++ (flat_map (port_rows net) net.ports ++ (flat_map (acl_rows net) net.acls ++ flat_map (lb_rows net) net.switches))
