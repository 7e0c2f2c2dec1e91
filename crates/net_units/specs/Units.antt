-- The units of the switches of a network, kind by kind: what each depends on, and which there are. Those of its routers are in lr_units.
use Rattle.std.specs.Prelude.{List, map, filter, ⊤}
use Rattle.std.specs.List.{flat_map}
use Rattle.nv_base.specs.declared.object.ObjId.{ObjId}
use Rattle.nb_records.specs.declared.balancer.Frontend.{Frontend}
use Rattle.nb_model.specs.Applies.{lbs_on, switches_of_acl}
use Rattle.nb_model.specs.Network.{Network}
use Rattle.net_rows.specs.Build.{acl_on_input, is_untracked, port_acl_input, port_l2_input, port_sec_input, switch_acl_input, switch_l2_input, vip_input}
use Rattle.net_rows.specs.declared.inputs.AclOnInput.{AclOnInput}
use Rattle.net_rows.specs.declared.inputs.PortAclInput.{PortAclInput}
use Rattle.net_rows.specs.declared.inputs.PortL2Input.{PortL2Input}
use Rattle.net_rows.specs.declared.inputs.PortSecInput.{PortSecInput}
use Rattle.net_rows.specs.declared.inputs.SwitchAclInput.{SwitchAclInput}
use Rattle.net_rows.specs.declared.inputs.SwitchL2Input.{SwitchL2Input}
use Rattle.net_rows.specs.declared.inputs.VipInput.{VipInput}

-- ---- units of a switch

-- those that depend on no more than that it is there: of port security, and of load balancing
abbrev pub switch_units : Network → List (ObjId × ⊤)
switch_units net = map (λ switch. (switch.id, tt)) net.switches

abbrev pub switch_acl_units : Network → List (ObjId × SwitchAclInput)
switch_acl_units net = map (λ switch. (switch.id, switch_acl_input net switch.id)) net.switches

abbrev pub switch_l2_units : Network → List (ObjId × SwitchL2Input)
switch_l2_units net = map (λ switch. (switch.id, switch_l2_input net switch.id)) net.switches

-- ---- units of a port

abbrev pub port_sec_units : Network → List (ObjId × PortSecInput)
port_sec_units net = map (λ port. (port.id, port_sec_input port)) net.ports

-- of a port that leads to a router, where its switch tracks connections
abbrev pub port_acl_units : Network → List (ObjId × PortAclInput)
port_acl_units net = map (λ port. (port.id, port_acl_input port)) (filter (is_untracked net) net.ports)

abbrev pub port_l2_units : Network → List (ObjId × PortL2Input)
port_l2_units net = map (λ port. (port.id, port_l2_input net port)) net.ports

-- ---- units of an ACL on a switch, ACL by ACL

abbrev pub acl_on_units : Network → List ((ObjId × ObjId) × AclOnInput)
acl_on_units net = flat_map (λ acl. map (λ switch. ((acl.id, switch.id), acl_on_input net acl switch.id)) (switches_of_acl net acl)) net.acls

-- ---- units of a VIP on a switch, switch by switch

abbrev pub vip_switch_units : Network → List ((ObjId × Frontend × ObjId) × VipInput)
vip_switch_units net =
    flat_map (λ switch. flat_map (λ lb. map (λ vip. ((lb.id, vip.at, switch.id), vip_input lb vip)) lb.vips) (lbs_on net switch.id)) net.switches
