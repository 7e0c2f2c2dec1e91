-- Which ACLs apply to a switch, which load balancers are attached to it, and whether it tracks connections (ovn-nb(5), 'ACL TABLE' and
-- 'Load_Balancer TABLE').
use Rattle.std.specs.Prelude.{Bool, true, false, not, ◌&&◌, ◌||◌, List, [], ◌∷◌, filter}
use Rattle.std.specs.List.{list_any}
use Rattle.nv_base.specs.declared.object.ObjId.{ObjId}
use Rattle.nb_records.specs.declared.acl.Verdict.{Verdict}
use Rattle.nb_records.specs.declared.acl.Verdict.TheVariants.{AllowRelated}
use Rattle.nb_records.specs.declared.acl.Way.{Way}
use Rattle.nb_model.specs.Belongs.{is_among, same_way}
use Rattle.nb_model.specs.Network.{Network, same, Acl, Lb, Switch}

-- a list of nothing
abbrev pub is_empty : {X : Type 0} → List X → Bool
is_empty [] = true
is_empty (x ∷ xs) = false

-- an ACL applies to the switch that owns it, and to each switch that has a port of the group that owns it
abbrev pub applies : Network → ObjId → Acl → Bool
applies net switch acl =
    same switch acl.owner
    || list_any (λ group. same group.id acl.owner && list_any (λ port. same port.switch switch && is_among port.id group.ports) net.ports) net.groups

-- the switches to which an ACL applies
abbrev pub switches_of_acl : Network → Acl → List Switch
switches_of_acl net acl = filter (λ switch. applies net switch.id acl) net.switches

-- the ACLs of a direction that apply to a switch
abbrev pub acls : Network → ObjId → Way → List Acl
acls net switch way = filter (λ acl. applies net switch acl && same_way acl.way way) net.acls

abbrev pub is_related : Verdict → Bool
is_related AllowRelated = true
is_related _ = false

-- a load balancer is attached to the switch
abbrev pub balances : Network → ObjId → Bool
balances net switch = list_any (λ own. same own.id switch && not (is_empty own.lbs)) net.switches

-- the load balancers that are attached to the switch
abbrev pub lbs_on : Network → ObjId → List Lb
lbs_on net switch = filter (λ lb. list_any (λ own. same own.id switch && is_among lb.id own.lbs) net.switches) net.lbs

-- a switch tracks connections where an `allow-related` ACL applies to it, or a load balancer is attached
abbrev pub tracks : Network → ObjId → Bool
tracks net switch = list_any (λ acl. applies net switch acl && is_related acl.verdict) net.acls || balances net switch
