-- The edits that make a network again, for a dump.
use Rattle.std.specs.Prelude.{ℕ, ◌-◌, Bool, false, if◌then◌else◌, List, [], ◌∷◌, ◌++◌, map, Option, None, Some}
use Rattle.std.specs.List.{flat_map, range_with_len}
use Rattle.nv_base.specs.declared.object.ObjId.{ObjId}
use Rattle.nv_table.specs.Table.{record_of}
use Rattle.nb_records.specs.declared.acl.Acl.{Acl}
use Rattle.nb_records.specs.declared.balancer.Lb.{Lb}
use Rattle.nb_records.specs.declared.edit.Edit.{Edit}
use Rattle.nb_records.specs.declared.edit.Edit.TheVariants as edit
use Rattle.nb_records.specs.declared.edit.OwnerKind.TheVariants as owner_kind
use Rattle.nb_records.specs.declared.router.Binding.{Binding}
use Rattle.nb_records.specs.declared.router.Nat.{Nat}
use Rattle.nb_records.specs.declared.router.Route.{Route}
use Rattle.nb_records.specs.declared.router.Router.{Router}
use Rattle.nb_records.specs.declared.router.RouterPort.{RouterPort}
use Rattle.nb_records.specs.declared.sets.AddrSet.{AddrSet}
use Rattle.nb_records.specs.declared.sets.Group.{Group}
use Rattle.nb_records.specs.declared.switch.Addr.{Addr}
use Rattle.nb_records.specs.declared.switch.Guard.{Guard}
use Rattle.nb_records.specs.declared.switch.Port.{Port}
use Rattle.nb_records.specs.declared.switch.PortKind.{PortKind}
use Rattle.nb_records.specs.declared.switch.PortKind.TheVariants as kind
use Rattle.nb_records.specs.declared.switch.Switch.{Switch}
use Rattle.nb_model.specs.Network.{Network}
use Rattle.nb_text.specs.Commands.{policy}

-- the object of a number, where there is one of the kind
abbrev pub switch_numbered : Network → ObjId → Option Switch
switch_numbered net n = record_of (λ s. s.id) n net.switches

abbrev pub port_numbered : Network → ObjId → Option Port
port_numbered net n = record_of (λ p. p.id) n net.ports

abbrev pub router_numbered : Network → ObjId → Option Router
router_numbered net n = record_of (λ r. r.id) n net.routers

abbrev pub router_port_numbered : Network → ObjId → Option RouterPort
router_port_numbered net n = record_of (λ p. p.id) n net.router_ports

abbrev pub lb_numbered : Network → ObjId → Option Lb
lb_numbered net n = record_of (λ lb. lb.id) n net.lbs

abbrev pub route_numbered : Network → ObjId → Option Route
route_numbered net n = record_of (λ r. r.id) n net.routes

abbrev pub nat_numbered : Network → ObjId → Option Nat
nat_numbered net n = record_of (λ r. r.id) n net.nats

abbrev pub acl_numbered : Network → ObjId → Option Acl
acl_numbered net n = record_of (λ a. a.id) n net.acls

abbrev pub set_numbered : Network → ObjId → Option AddrSet
set_numbered net n = record_of (λ s. s.id) n net.sets

abbrev pub binding_numbered : Network → ObjId → Option Binding
binding_numbered net n = record_of (λ b. b.id) n net.bindings

abbrev pub group_numbered : Network → ObjId → Option Group
group_numbered net n = record_of (λ g. g.id) n net.groups

-- the name of an object, empty where there is none
abbrev pub name_in : {R : Type 0} → (R → List ℕ) → Option R → List ℕ
name_in name None = []
name_in name (Some r) = name r

abbrev pub switch_name : Network → ObjId → List ℕ
switch_name net n = name_in (λ s. s.name) (switch_numbered net n)

abbrev pub port_name : Network → ObjId → List ℕ
port_name net n = name_in (λ p. p.name) (port_numbered net n)

abbrev pub router_name : Network → ObjId → List ℕ
router_name net n = name_in (λ r. r.name) (router_numbered net n)

abbrev pub router_port_name : Network → ObjId → List ℕ
router_port_name net n = name_in (λ p. p.name) (router_port_numbered net n)

abbrev pub lb_name : Network → ObjId → List ℕ
lb_name net n = name_in (λ lb. lb.name) (lb_numbered net n)

abbrev pub group_name : Network → ObjId → List ℕ
group_name net n = name_in (λ g. g.name) (group_numbered net n)

-- those of a switch port's settings that are not the first ones
abbrev pub kind_edits : List ℕ → PortKind → List Edit
kind_edits port kind.Host = []
kind_edits port kind.Router = edit.LspSetType port kind.Router ∷ []

abbrev pub option_edits : List ℕ → Option (List ℕ) → List Edit
option_edits port None = []
option_edits port (Some name) = edit.LspSetOptions port (Some name) ∷ []

abbrev pub address_edits : List ℕ → List Addr → List Edit
address_edits port [] = []
address_edits port (a ∷ more) = edit.LspSetAddresses port (a ∷ more) ∷ []

abbrev pub guard_edits : List ℕ → List Guard → List Edit
guard_edits port [] = []
guard_edits port (g ∷ more) = edit.LspSetPortSecurity port (g ∷ more) ∷ []

abbrev pub port_state_edits : List ℕ → Bool → List Edit
port_state_edits port enabled = if enabled then [] else edit.LspSetEnabled port false ∷ []

abbrev pub router_port_state_edits : List ℕ → Bool → List Edit
router_port_state_edits port enabled = if enabled then [] else edit.LrpSetEnabled port false ∷ []

-- what makes an object, in its network
abbrev pub switch_edits : Network → Switch → List Edit
switch_edits net s = edit.LsAdd s.name false ∷ []

abbrev pub port_edits : Network → Port → List Edit
port_edits net p =
    edit.LspAdd (switch_name net p.switch) p.name false
    ∷ (kind_edits p.name p.kind ++ option_edits p.name p.router_port ++ address_edits p.name p.addresses ++ guard_edits p.name p.security
    ++ port_state_edits p.name p.enabled)

abbrev pub router_edits : Network → Router → List Edit
router_edits net r = edit.LrAdd r.name false ∷ []

abbrev pub router_port_edits : Network → RouterPort → List Edit
router_port_edits net p = edit.LrpAdd (router_name net p.router) p.name p.mac p.nets false ∷ router_port_state_edits p.name p.enabled

abbrev pub route_edits : Network → Route → List Edit
route_edits net r = edit.LrRouteAdd (router_name net r.router) r.prefix r.nexthop r.port (policy r.by) ∷ []

abbrev pub nat_edits : Network → Nat → List Edit
nat_edits net n = edit.LrNatAdd (router_name net n.router) n.kind n.external n.logical ∷ []

abbrev pub lb_edits : Network → Lb → List Edit
lb_edits net lb = map (λ vip. edit.LbAdd lb.name vip.at vip.backends (Some lb.proto)) lb.vips

-- an ACL of a switch or, where its owner is none, of a group
abbrev pub owned_edits : Network → Acl → Option Switch → List Edit
owned_edits net a (Some s) = edit.AclAdd s.name a.way a.priority a.matching a.verdict false None ∷ []
owned_edits net a None = edit.AclAdd (group_name net a.owner) a.way a.priority a.matching a.verdict false (Some owner_kind.Group) ∷ []

abbrev pub acl_edits : Network → Acl → List Edit
acl_edits net a = owned_edits net a (switch_numbered net a.owner)

abbrev pub set_edits : Network → AddrSet → List Edit
set_edits net s = edit.AsAdd s.name s.members ∷ []

-- a group is made without ports
abbrev pub group_edits : Network → Group → List Edit
group_edits net g = edit.PgAdd g.name [] ∷ []

abbrev pub binding_edits : Network → Binding → List Edit
binding_edits net b = edit.SmbAdd (router_port_name net b.port) b.addr b.mac ∷ []

-- the edits for an object that may be there
abbrev pub edits_for : {R : Type 0} → (R → List Edit) → Option R → List Edit
edits_for edits None = []
edits_for edits (Some r) = edits r

-- what makes the switch, the router or the port of a number
abbrev pub datapath_edits : Network → ObjId → List Edit
datapath_edits net n =
    edits_for (switch_edits net) (switch_numbered net n) ++ edits_for (port_edits net) (port_numbered net n) ++ edits_for (router_edits net) (router_numbered net n)
    ++ edits_for (router_port_edits net) (router_port_numbered net n)

-- what makes the route, the NAT rule, the load balancer or the ACL of a number
abbrev pub rule_edits : Network → ObjId → List Edit
rule_edits net n =
    edits_for (route_edits net) (route_numbered net n) ++ edits_for (nat_edits net) (nat_numbered net n) ++ edits_for (lb_edits net) (lb_numbered net n)
    ++ edits_for (acl_edits net) (acl_numbered net n)

-- what makes the set, the group or the binding of a number
abbrev pub listed_edits : Network → ObjId → List Edit
listed_edits net n =
    edits_for (set_edits net) (set_numbered net n) ++ edits_for (group_edits net) (group_numbered net n) ++ edits_for (binding_edits net) (binding_numbered net n)

-- what makes the object of a number
abbrev pub object_edits : Network → ObjId → List Edit
object_edits net n = datapath_edits net n ++ rule_edits net n ++ listed_edits net n

-- the ports of a group that has any
abbrev pub ports_edits : List ℕ → List (List ℕ) → List Edit
ports_edits group [] = []
ports_edits group (port ∷ ports) = edit.PgSetPorts group (port ∷ ports) ∷ []

abbrev pub members_edits : Network → Group → List Edit
members_edits net g = ports_edits g.name (map (port_name net) g.ports)

-- the load balancers of a switch, and of a router
abbrev pub switch_lb_edits : Network → Switch → List Edit
switch_lb_edits net s = map (λ lb. edit.LsLbAdd s.name (lb_name net lb) false) s.lbs

abbrev pub router_lb_edits : Network → Router → List Edit
router_lb_edits net r = map (λ lb. edit.LrLbAdd r.name (lb_name net lb) false) r.lbs

-- the object numbers below this one, from 1
abbrev pub numbers_below : ℕ → List ObjId
numbers_below n = map (λ number. record { 0 = number }) (range_with_len 1 (n - 1))

-- the edits of a dump: by rising number what makes each object, then the members of groups, then load balancers where they are attached
abbrev pub dump_edits : Network → List Edit
dump_edits net =
    flat_map (object_edits net) (numbers_below net.next) ++ flat_map (λ n. edits_for (members_edits net) (group_numbered net n)) (numbers_below net.next)
    ++ flat_map (λ n. edits_for (switch_lb_edits net) (switch_numbered net n)) (numbers_below net.next)
    ++ flat_map (λ n. edits_for (router_lb_edits net) (router_numbered net n)) (numbers_below net.next)
