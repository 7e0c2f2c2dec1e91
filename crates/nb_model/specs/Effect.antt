-- What an edit does to a network. What a definition does not name stays as it is.
use Rattle.std.specs.Prelude.{ℕ, ◌+◌, Bool, true, not, ◌&&◌, ◌==◌, if◌then◌else◌, List, [], ◌∷◌, ◌++◌, map, filter, Option, Some, None, is_some, unwrap_or}
use Rattle.std.specs.List.{find, list_any, list_all, filter_map}
use Rattle.std.specs.Str.{bytes_eq}
use Rattle.expr_core.specs.Formula.{Formula}
use Rattle.expr_core.specs.Text.{typed_text}
use Rattle.expr_core.specs.declared.typed.TypedAtom.{TypedAtom}
use Rattle.nv_base.specs.Block.{Block}
use Rattle.nv_base.specs.declared.ip4.Ip4.{Ip4}
use Rattle.nv_base.specs.declared.object.ObjId.{ObjId}
use Rattle.nb_records.specs.declared.acl.Way.{Way}
use Rattle.nb_records.specs.declared.balancer.Backend.{Backend}
use Rattle.nb_records.specs.declared.balancer.Frontend.{Frontend}
use Rattle.nb_records.specs.declared.balancer.Proto.{Proto}
use Rattle.nb_records.specs.declared.balancer.Proto.TheVariants.{Tcp}
use Rattle.nb_records.specs.declared.balancer.Vip.{Vip}
use Rattle.nb_records.specs.declared.edit.Edit.{Edit}
use Rattle.nb_records.specs.declared.edit.Edit.TheVariants as edit
use Rattle.nb_records.specs.declared.router.NatKind.{NatKind}
use Rattle.nb_records.specs.declared.router.RouteBy.{RouteBy}
use Rattle.nb_records.specs.declared.router.RouteBy.TheVariants.{Dst}
use Rattle.nb_records.specs.declared.sets.Member.{Member}
use Rattle.nb_records.specs.declared.switch.PortKind.TheVariants as port_kind
use Rattle.nb_model.specs.Network.{Network, next_number, same, switch_named, router_named, port_named, router_port_named, lb_named, switch_id, router_id, router_port_id, port_id, lb_id, group_id, Acl, Lb, Binding, Nat, Route, Router, RouterPort, AddrSet, Group, Port, Switch}
use Rattle.nb_model.specs.Belongs.{is_number, is_among, once, same_block, same_frontend, same_policy, same_nat_kind, is_snat, same_way, owner_id}

-- those of which something holds, changed
abbrev pub each_where : {X : Type 0} → (X → Bool) → (X → X) → List X → List X
each_where holds change xs = map (λ x. if holds x then change x else x) xs

-- those of which it does not hold
abbrev pub without : {X : Type 0} → (X → Bool) → List X → List X
without holds xs = filter (λ x. not (holds x)) xs

-- a change for the object that is there
abbrev pub where_there : {X : Type 0} → Option X → (X → Network) → Network → Network
where_there None change net = net
where_there (Some x) change net = change x

-- what was asked for, or anything where nothing was
abbrev pub is_asked : {X Y : Type 0} → (X → Y → Bool) → Option X → Y → Bool
is_asked same None own = true
is_asked same (Some asked) own = same asked own

-- the network without these ports of switches: they leave their groups too
abbrev pub without_ports : (Port → Bool) → Network → Network
without_ports gone net = record net {
  ports = without gone net.ports;
  groups = map (λ (group : Group). record group { ports = without (λ number. list_any (λ port. same port.id number && gone port) net.ports) group.ports }) net.groups;
}

-- the network without these router ports and their bindings
abbrev pub without_router_ports : (RouterPort → Bool) → Network → Network
without_router_ports gone net = record net {
  router_ports = without gone net.router_ports;
  bindings = without (λ binding. list_any (λ port. same port.id binding.port && gone port) net.router_ports) net.bindings;
}

-- the network without a load balancer, which leaves its switches and routers
abbrev pub without_lb : Option ObjId → Network → Network
without_lb number net = record net {
  lbs = without (λ lb. is_number number lb.id) net.lbs;
  switches = map (λ (switch : Switch). record switch { lbs = without (is_number number) switch.lbs }) net.switches;
  routers = map (λ (router : Router). record router { lbs = without (is_number number) router.lbs }) net.routers;
}

-- the numbers of the ports of these names
abbrev pub named_port_ids : Network → List (List ℕ) → List ObjId
named_port_ids net names = once (filter_map (port_id net) names)

-- Switches and their ports.

abbrev pub add_switch : Network → List ℕ → Network
add_switch net name = record net { switches = net.switches ++ record { id = next_number net; name = name; lbs = [] } ∷ []; next = net.next + 1 }

-- a new port is a host's, enabled, without addresses
abbrev pub add_port : Network → List ℕ → Switch → Network
add_port net name switch = record net {
  ports = net.ports ++ record {
    id = next_number net;
    switch = switch.id;
    name = name;
    kind = port_kind.Host;
    router_port = None;
    addresses = [];
    security = [];
    enabled = true;
  } ∷ [];
  next = net.next + 1;
}

abbrev pub delete_switch : Network → List ℕ → Network
delete_switch net name = record (without_ports (λ port. is_number (switch_id net name) port.switch) net) {
  switches = without (λ switch. is_number (switch_id net name) switch.id) net.switches;
  acls = without (λ acl. is_number (switch_id net name) acl.owner) net.acls;
}

abbrev pub delete_port : Network → List ℕ → Network
delete_port net name = without_ports (λ port. bytes_eq port.name name) net

abbrev pub set_port : Network → List ℕ → (Port → Port) → Network
set_port net name change = record net { ports = each_where (λ port. bytes_eq port.name name) change net.ports }

-- Routers and what belongs to them.

abbrev pub add_router : Network → List ℕ → Network
add_router net name = record net { routers = net.routers ++ record { id = next_number net; name = name; lbs = [] } ∷ []; next = net.next + 1 }

abbrev pub delete_router : Network → List ℕ → Network
delete_router net name = record (without_router_ports (λ port. is_number (router_id net name) port.router) net) {
  routers = without (λ router. is_number (router_id net name) router.id) net.routers;
  routes = without (λ route. is_number (router_id net name) route.router) net.routes;
  nats = without (λ nat. is_number (router_id net name) nat.router) net.nats;
}

abbrev pub add_router_port : Network → List ℕ → ℕ → List Block → Router → Network
add_router_port net name mac nets router = record net {
  router_ports = net.router_ports ++ record { id = next_number net; router = router.id; name = name; mac = mac; nets = nets; enabled = true } ∷ [];
  next = net.next + 1;
}

abbrev pub delete_router_port : Network → List ℕ → Network
delete_router_port net name = without_router_ports (λ port. bytes_eq port.name name) net

-- the policy of a route where none is given
abbrev pub policy_or : Option RouteBy → RouteBy
policy_or by = unwrap_or by Dst

-- the routes that `lr-route-del` is about
abbrev pub is_route : Network → List ℕ → Option Block → Option RouteBy → Route → Bool
is_route net router prefix by route =
    is_number (router_id net router) route.router && (is_asked same_block prefix route.prefix && is_asked same_policy by route.by)

-- the external address or, of an `snat` rule, the logical prefix is this one
abbrev pub is_nat_at : Nat → Block → Bool
is_nat_at nat at = if is_snat nat.kind then same_block at nat.logical else at.base.0 == nat.external.0

-- the rules that `lr-nat-del` is about
abbrev pub is_nat : Network → List ℕ → Option NatKind → Option Block → Nat → Bool
is_nat net router kind at nat =
    is_number (router_id net router) nat.router && (is_asked same_nat_kind kind nat.kind && is_asked (λ block own. is_nat_at own block) at nat)

-- Load balancers.

abbrev pub new_vip : Frontend → List Backend → Vip
new_vip at backends = record { at = at; backends = backends }

-- a VIP more, in the load balancer of that name, or in a new one, which takes TCP where no protocol is given
abbrev pub add_vip : Network → List ℕ → Vip → Option Proto → Network
add_vip net name vip proto =
    if is_some (lb_named net name) then record net { lbs = each_where (λ lb. bytes_eq lb.name name) (λ lb. record lb { vips = lb.vips ++ vip ∷ [] }) net.lbs }
    else record net { lbs = net.lbs ++ record { id = next_number net; name = name; proto = unwrap_or proto Tcp; vips = vip ∷ [] } ∷ []; next = net.next + 1 }

-- the load balancer has no other VIP
abbrev pub is_last_vip : Frontend → Lb → Bool
is_last_vip at lb = list_all (λ vip. same_frontend at vip.at) lb.vips

-- a VIP less; the last one takes the load balancer with it
abbrev pub delete_vip : Network → Frontend → Lb → Network
delete_vip net at lb =
    if is_last_vip at lb then without_lb (Some lb.id) net
    else record net { lbs = each_where (λ other. same lb.id other.id) (λ other. record other { vips = without (λ vip. same_frontend at vip.at) other.vips }) net.lbs }

-- a load balancer more in a list, last, where it is not there
abbrev pub with_number : ObjId → List ObjId → List ObjId
with_number number numbers = if is_among number numbers then numbers else numbers ++ number ∷ []

abbrev pub set_switch_lbs : Network → List ℕ → (List ObjId → List ObjId) → Network
set_switch_lbs net name change = record net { switches = each_where (λ switch. bytes_eq switch.name name) (λ switch. record switch { lbs = change switch.lbs }) net.switches }

abbrev pub set_router_lbs : Network → List ℕ → (List ObjId → List ObjId) → Network
set_router_lbs net name change = record net { routers = each_where (λ router. bytes_eq router.name name) (λ router. record router { lbs = change router.lbs }) net.routers }

-- the load balancer that is named, or each
abbrev pub is_detached : Network → Option (List ℕ) → ObjId → Bool
is_detached net None number = true
is_detached net (Some name) number = is_number (lb_id net name) number

-- ACLs, groups and sets.

-- the priority and the printed match are these
abbrev pub is_rule : ℕ × Formula TypedAtom → Acl → Bool
is_rule rule acl = (rule.0 == acl.priority) && bytes_eq (typed_text rule.1) (typed_text acl.matching)

-- the ACL of this owner, direction, priority and printed match
abbrev pub acl_like : Network → ObjId → Way → ℕ × Formula TypedAtom → Option Acl
acl_like net owner way rule = find (λ acl. same owner acl.owner && (same_way way acl.way && is_rule rule acl)) net.acls

-- an ACL more, where there is none like it
abbrev pub add_acl : Network → Acl → Network
add_acl net acl = if is_some (acl_like net acl.owner acl.way (acl.priority, acl.matching)) then net else record net { acls = net.acls ++ acl ∷ []; next = net.next + 1 }

-- the ACLs that `acl-del` is about
abbrev pub is_acl : Option ObjId → Option Way → Option (ℕ × Formula TypedAtom) → Acl → Bool
is_acl owner way rule acl = is_number owner acl.owner && (is_asked same_way way acl.way && is_asked is_rule rule acl)

abbrev pub delete_group : Network → List ℕ → Network
delete_group net name = record net {
  groups = without (λ group. is_number (group_id net name) group.id) net.groups;
  acls = without (λ acl. is_number (group_id net name) acl.owner) net.acls;
}

abbrev pub set_members : List ℕ → List Member → List AddrSet → List AddrSet
set_members name members sets = each_where (λ set. bytes_eq set.name name) (λ set. record set { members = members }) sets

-- the binding that `smb-del` is about
abbrev pub is_binding : Network → List ℕ → Ip4 → Binding → Bool
is_binding net port addr binding = is_number (router_port_id net port) binding.port && (addr.0 == binding.addr.0)

-- What each command does, where no test refuses it. A command with `--may-exist` changes nothing where its object is there.
abbrev pub effect : Network → Edit → Network
effect net (edit.LsAdd name may) = if is_some (switch_named net name) then net else add_switch net name
effect net (edit.LrAdd name may) = if is_some (router_named net name) then net else add_router net name
effect net (edit.LsDel name may) = delete_switch net name
effect net (edit.LrDel name may) = delete_router net name
effect net (edit.LspAdd switch port may) = if is_some (port_named net port) then net else where_there (switch_named net switch) (add_port net port) net
effect net (edit.LspDel port may) = delete_port net port
effect net (edit.LspSetAddresses port list) = set_port net port (λ p. record p { addresses = list })
effect net (edit.LspSetPortSecurity port list) = set_port net port (λ p. record p { security = list })
effect net (edit.LspSetType port kind) = set_port net port (λ p. record p { kind = kind })
effect net (edit.LspSetOptions port name) = set_port net port (λ p. record p { router_port = name })
effect net (edit.LspSetEnabled port enabled) = set_port net port (λ p. record p { enabled = enabled })
effect net (edit.LrpSetEnabled port enabled) = record net { router_ports = each_where (λ p. bytes_eq p.name port) (λ p. record p { enabled = enabled }) net.router_ports }
effect net (edit.LrpAdd router port mac nets may) =
    if is_some (router_port_named net port) then net else where_there (router_named net router) (add_router_port net port mac nets) net
effect net (edit.LrpDel port may) = delete_router_port net port
effect net (edit.LrRouteAdd router prefix nexthop port by) = where_there (router_id net router)
    (λ r. record net { routes = net.routes ++ record { id = next_number net; router = r; by = policy_or by; prefix = prefix; nexthop = nexthop; port = port } ∷ []; next = net.next + 1 }) net
effect net (edit.LrRouteDel router prefix may by) = record net { routes = without (is_route net router prefix by) net.routes }
effect net (edit.LrNatAdd router kind external logical) = where_there (router_id net router)
    (λ r. record net { nats = net.nats ++ record { id = next_number net; router = r; kind = kind; external = external; logical = logical } ∷ []; next = net.next + 1 }) net
effect net (edit.LrNatDel router kind at may) = record net { nats = without (is_nat net router kind at) net.nats }
effect net (edit.LbAdd name at backends proto) = add_vip net name (new_vip at backends) proto
effect net (edit.LbDel name None may) = without_lb (lb_id net name) net
effect net (edit.LbDel name (Some at) may) = where_there (lb_named net name) (delete_vip net at) net
effect net (edit.LsLbAdd switch name may) = where_there (lb_id net name) (λ number. set_switch_lbs net switch (with_number number)) net
effect net (edit.LrLbAdd router name may) = where_there (lb_id net name) (λ number. set_router_lbs net router (with_number number)) net
effect net (edit.LsLbDel switch name may) = set_switch_lbs net switch (without (is_detached net name))
effect net (edit.LrLbDel router name may) = set_router_lbs net router (without (is_detached net name))
effect net (edit.AclAdd name way priority matching verdict may of) = where_there (owner_id net of name)
    (λ owner. add_acl net (record { id = next_number net; owner = owner; way = way; priority = priority; matching = matching; verdict = verdict })) net
effect net (edit.AclDel name way rule of) = record net { acls = without (is_acl (owner_id net of name) way rule) net.acls }
effect net (edit.PgAdd name ports) = record net { groups = net.groups ++ record { id = next_number net; name = name; ports = named_port_ids net ports } ∷ []; next = net.next + 1 }
effect net (edit.PgSetPorts name ports) = record net { groups = each_where (λ group. bytes_eq group.name name) (λ group. record group { ports = named_port_ids net ports }) net.groups }
effect net (edit.PgDel name may) = delete_group net name
effect net (edit.AsAdd name members) = record net { sets = net.sets ++ record { id = next_number net; name = name; members = members } ∷ []; next = net.next + 1 }
effect net (edit.AsSet name members) = record net { sets = set_members name members net.sets }
effect net (edit.AsDel name may) = record net { sets = without (λ set. bytes_eq set.name name) net.sets }
effect net (edit.SmbAdd port addr mac) = where_there (router_port_id net port)
    (λ p. record net { bindings = net.bindings ++ record { id = next_number net; port = p; addr = addr; mac = mac } ∷ []; next = net.next + 1 }) net
effect net (edit.SmbDel port addr may) = record net { bindings = without (is_binding net port addr) net.bindings }
