-- Each edit leaves no number that is of no object.
use Rattle.std.proofs.Common.{◌≡◌, ℕ, ◌+◌, Bool, not, cond, Some, None, Option, List, [], ◌∷◌, ◌++◌, refl, ◌∙◌}
use Rattle.std.specs.Prelude.{IsTrue, is_some, unwrap_or, filter_map}
use Rattle.std.specs.List.{list_all}
use Rattle.std.specs.Str.{bytes_eq}
use Rattle.std.proofs.lemmas.Bool.{cond_both}
use Rattle.nv_base.specs.declared.object.ObjId.{ObjId}
use Rattle.nb_records.specs.declared.balancer.Frontend.{Frontend}
use Rattle.nb_records.specs.declared.balancer.Proto.{Proto}
use Rattle.nb_records.specs.declared.balancer.Proto.TheVariants.{Tcp}
use Rattle.nb_records.specs.declared.balancer.Vip.{Vip}
use Rattle.nb_records.specs.declared.edit.Edit.{Edit}
use Rattle.nb_records.specs.declared.edit.Edit.TheVariants as edit
use Rattle.nb_records.specs.declared.edit.OwnerKind.{OwnerKind}
use Rattle.nb_records.specs.declared.edit.OwnerKind.TheVariants as owner
use Rattle.nb_model.specs.Belongs.{is_among, same_frontend, owner_id, either}
use Rattle.nb_model.specs.Effect.{effect, each_where, without, where_there, add_switch, add_port, set_port, add_router, add_router_port, add_vip, delete_vip, is_last_vip, set_switch_lbs, set_router_lbs, acl_like, add_acl, named_port_ids, new_vip, with_number, is_detached, is_route, is_nat, is_acl, is_binding}
use Rattle.nb_model.specs.Network.{Network, next_number, same, switch_named, router_named, port_named, router_port_named, lb_named, switch_id, router_id, router_port_id, port_id, lb_id, group_id, Acl, Lb, Binding, Nat, Route, Router, RouterPort, Group, Port, Switch}
use Rattle.nb_model.specs.Sound.{Refer, switch_ids, port_ids, router_ids, router_port_ids, lb_ids, group_ids}
use Rattle.nb_model.proofs.Cases.{where_found}
use Rattle.nb_model.proofs.Covering.{refer_to, covers_where}
use Rattle.nb_model.proofs.Lists.{all_changed_where, among_found, among_left, among_right}
use Rattle.nb_model.proofs.RecordLists.{all_filter, all_push}
use Rattle.nb_model.proofs.References.{refers, all_refer, covers_more, among_found_number, all_once, all_found, all_with_number}
use Rattle.nb_model.proofs.Removals.{ports_removed, router_ports_removed, lb_removed, switch_removed, router_removed, group_removed}

-- One of a kind is new.

switch_new : (net : Network) (name : List ℕ) → Refer net → Refer (add_switch net name)
switch_new net name is =
    let new : Switch = record { id = next_number net; name = name; lbs = [] } in
    let to = refer_to net (add_switch net name) (assumption (covers_more (λ (x : Switch). x.id) net.switches new)) is in
    assumption (all_push (all_refer (λ (x : Switch). x.lbs) (lb_ids net)) net.switches new is.switches refl, to)

router_new : (net : Network) (name : List ℕ) → Refer net → Refer (add_router net name)
router_new net name is =
    let new : Router = record { id = next_number net; name = name; lbs = [] } in
    let to = refer_to net (add_router net name) (assumption (covers_more (λ (x : Router). x.id) net.routers new)) is in
    assumption (all_push (all_refer (λ (x : Router). x.lbs) (lb_ids net)) net.routers new is.routers refl, to)

port_new : (net : Network) (x : Port) → IsTrue (is_among x.switch (switch_ids net)) → Refer net → Refer (record net { ports = net.ports ++ x ∷ []; next = net.next + 1 })
port_new net x there is =
    let to = refer_to net (record net { ports = net.ports ++ x ∷ [] }) (assumption (covers_more (λ (p : Port). p.id) net.ports x)) is in
    assumption (all_push (refers (λ (p : Port). p.switch) (switch_ids net)) net.ports x is.ports there, to)

router_port_new : (net : Network) (x : RouterPort) → IsTrue (is_among x.router (router_ids net)) → Refer net → Refer (record net { router_ports = net.router_ports ++ x ∷ []; next = net.next + 1 })
router_port_new net x there is =
    let to = refer_to net (record net { router_ports = net.router_ports ++ x ∷ [] }) (assumption (covers_more (λ (p : RouterPort). p.id) net.router_ports x)) is in
    assumption (all_push (refers (λ (p : RouterPort). p.router) (router_ids net)) net.router_ports x is.router_ports there, to)

route_new : (net : Network) (x : Route) → IsTrue (is_among x.router (router_ids net)) → Refer net → Refer (record net { routes = net.routes ++ x ∷ []; next = net.next + 1 })
route_new net x there is = assumption (all_push (refers (λ (r : Route). r.router) (router_ids net)) net.routes x is.routes there)

nat_new : (net : Network) (x : Nat) → IsTrue (is_among x.router (router_ids net)) → Refer net → Refer (record net { nats = net.nats ++ x ∷ []; next = net.next + 1 })
nat_new net x there is = assumption (all_push (refers (λ (r : Nat). r.router) (router_ids net)) net.nats x is.nats there)

binding_new : (net : Network) (x : Binding) → IsTrue (is_among x.port (router_port_ids net)) → Refer net → Refer (record net { bindings = net.bindings ++ x ∷ []; next = net.next + 1 })
binding_new net x there is = assumption (all_push (refers (λ (b : Binding). b.port) (router_port_ids net)) net.bindings x is.bindings there)

acl_new : (net : Network) (x : Acl) → IsTrue (is_among x.owner (switch_ids net ++ group_ids net)) → Refer net → Refer (add_acl net x)
acl_new net x there is =
    cond_both (is_some (acl_like net x.owner x.way (x.priority, x.matching))) _ _ Refer (λ old. is)
    (λ new. assumption (all_push (refers (λ (a : Acl). a.owner) (switch_ids net ++ group_ids net)) net.acls x is.acls there))

-- the ports that are named are there
ports_there : (net : Network) (names : List (List ℕ)) → IsTrue (list_all (λ n. is_among n (port_ids net)) (named_port_ids net names))
ports_there net names =
    let there : ObjId → Bool = λ n. is_among n (port_ids net) in
    all_once there (filter_map (port_id net) names)
    (all_found there (port_id net) names (λ name number found. among_found_number (λ (p : Port). p.id) (λ p. bytes_eq p.name name) net.ports number found))

group_new : (net : Network) (x : Group) → IsTrue (list_all (λ n. is_among n (port_ids net)) x.ports) → Refer net → Refer (record net { groups = net.groups ++ x ∷ []; next = net.next + 1 })
group_new net x there is =
    let to = refer_to net (record net { groups = net.groups ++ x ∷ [] }) (assumption (covers_more (λ (g : Group). g.id) net.groups x)) is in
    assumption (all_push (all_refer (λ (g : Group). g.ports) (port_ids net)) net.groups x is.groups there, to)

-- Those of one kind are changed.

port_changed : (net : Network) (name : List ℕ) (change : Port → Port) → ((port : Port) → (change port).id ≡ port.id)
    → ((port : Port) → IsTrue (is_among port.switch (switch_ids net)) → IsTrue (is_among (change port).switch (switch_ids net))) → Refer net → Refer (set_port net name change)
port_changed net name change keeps stays is =
    let named = λ (port : Port). bytes_eq port.name name in
    let on : Port → Bool = λ port. is_among port.switch (switch_ids net) in
    let to = refer_to net (set_port net name change) (assumption (covers_where (λ (port : Port). port.id) named change net.ports keeps)) is in
    assumption (all_changed_where on on named change net.ports (λ port there. there) stays is.ports, to)

router_port_changed : (net : Network) (holds : RouterPort → Bool) (enabled : Bool) → Refer net → Refer (record net { router_ports = each_where holds (λ p. record p { enabled = enabled }) net.router_ports })
router_port_changed net holds enabled is =
    let change : RouterPort → RouterPort = λ port. record port { enabled = enabled } in
    let on : RouterPort → Bool = λ port. is_among port.router (router_ids net) in
    let to = refer_to net (record net { router_ports = each_where holds change net.router_ports })
    (assumption (covers_where (λ (port : RouterPort). port.id) holds change net.router_ports (λ port. refl))) is in
    assumption (all_changed_where on on holds change net.router_ports (λ port there. there) (λ port there. there) is.router_ports, to)

lbs_changed : (net : Network) (holds : Lb → Bool) (change : Lb → Lb) → ((lb : Lb) → (change lb).id ≡ lb.id) → Refer net → Refer (record net { lbs = each_where holds change net.lbs })
lbs_changed net holds change keeps is =
    let to = refer_to net (record net { lbs = each_where holds change net.lbs }) (assumption (covers_where (λ (lb : Lb). lb.id) holds change net.lbs keeps)) is in
    assumption to

-- what keeps numbers those of load balancers
Keeps : Network → (List ObjId → List ObjId) → Type 0
Keeps net change = (numbers : List ObjId) → IsTrue (list_all (λ n. is_among n (lb_ids net)) numbers) → IsTrue (list_all (λ n. is_among n (lb_ids net)) (change numbers))

switch_lbs_changed : (net : Network) (name : List ℕ) (change : List ObjId → List ObjId) → Keeps net change → Refer net → Refer (set_switch_lbs net name change)
unfolding Keeps
switch_lbs_changed net name change keeps is =
    let named = λ (x : Switch). bytes_eq x.name name in
    let changed : Switch → Switch = λ x. record x { lbs = change x.lbs } in
    let there : Switch → Bool = all_refer (λ x. x.lbs) (lb_ids net) in
    let to = refer_to net (set_switch_lbs net name change) (assumption (covers_where (λ (x : Switch). x.id) named changed net.switches (λ x. refl))) is in
    assumption (all_changed_where there there named changed net.switches (λ x all. all) (λ x all. keeps x.lbs all) is.switches, to)

router_lbs_changed : (net : Network) (name : List ℕ) (change : List ObjId → List ObjId) → Keeps net change → Refer net → Refer (set_router_lbs net name change)
unfolding Keeps
router_lbs_changed net name change keeps is =
    let named = λ (x : Router). bytes_eq x.name name in
    let changed : Router → Router = λ x. record x { lbs = change x.lbs } in
    let there : Router → Bool = all_refer (λ x. x.lbs) (lb_ids net) in
    let to = refer_to net (set_router_lbs net name change) (assumption (covers_where (λ (x : Router). x.id) named changed net.routers (λ x. refl))) is in
    assumption (all_changed_where there there named changed net.routers (λ x all. all) (λ x all. keeps x.lbs all) is.routers, to)

-- one more that is there, and some fewer, keep them
attached : (net : Network) (name : List ℕ) (number : ObjId) → lb_id net name ≡ Some number → Keeps net (with_number number)
unfolding Keeps
attached net name number found numbers all =
    all_with_number (λ n. is_among n (lb_ids net)) number numbers (among_found_number (λ (x : Lb). x.id) (λ x. bytes_eq x.name name) net.lbs number found) all

detached : (net : Network) (gone : ObjId → Bool) → Keeps net (without gone)
unfolding Keeps
detached net gone numbers all = all_filter (λ n. is_among n (lb_ids net)) (λ n. not (gone n)) numbers all

vip_added : (net : Network) (name : List ℕ) (vip : Vip) (proto : Option Proto) → Refer net → Refer (add_vip net name vip proto)
vip_added net name vip proto is =
    let new : Lb = record { id = next_number net; name = name; proto = unwrap_or proto Tcp; vips = vip ∷ [] } in
    cond_both (is_some (lb_named net name)) _ _ Refer
    (λ there. lbs_changed net (λ lb. bytes_eq lb.name name) (λ lb. record lb { vips = lb.vips ++ vip ∷ [] }) (λ lb. refl) is)
    (λ absent. let to = refer_to net (record net { lbs = net.lbs ++ new ∷ [] }) (assumption (covers_more (λ (lb : Lb). lb.id) net.lbs new)) is in assumption to)

vip_removed : (net : Network) (at : Frontend) (lb : Lb) → Refer net → Refer (delete_vip net at lb)
vip_removed net at lb is =
    cond_both (is_last_vip at lb) _ _ Refer (λ last. lb_removed net (Some lb.id) is)
    (λ others. lbs_changed net (λ other. same lb.id other.id) (λ other. record other { vips = without (λ vip. same_frontend at vip.at) other.vips }) (λ lb. refl) is)

-- the owner that a command names is there
owner_there : (net : Network) (of : Option OwnerKind) (name : List ℕ) (number : ObjId) → owner_id net of name ≡ Some number → IsTrue (is_among number (switch_ids net ++ group_ids net))
owner_there net (Some owner.Switch) name number found =
    among_left number (switch_ids net) (group_ids net) (among_found_number (λ (x : Switch). x.id) (λ x. bytes_eq x.name name) net.switches number found)
owner_there net (Some owner.Group) name number found =
    among_right number (switch_ids net) (group_ids net) (among_found_number (λ (x : Group). x.id) (λ x. bytes_eq x.name name) net.groups number found)
owner_there net None name number found = by (switch_id net name) refl found
  where
    by : (first : Option ObjId) → switch_id net name ≡ first → either first (group_id net name) ≡ Some number → IsTrue (is_among number (switch_ids net ++ group_ids net))
    by (Some n) is same = among_left number (switch_ids net) (group_ids net) (among_found_number (λ (x : Switch). x.id) (λ x. bytes_eq x.name name) net.switches number (is ∙ same))
    by None is same = among_right number (switch_ids net) (group_ids net) (among_found_number (λ (x : Group). x.id) (λ x. bytes_eq x.name name) net.groups number same)

-- a new object where its name is free
where_free : (taken : Bool) (net changed : Network) → Refer net → Refer changed → Refer (cond taken net changed)
where_free taken net changed left new = cond_both taken net changed Refer (λ there. left) (λ free. new)

-- a router that is found, and a router port, are there
router_there : (net : Network) (name : List ℕ) (number : ObjId) → router_id net name ≡ Some number → IsTrue (is_among number (router_ids net))
router_there net name number found = among_found_number (λ (x : Router). x.id) (λ x. bytes_eq x.name name) net.routers number found

router_port_there : (net : Network) (name : List ℕ) (number : ObjId) → router_port_id net name ≡ Some number → IsTrue (is_among number (router_port_ids net))
router_port_there net name number found = among_found_number (λ (x : RouterPort). x.id) (λ x. bytes_eq x.name name) net.router_ports number found

groups_changed : (net : Network) (name : List ℕ) (ports : List ObjId) → IsTrue (list_all (λ n. is_among n (port_ids net)) ports) → Refer net
    → Refer (record net { groups = each_where (λ group. bytes_eq group.name name) (λ group. record group { ports = ports }) net.groups })
groups_changed net name ports there is =
    let named = λ (group : Group). bytes_eq group.name name in
    let changed : Group → Group = λ group. record group { ports = ports } in
    let all_there : Group → Bool = all_refer (λ group. group.ports) (port_ids net) in
    let to = refer_to net (record net { groups = each_where named changed net.groups }) (assumption (covers_where (λ (group : Group). group.id) named changed net.groups (λ group. refl))) is in
    assumption (all_changed_where all_there all_there named changed net.groups (λ group all. all) (λ group all. there) is.groups, to)

pub edit_refers : (net : Network) (edit : Edit) → Refer net → Refer (effect net edit)
edit_refers net (edit.LsAdd name may) is = where_free (is_some (switch_named net name)) net (add_switch net name) is (switch_new net name is)
edit_refers net (edit.LrAdd name may) is = where_free (is_some (router_named net name)) net (add_router net name) is (router_new net name is)
edit_refers net (edit.LsDel name may) is = switch_removed net name is
edit_refers net (edit.LrDel name may) is = router_removed net name is
edit_refers net (edit.LspAdd switch port may) is =
    where_free (is_some (port_named net port)) net (where_there (switch_named net switch) (add_port net port) net) is
    (where_found Refer (switch_named net switch) (add_port net port) net is
    (λ s found. port_new net _ (among_found (λ (x : Switch). x.id) (λ x. bytes_eq x.name switch) net.switches s found) is))
edit_refers net (edit.LspDel port may) is = ports_removed net (λ p. bytes_eq p.name port) is
edit_refers net (edit.LspSetAddresses port list) is = port_changed net port (λ p. record p { addresses = list }) (λ p. refl) (λ p there. there) is
edit_refers net (edit.LspSetPortSecurity port list) is = port_changed net port (λ p. record p { security = list }) (λ p. refl) (λ p there. there) is
edit_refers net (edit.LspSetType port kind) is = port_changed net port (λ p. record p { kind = kind }) (λ p. refl) (λ p there. there) is
edit_refers net (edit.LspSetOptions port name) is = port_changed net port (λ p. record p { router_port = name }) (λ p. refl) (λ p there. there) is
edit_refers net (edit.LspSetEnabled port enabled) is = port_changed net port (λ p. record p { enabled = enabled }) (λ p. refl) (λ p there. there) is
edit_refers net (edit.LrpSetEnabled port enabled) is = router_port_changed net (λ p. bytes_eq p.name port) enabled is
edit_refers net (edit.LrpAdd router port mac nets may) is =
    where_free (is_some (router_port_named net port)) net (where_there (router_named net router) (add_router_port net port mac nets) net) is
    (where_found Refer (router_named net router) (add_router_port net port mac nets) net is
    (λ r found. router_port_new net _ (among_found (λ (x : Router). x.id) (λ x. bytes_eq x.name router) net.routers r found) is))
edit_refers net (edit.LrpDel port may) is = router_ports_removed net (λ p. bytes_eq p.name port) is
edit_refers net (edit.LrRouteAdd router prefix nexthop port by) is = where_found Refer (router_id net router) _ net is (λ r found. route_new net _ (router_there net router r found) is)
edit_refers net (edit.LrRouteDel router prefix may by) is =
    assumption (all_filter (refers (λ (r : Route). r.router) (router_ids net)) (λ r. not (is_route net router prefix by r)) net.routes is.routes)
edit_refers net (edit.LrNatAdd router kind external logical) is = where_found Refer (router_id net router) _ net is (λ r found. nat_new net _ (router_there net router r found) is)
edit_refers net (edit.LrNatDel router kind at may) is =
    assumption (all_filter (refers (λ (r : Nat). r.router) (router_ids net)) (λ r. not (is_nat net router kind at r)) net.nats is.nats)
edit_refers net (edit.LbAdd name at backends proto) is = vip_added net name (new_vip at backends) proto is
edit_refers net (edit.LbDel name None may) is = lb_removed net (lb_id net name) is
edit_refers net (edit.LbDel name (Some at) may) is = where_found Refer (lb_named net name) (delete_vip net at) net is (λ lb found. vip_removed net at lb is)
edit_refers net (edit.LsLbAdd switch name may) is =
    where_found Refer (lb_id net name) _ net is (λ number found. switch_lbs_changed net switch (with_number number) (attached net name number found) is)
edit_refers net (edit.LrLbAdd router name may) is =
    where_found Refer (lb_id net name) _ net is (λ number found. router_lbs_changed net router (with_number number) (attached net name number found) is)
edit_refers net (edit.LsLbDel switch name may) is = switch_lbs_changed net switch (without (is_detached net name)) (detached net (is_detached net name)) is
edit_refers net (edit.LrLbDel router name may) is = router_lbs_changed net router (without (is_detached net name)) (detached net (is_detached net name)) is
edit_refers net (edit.AclAdd name way priority matching verdict may of) is =
    where_found Refer (owner_id net of name) _ net is (λ number found. acl_new net _ (owner_there net of name number found) is)
edit_refers net (edit.AclDel name way rule of) is =
    assumption (all_filter (refers (λ (a : Acl). a.owner) (switch_ids net ++ group_ids net)) (λ a. not (is_acl (owner_id net of name) way rule a)) net.acls is.acls)
edit_refers net (edit.PgAdd name ports) is = group_new net _ (ports_there net ports) is
edit_refers net (edit.PgSetPorts name ports) is = groups_changed net name (named_port_ids net ports) (ports_there net ports) is
edit_refers net (edit.PgDel name may) is = group_removed net name is
edit_refers net (edit.AsAdd name members) is = assumption
edit_refers net (edit.AsSet name members) is = assumption
edit_refers net (edit.AsDel name may) is = assumption
edit_refers net (edit.SmbAdd port addr mac) is = where_found Refer (router_port_id net port) _ net is (λ p found. binding_new net _ (router_port_there net port p found) is)
edit_refers net (edit.SmbDel port addr may) is =
    assumption (all_filter (refers (λ (b : Binding). b.port) (router_port_ids net)) (λ b. not (is_binding net port addr b)) net.bindings is.bindings)
