-- After each edit no two records say the same.
use Rattle.std.proofs.Common.{◌≡◌, ℕ, ◌+◌, Bool, true, false, not, ◌&&◌, Some, None, Option, List, [], ◌∷◌, ◌++◌, map, refl, sym, subst, ◌∙◌}
use Rattle.std.specs.Prelude.{◌==◌, filter, find, option_map, unwrap_or, if◌then◌else◌, ⊤}
use Rattle.std.specs.Bool.{IsTrue}
use Rattle.std.specs.List.{filter_map, AllByRecursion}
use Rattle.std.specs.Str.{bytes_eq}
use Rattle.std.proofs.lemmas.Bool.{cond_both}
use Rattle.expr_core.specs.Text.{typed_text}
use Rattle.nb_records.specs.declared.balancer.Frontend.{Frontend}
use Rattle.nb_records.specs.declared.balancer.Proto.{Proto}
use Rattle.nb_records.specs.declared.balancer.Proto.TheVariants.{Tcp}
use Rattle.nb_records.specs.declared.balancer.Vip.{Vip}
use Rattle.nb_records.specs.declared.edit.Edit.{Edit}
use Rattle.nb_records.specs.declared.edit.Edit.TheVariants as edit
use Rattle.nb_model.specs.Belongs.{is_number, owner_id, same_block, same_frontend, same_policy, same_way, is_snat, same_route, same_nat, same_acl, same_binding}
use Rattle.nb_model.specs.Effect.{effect, without, add_port, add_router_port, new_vip, add_vip, delete_vip, is_last_vip, with_number, is_detached, acl_like, add_acl, is_route, is_nat, is_acl, is_rule, is_binding, policy_or, named_port_ids}
use Rattle.nb_model.specs.Network.{Network, next_number, same, switch_named, router_named, port_named, router_port_named, lb_named, router_id, router_port_id, port_id, lb_id, Acl, Lb, Binding, Nat, Route}
use Rattle.nb_model.specs.Readable.{are_apart}
use Rattle.nb_model.specs.Sound.{AreNamed, AreApart}
use Rattle.nb_model.specs.Tests.{first_refusal, tests, wants_router, wants_router_port, may_name_router_port, wants_protocol, duplicate, duplicate_if, has_vip}
use Rattle.nb_model.proofs.Alike.{names_sym, same_names, frontend_sym, route_sym, nat_sym, acl_sym, binding_sym}
use Rattle.nb_model.proofs.Apart
use Rattle.nb_model.proofs.Apart.{same_vip}
use Rattle.nb_model.proofs.Passed.{first_passes, rest_passes, no_duplicate, no_vip}
use Rattle.nb_model.proofs.RecordLists.{none_found, found_passes, found_holds, all_as, all_only, all_push, apart_by, apart_filter, all_where, only, if_missing, if_there}

-- the load balancer of a name is the only one of that name
only_named : (lbs : List Lb) (name : List ℕ) (lb : Lb) → IsTrue (are_apart bytes_eq (map (λ x. x.name) lbs)) → find (λ x. bytes_eq x.name name) lbs ≡ Some lb
    → AllByRecursion (λ own. IsTrue (bytes_eq own.name name) → own ≡ lb) lbs
only_named lbs name lb apart is =
    only (λ a b. bytes_eq a.name b.name) (λ x. bytes_eq x.name name) (λ x. bytes_eq x.name name) lbs lb (apart_by bytes_eq (λ (x : Lb). x.name) lbs apart) is
    (λ own holds. subst (λ it. IsTrue (bytes_eq lb.name it)) (sym (same_names own.name name holds)) (found_holds (λ (x : Lb). bytes_eq x.name name) lbs lb is))
    (λ own holds. subst (λ it. IsTrue (bytes_eq it lb.name)) (sym (same_names own.name name holds)) (names_sym name lb.name ∙ found_holds (λ (x : Lb). bytes_eq x.name name) lbs lb is))

-- a VIP more
vip_apart : (net : Network) (name : List ℕ) (vip : Vip) (proto : Option Proto) → AreNamed net → duplicate_if (has_vip vip.at (lb_named net name)) (lb_id net name) ≡ None → AreApart net
    → AreApart (add_vip net name vip proto)
vip_apart net name vip proto named new before =
    let q = λ (lb : Lb). bytes_eq lb.name name in
    if_missing AreApart (lb_named net name) _ _
    (λ lb is. assumption (all_only Apart.of_lb q (λ own. record own { vips = own.vips ++ vip ∷ [] }) net.lbs lb
    (only_named net.lbs name lb named.lbs is)
    (Apart.one_more same_vip lb.vips vip (λ a b. frontend_sym a.at b.at) (found_passes Apart.of_lb q net.lbs lb is before.vips) (no_vip vip.at (lb_named net name) lb is new))
    before.vips))
    (λ missing. assumption (all_push Apart.of_lb net.lbs (record { id = next_number net; name = name; proto = unwrap_or proto Tcp; vips = vip ∷ [] }) before.vips refl))

-- a VIP less
no_vip_apart : (net : Network) (at : Frontend) (lb : Lb) → AreApart net → AreApart (delete_vip net at lb)
no_vip_apart net at lb before =
    let stays = λ (vip : Vip). not (same_frontend at vip.at) in
    cond_both (is_last_vip at lb) _ _ AreApart
    (λ last. Apart.without_lb_apart net before (Some lb.id))
    (λ more. assumption (all_where Apart.of_lb (λ other. same lb.id other.id) (λ other. record other { vips = filter stays other.vips }) net.lbs (λ other. apart_filter same_vip stays other.vips) before.vips))

-- a route more, of a router that has none like it
route_apart : (net : Network) (route : Route) → find (λ other. same route.router other.router && same_policy route.by other.by && same_block route.prefix other.prefix) net.routes ≡ None
    → AreApart net → AreApart (record net { routes = net.routes ++ route ∷ []; next = net.next + 1 })
route_apart net route new before = assumption (Apart.one_more same_route net.routes route route_sym before.routes (none_found (same_route route) net.routes new))

-- a NAT rule more, likewise
nat_apart : (net : Network) (nat : Nat) → find (same_nat nat) net.nats ≡ None → AreApart net → AreApart (record net { nats = net.nats ++ nat ∷ []; next = net.next + 1 })
nat_apart net nat new before = assumption (Apart.one_more same_nat net.nats nat nat_sym before.nats (none_found (same_nat nat) net.nats new))

-- a static binding more
binding_apart : (net : Network) (binding : Binding) → find (same_binding binding) net.bindings ≡ None → AreApart net → AreApart (record net { bindings = net.bindings ++ binding ∷ []; next = net.next + 1 })
binding_apart net binding new before =
    assumption (Apart.one_more same_binding net.bindings binding binding_sym before.bindings (none_found (same_binding binding) net.bindings new))

-- four tests, from the right or from the left
four_tests : (a b c d : Bool) → (a && (b && (c && d))) ≡ (a && b && c && d)
four_tests true true c d = refl
four_tests true false c d = refl
four_tests false b c d = refl

-- an ACL more, where there is none like it
acl_apart : (net : Network) (acl : Acl) → AreApart net → AreApart (add_acl net acl)
acl_apart net acl before =
    let like = λ (other : Acl). same acl.owner other.owner && (same_way acl.way other.way && is_rule (acl.priority, acl.matching) other) in
    if_missing AreApart (acl_like net acl.owner acl.way (acl.priority, acl.matching)) net _ (λ there is. before) (λ missing.
    assumption
    (Apart.one_more same_acl net.acls acl acl_sym before.acls
    (all_as (λ other. not (like other)) (λ other. not (same_acl acl other)) net.acls
    (λ other. subst (λ it. IsTrue (not it))
    (four_tests (same acl.owner other.owner) (same_way acl.way other.way) (acl.priority == other.priority) (bytes_eq (typed_text acl.matching) (typed_text other.matching))))
    (none_found like net.acls missing))))

pub apart : (net : Network) (edit : Edit) → AreNamed net → AreApart net → first_refusal (tests net edit) ≡ None → AreApart (effect net edit)
apart net (edit.LsAdd name may) named before accepted =
    if_missing AreApart (switch_named net name) net _ (λ there is. before) (λ missing. assumption (all_push Apart.of_switch net.switches (record { id = next_number net; name = name; lbs = [] }) before.of_switches refl))
apart net (edit.LrAdd name may) named before accepted =
    if_missing AreApart (router_named net name) net _ (λ there is. before) (λ missing. assumption (all_push Apart.of_router net.routers (record { id = next_number net; name = name; lbs = [] }) before.of_routers refl))
apart net (edit.LsDel name given) named before accepted = Apart.delete_switch_apart net before name
apart net (edit.LrDel name given) named before accepted = Apart.delete_router_apart net before name
apart net (edit.LspAdd switch port may) named before accepted =
    if_missing AreApart (port_named net port) net _ (λ there is. before) (λ missing.
    if_there AreApart (λ found. ⊤) (switch_named net switch) (add_port net port) net before tt (λ s known. assumption))
apart net (edit.LspDel port given) named before accepted = Apart.without_ports_apart net before (λ p. bytes_eq p.name port)
apart net (edit.LrpAdd router port mac nets may) named before accepted =
    if_missing AreApart (router_port_named net port) net _ (λ there is. before) (λ missing.
    if_there AreApart (λ found. ⊤) (router_named net router) (add_router_port net port mac nets) net before tt (λ r known. assumption))
apart net (edit.LrpDel port given) named before accepted = Apart.without_router_ports_apart net before (λ p. bytes_eq p.name port)
apart net (edit.LrRouteAdd router prefix nexthop port by) named before accepted =
    if_there AreApart
    (λ found. duplicate (option_map (λ route. route.id) (find (λ route. is_number found route.router && same_policy (policy_or by) route.by && same_block prefix route.prefix) net.routes)) ≡ None)
    (router_id net router) _ net before (first_passes _ _ (rest_passes (may_name_router_port net port) _ (rest_passes (wants_router net router) _ accepted)))
    (λ r known. route_apart net (record { id = next_number net; router = r; by = policy_or by; prefix = prefix; nexthop = nexthop; port = port }) (no_duplicate (λ (route : Route). route.id) _ known) before)
apart net (edit.LrRouteDel router prefix given by) named before accepted = assumption (apart_filter same_route (λ r. not (is_route net router prefix by r)) net.routes before.routes)
apart net (edit.LrNatAdd router kind external logical) named before accepted =
    if_there AreApart
    (λ found. duplicate (option_map (λ nat. nat.id) (find (λ nat. is_number found nat.router
    && (if is_snat kind then is_snat nat.kind && same_block logical nat.logical else not (is_snat nat.kind) && (external.0 == nat.external.0))) net.nats)) ≡ None)
    (router_id net router) _ net before (first_passes _ _ (rest_passes (wants_router net router) _ accepted))
    (λ r known. nat_apart net (record { id = next_number net; router = r; kind = kind; external = external; logical = logical }) (no_duplicate (λ (nat : Nat). nat.id) _ known) before)
apart net (edit.LrNatDel router kind at given) named before accepted = assumption (apart_filter same_nat (λ r. not (is_nat net router kind at r)) net.nats before.nats)
apart net (edit.LbAdd name at backends proto) named before accepted =
    vip_apart net name (new_vip at backends) proto named (first_passes _ _ (rest_passes (wants_protocol name proto (lb_named net name)) _ accepted)) before
apart net (edit.LbDel name None given) named before accepted = Apart.without_lb_apart net before (lb_id net name)
apart net (edit.LbDel name (Some at) given) named before accepted =
    if_there AreApart (λ found. ⊤) (lb_named net name) (delete_vip net at) net before tt (λ lb known. no_vip_apart net at lb before)
apart net (edit.LsLbAdd switch name may) named before accepted =
    if_there AreApart (λ found. ⊤) (lb_id net name) _ net before tt (λ number known. Apart.set_switch_lbs_apart net before switch (with_number number) (Apart.with_number_apart number))
apart net (edit.LrLbAdd router name may) named before accepted =
    if_there AreApart (λ found. ⊤) (lb_id net name) _ net before tt (λ number known. Apart.set_router_lbs_apart net before router (with_number number) (Apart.with_number_apart number))
apart net (edit.LsLbDel switch name given) named before accepted =
    Apart.set_switch_lbs_apart net before switch (without (is_detached net name)) (λ numbers. apart_filter same (λ number. not (is_detached net name number)) numbers)
apart net (edit.LrLbDel router name given) named before accepted =
    Apart.set_router_lbs_apart net before router (without (is_detached net name)) (λ numbers. apart_filter same (λ number. not (is_detached net name number)) numbers)
apart net (edit.AclAdd name way priority matching verdict may of) named before accepted =
    if_there AreApart (λ found. ⊤) (owner_id net of name) _ net before tt
    (λ owner known. acl_apart net (record { id = next_number net; owner = owner; way = way; priority = priority; matching = matching; verdict = verdict }) before)
apart net (edit.AclDel name way rule of) named before accepted = assumption (apart_filter same_acl (λ a. not (is_acl (owner_id net of name) way rule a)) net.acls before.acls)
apart net (edit.PgAdd name ports) named before accepted =
    assumption (all_push Apart.of_group net.groups (record { id = next_number net; name = name; ports = named_port_ids net ports }) before.of_groups (Apart.once_apart (filter_map (port_id net) ports)))
apart net (edit.PgSetPorts name ports) named before accepted =
    assumption (all_where Apart.of_group (λ group. bytes_eq group.name name) (λ group. record group { ports = named_port_ids net ports }) net.groups (λ group is. Apart.once_apart (filter_map (port_id net) ports)) before.of_groups)
apart net (edit.PgDel name given) named before accepted = Apart.delete_group_apart net before name
apart net (edit.SmbAdd port addr mac) named before accepted =
    if_there AreApart
    (λ found. duplicate (option_map (λ binding. binding.id) (find (λ binding. is_number found binding.port && (addr.0 == binding.addr.0)) net.bindings)) ≡ None)
    (router_port_id net port) _ net before (first_passes _ _ (rest_passes (wants_router_port net port) _ accepted))
    (λ p known. binding_apart net (record { id = next_number net; port = p; addr = addr; mac = mac }) (no_duplicate (λ (binding : Binding). binding.id) _ known) before)
apart net (edit.SmbDel port addr given) named before accepted = assumption (apart_filter same_binding (λ b. not (is_binding net port addr b)) net.bindings before.bindings)
apart net _ named before accepted = assumption
