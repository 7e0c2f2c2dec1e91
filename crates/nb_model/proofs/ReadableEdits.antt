-- After each edit the records are such as readings give.
use Rattle.std.proofs.Common.{◌≡◌, ℕ, Bool, true, false, not, ◌&&◌, Some, None, Option, List, [], ◌∷◌, ◌++◌, map, refl, ◌∙◌, arith}
use Rattle.std.specs.Prelude.{◌==◌, find, length, nat_lt, unwrap_or, ⊤}
use Rattle.std.specs.Bool.{IsTrue}
use Rattle.std.specs.List.{list_all, AllByRecursion}
use Rattle.std.specs.Str.{bytes_eq}
use Rattle.std.proofs.lemmas.Bool.{and_parts, and_from, cond_both}
use Rattle.std.proofs.lemmas.Bool.Decides.{nat_tests}
use Rattle.nv_base.specs.Name.{is_object_name}
use Rattle.nv_base.specs.declared.object.ObjId.{ObjId}
use Rattle.nb_records.specs.declared.balancer.Frontend.{Frontend}
use Rattle.nb_records.specs.declared.balancer.Proto.{Proto}
use Rattle.nb_records.specs.declared.balancer.Proto.TheVariants.{Tcp}
use Rattle.nb_records.specs.declared.balancer.Vip.{Vip}
use Rattle.nb_records.specs.declared.edit.Edit.{Edit}
use Rattle.nb_records.specs.declared.edit.Edit.TheVariants as edit
use Rattle.nb_records.specs.declared.switch.PortKind.TheVariants as port_kind
use Rattle.nb_read.specs.Readings.{is_set_name}
use Rattle.nb_model.specs.Belongs.{owner_id, same_frontend}
use Rattle.nb_model.specs.Effect.{effect, without, add_port, add_router_port, new_vip, add_vip, delete_vip, is_last_vip, with_number, is_detached, acl_like, is_route, is_nat, is_acl, is_binding, policy_or, named_port_ids}
use Rattle.nb_model.specs.Network.{Network, next_number, same, switch_named, router_named, port_named, router_port_named, lb_named, router_id, router_port_id, lb_id, Lb}
use Rattle.nb_model.specs.Readable.{IsReadable, are_apart, is_mac, is_ip4, may_name, are_addresses, are_guards, are_networks, is_cleared, is_nexthop, is_logical, is_vip, is_member}
use Rattle.nb_model.specs.Sound.{AreNumbered, AreReadable, is_rising}
use Rattle.nb_model.proofs.Alike.{same_sym}
use Rattle.nb_model.proofs.Readable
use Rattle.nb_model.proofs.RecordLists.{all_as, all_only, all_push, all_filter, all_where, apart_by, only, found_passes, every_push, not_empty, some_stay, if_missing, if_there}

-- Parts of tests: without the first, and with another part.

without_first : (a b : Bool) → IsTrue (a && b) → IsTrue b
without_first a b all = (and_parts a b all).1

without_first_of_three : (a b c : Bool) → IsTrue (a && b && c) → IsTrue (b && c)
without_first_of_three a b c all = grind arith

without_first_of_four : (a b c d : Bool) → IsTrue (a && b && c && d) → IsTrue (b && c && d)
without_first_of_four a b c d all = grind arith

with_second : (a b other c d : Bool) → IsTrue (a && b && c && d) → IsTrue other → IsTrue (a && other && c && d)
with_second a b other c d all is = grind arith

with_third : (a b c other d : Bool) → IsTrue (a && b && c && d) → IsTrue other → IsTrue (a && b && other && d)
with_third a b c other d all is = grind arith

with_last : (a b other : Bool) → IsTrue (a && b) → IsTrue other → IsTrue (a && other)
with_last a b other all is = and_from a other (and_parts a b all).0 is

-- numbers that rise are apart
rising_apart : (numbers : List ObjId) → IsTrue (is_rising numbers) → IsTrue (are_apart same numbers)
rising_apart [] rising = refl
rising_apart (number ∷ numbers) rising =
    let parts = and_parts (list_all (λ later. nat_lt number.0 later.0) numbers) (is_rising numbers) rising in
    and_from (list_all (λ later. not (same number later)) numbers) (are_apart same numbers)
    (all_as (λ later. nat_lt number.0 later.0) (λ later. not (same number later)) numbers (λ later less. differ number.0 later.0 less) parts.0) (rising_apart numbers parts.1)
  where
    differ : (a b : ℕ) → IsTrue (nat_lt a b) → IsTrue (not (a == b))
    differ a b less = grind (arith, nat_tests)

-- the load balancer of a number is the only one of that number
only_numbered : (lbs : List Lb) (name : List ℕ) (lb : Lb) → IsTrue (is_rising (map (λ x. x.id) lbs)) → find (λ x. bytes_eq x.name name) lbs ≡ Some lb
    → AllByRecursion (λ own. IsTrue (same lb.id own.id) → own ≡ lb) lbs
only_numbered lbs name lb rising is =
    only (λ a b. same a.id b.id) (λ x. bytes_eq x.name name) (λ own. same lb.id own.id) lbs lb (apart_by same (λ (x : Lb). x.id) lbs (rising_apart (map (λ x. x.id) lbs) rising)) is
    (λ own holds. holds) (λ own holds. same_sym own.id lb.id ∙ holds)

-- a VIP more
vip_readable : (net : Network) (name : List ℕ) (vip : Vip) (proto : Option Proto) → IsTrue (is_object_name name && is_vip vip) → AreReadable net → AreReadable (add_vip net name vip proto)
vip_readable net name vip proto readable before =
    let parts = and_parts (is_object_name name) (is_vip vip) readable in
    if_missing AreReadable (lb_named net name) _ _
    (λ lb is. assumption (all_where Readable.of_lb (λ own. bytes_eq own.name name) (λ own. record own { vips = own.vips ++ vip ∷ [] }) net.lbs (λ own. more own parts.1) before.lbs))
    (λ missing. assumption (all_push Readable.of_lb net.lbs (record { id = next_number net; name = name; proto = unwrap_or proto Tcp; vips = vip ∷ [] }) before.lbs
    (and_from (is_object_name name && true) (is_vip vip && true) (and_from (is_object_name name) true parts.0 refl) (and_from (is_vip vip) true parts.1 refl))))
  where
    more : (own : Lb) → IsTrue (is_vip vip) → IsTrue (Readable.of_lb own) → IsTrue (Readable.of_lb (record own { vips = own.vips ++ vip ∷ [] }))
    more own new is =
        let parts = and_parts (is_object_name own.name && nat_lt 0 (length own.vips)) (list_all is_vip own.vips) is in
        let names = and_parts (is_object_name own.name) (nat_lt 0 (length own.vips)) parts.0 in
        and_from (is_object_name own.name && nat_lt 0 (length (own.vips ++ vip ∷ []))) (list_all is_vip (own.vips ++ vip ∷ []))
        (and_from (is_object_name own.name) (nat_lt 0 (length (own.vips ++ vip ∷ []))) names.0 (not_empty own.vips vip)) (all_push is_vip own.vips vip parts.1 new)

-- a VIP less, where another stays
fewer_vips : (at : Frontend) (lb : Lb) → is_last_vip at lb ≡ false → IsTrue (Readable.of_lb lb) → IsTrue (Readable.of_lb (record lb { vips = without (λ vip. same_frontend at vip.at) lb.vips }))
fewer_vips at lb more is =
    let q = λ (vip : Vip). same_frontend at vip.at in
    let left = without q lb.vips in
    let parts = and_parts (is_object_name lb.name && nat_lt 0 (length lb.vips)) (list_all is_vip lb.vips) is in
    let names = and_parts (is_object_name lb.name) (nat_lt 0 (length lb.vips)) parts.0 in
    and_from (is_object_name lb.name && nat_lt 0 (length left)) (list_all is_vip left)
    (and_from (is_object_name lb.name) (nat_lt 0 (length left)) names.0 (some_stay q lb.vips more)) (all_filter is_vip (λ vip. not (q vip)) lb.vips parts.1)

no_vip_readable : (net : Network) (name : List ℕ) (at : Frontend) (lb : Lb) → AreNumbered net → lb_named net name ≡ Some lb → AreReadable net → AreReadable (delete_vip net at lb)
no_vip_readable net name at lb numbered is before =
    cond_both (is_last_vip at lb) _ _ AreReadable
    (λ last. Readable.without_lb_readable net before (Some lb.id))
    (λ more. assumption (all_only Readable.of_lb (λ other. same lb.id other.id) (λ other. record other { vips = without (λ vip. same_frontend at vip.at) other.vips }) net.lbs lb
    (only_numbered net.lbs name lb numbered.order.lbs is)
    (fewer_vips at lb more (found_passes Readable.of_lb (λ own. bytes_eq own.name name) net.lbs lb is before.lbs)) before.lbs))

pub readable : (net : Network) (edit : Edit) → AreNumbered net → AreReadable net → IsReadable edit → AreReadable (effect net edit)
readable net (edit.LsAdd name may) numbered before words =
    if_missing AreReadable (switch_named net name) net _ (λ there is. before) (λ missing. assumption (all_push Readable.of_switch net.switches (record { id = next_number net; name = name; lbs = [] }) before.switches words))
readable net (edit.LrAdd name may) numbered before words =
    if_missing AreReadable (router_named net name) net _ (λ there is. before) (λ missing. assumption (all_push Readable.of_router net.routers (record { id = next_number net; name = name; lbs = [] }) before.routers words))
readable net (edit.LsDel name given) numbered before words = Readable.delete_switch_readable net before name
readable net (edit.LrDel name given) numbered before words = Readable.delete_router_readable net before name
readable net (edit.LspAdd switch port may) numbered before words =
    let named = without_first (is_object_name switch) (is_object_name port) words in
    if_missing AreReadable (port_named net port) net _ (λ there is. before) (λ missing.
    if_there AreReadable (λ found. ⊤) (switch_named net switch) (add_port net port) net before tt (λ s known.
    assumption (all_push Readable.of_port net.ports (record { id = next_number net; switch = s.id; name = port; kind = port_kind.Host; router_port = None; addresses = []; security = []; enabled = true }) before.ports (new_port port named))))
  where
    new_port : (port : List ℕ) → IsTrue (is_object_name port) → IsTrue (is_object_name port && true && true && true)
    new_port port named = and_from (is_object_name port && true && true) true (and_from (is_object_name port && true) true (and_from (is_object_name port) true named refl) refl) refl
readable net (edit.LspDel port given) numbered before words = Readable.without_ports_readable net before (λ p. bytes_eq p.name port)
readable net (edit.LspSetAddresses port list) numbered before words =
    Readable.set_port_readable net before port (λ p. record p { addresses = list }) (λ p is.
    with_third (is_object_name p.name) (may_name p.router_port) (are_addresses p.addresses) (are_addresses list) (are_guards p.security) is (without_first (is_object_name port) (are_addresses list) words))
readable net (edit.LspSetPortSecurity port list) numbered before words =
    Readable.set_port_readable net before port (λ p. record p { security = list }) (λ p is.
    with_last (is_object_name p.name && may_name p.router_port && are_addresses p.addresses) (are_guards p.security) (are_guards list) is (without_first (is_object_name port) (are_guards list) words))
readable net (edit.LspSetType port kind) numbered before words = Readable.set_port_readable net before port (λ p. record p { kind = kind }) (λ p is. is)
readable net (edit.LspSetOptions port name) numbered before words =
    Readable.set_port_readable net before port (λ p. record p { router_port = name }) (λ p is.
    with_second (is_object_name p.name) (may_name p.router_port) (may_name name) (are_addresses p.addresses) (are_guards p.security) is (without_first (is_object_name port) (may_name name) words))
readable net (edit.LspSetEnabled port enabled) numbered before words = Readable.set_port_readable net before port (λ p. record p { enabled = enabled }) (λ p is. is)
readable net (edit.LrpSetEnabled port enabled) numbered before words =
    assumption (all_where Readable.of_router_port (λ p. bytes_eq p.name port) (λ p. record p { enabled = enabled }) net.router_ports (λ p is. is) before.router_ports)
readable net (edit.LrpAdd router port mac nets may) numbered before words =
    if_missing AreReadable (router_port_named net port) net _ (λ there is. before) (λ missing.
    if_there AreReadable (λ found. ⊤) (router_named net router) (add_router_port net port mac nets) net before tt (λ r known.
    assumption (all_push Readable.of_router_port net.router_ports (record { id = next_number net; router = r.id; name = port; mac = mac; nets = nets; enabled = true }) before.router_ports (without_first_of_four (is_object_name router) (is_object_name port) (is_mac mac) (are_networks nets) words))))
readable net (edit.LrpDel port given) numbered before words = Readable.without_router_ports_readable net before (λ p. bytes_eq p.name port)
readable net (edit.LrRouteAdd router prefix nexthop port by) numbered before words =
    if_there AreReadable (λ found. ⊤) (router_id net router) _ net before tt (λ r known.
    assumption (all_push Readable.of_route net.routes (record { id = next_number net; router = r; by = policy_or by; prefix = prefix; nexthop = nexthop; port = port }) before.routes (without_first_of_four (is_object_name router) (is_cleared prefix) (is_nexthop nexthop) (may_name port) words)))
readable net (edit.LrRouteDel router prefix given by) numbered before words = assumption (all_filter Readable.of_route (λ r. not (is_route net router prefix by r)) net.routes before.routes)
readable net (edit.LrNatAdd router kind external logical) numbered before words =
    if_there AreReadable (λ found. ⊤) (router_id net router) _ net before tt (λ r known.
    assumption (all_push Readable.of_nat net.nats (record { id = next_number net; router = r; kind = kind; external = external; logical = logical }) before.nats (without_first_of_three (is_object_name router) (is_ip4 external) (is_logical kind logical) words)))
readable net (edit.LrNatDel router kind at given) numbered before words = assumption (all_filter Readable.of_nat (λ r. not (is_nat net router kind at r)) net.nats before.nats)
readable net (edit.LbAdd name at backends proto) numbered before words = vip_readable net name (new_vip at backends) proto words before
readable net (edit.LbDel name None given) numbered before words = Readable.without_lb_readable net before (lb_id net name)
readable net (edit.LbDel name (Some at) given) numbered before words =
    if_there AreReadable (λ found. lb_named net name ≡ found) (lb_named net name) (delete_vip net at) net before refl (λ lb is. no_vip_readable net name at lb numbered is before)
readable net (edit.LsLbAdd switch name may) numbered before words =
    if_there AreReadable (λ found. ⊤) (lb_id net name) _ net before tt (λ number known. assumption (all_where Readable.of_switch (λ x. bytes_eq x.name switch) (λ x. record x { lbs = with_number number x.lbs }) net.switches (λ x is. is) before.switches))
readable net (edit.LrLbAdd router name may) numbered before words =
    if_there AreReadable (λ found. ⊤) (lb_id net name) _ net before tt (λ number known. assumption (all_where Readable.of_router (λ x. bytes_eq x.name router) (λ x. record x { lbs = with_number number x.lbs }) net.routers (λ x is. is) before.routers))
readable net (edit.LsLbDel switch name given) numbered before words = assumption (all_where Readable.of_switch (λ x. bytes_eq x.name switch) (λ x. record x { lbs = without (is_detached net name) x.lbs }) net.switches (λ x is. is) before.switches)
readable net (edit.LrLbDel router name given) numbered before words = assumption (all_where Readable.of_router (λ x. bytes_eq x.name router) (λ x. record x { lbs = without (is_detached net name) x.lbs }) net.routers (λ x is. is) before.routers)
readable net (edit.AclAdd name way priority matching verdict may of) numbered before words =
    if_there AreReadable (λ found. ⊤) (owner_id net of name) _ net before tt (λ owner known.
    if_missing AreReadable (acl_like net owner way (priority, matching)) net _ (λ there is. before) (λ missing.
    assumption (
      all_push Readable.of_acl net.acls (record { id = next_number net; owner = owner; way = way; priority = priority; matching = matching; verdict = verdict }) before.priorities words.1.0,
      every_push Readable.OfAcl net.acls (record { id = next_number net; owner = owner; way = way; priority = priority; matching = matching; verdict = verdict }) before.matches words.1.1,
    )))
readable net (edit.AclDel name way rule of) numbered before words = Readable.delete_acls_readable net before (is_acl (owner_id net of name) way rule)
readable net (edit.PgAdd name ports) numbered before words =
    assumption (all_push Readable.of_group net.groups (record { id = next_number net; name = name; ports = named_port_ids net ports }) before.groups (and_parts (is_set_name name) (list_all is_object_name ports) words).0)
readable net (edit.PgSetPorts name ports) numbered before words = assumption (all_where Readable.of_group (λ group. bytes_eq group.name name) (λ group. record group { ports = named_port_ids net ports }) net.groups (λ group is. is) before.groups)
readable net (edit.PgDel name given) numbered before words = Readable.delete_group_readable net before name
readable net (edit.AsAdd name members) numbered before words =
    assumption (all_push Readable.of_set net.sets (record { id = next_number net; name = name; members = members }) before.sets words)
readable net (edit.AsSet name members) numbered before words =
    assumption (all_where Readable.of_set (λ set. bytes_eq set.name name) (λ set. record set { members = members }) net.sets (λ set is.
    with_last (is_set_name set.name) (list_all is_member set.members) (list_all is_member members) is (without_first (is_set_name name) (list_all is_member members) words)) before.sets)
readable net (edit.AsDel name given) numbered before words = assumption (all_filter Readable.of_set (λ set. not (bytes_eq set.name name)) net.sets before.sets)
readable net (edit.SmbAdd port addr mac) numbered before words =
    if_there AreReadable (λ found. ⊤) (router_port_id net port) _ net before tt (λ p known.
    assumption (all_push Readable.of_binding net.bindings (record { id = next_number net; port = p; addr = addr; mac = mac }) before.bindings (without_first_of_three (is_object_name port) (is_ip4 addr) (is_mac mac) words)))
readable net (edit.SmbDel port addr given) numbered before words = assumption (all_filter Readable.of_binding (λ b. not (is_binding net port addr b)) net.bindings before.bindings)
