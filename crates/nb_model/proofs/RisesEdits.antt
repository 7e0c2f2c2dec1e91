-- Each edit raises only what it may.
use Rattle.std.proofs.Common.{◌≡◌, ℕ, ◌+◌, ◌≤◌, Bool, true, false, cond, Some, None, Option, List, [], ◌∷◌, ◌++◌, map, refl, ap, ◌∙◌}
use Rattle.std.specs.Prelude.{IsTrue, is_some, unwrap_or, length, filter}
use Rattle.std.specs.Str.{bytes_eq}
use Rattle.std.proofs.lemmas.Bool.{cond_both, true≢false, false≢true}
use Rattle.nv_base.specs.declared.object.ObjId.{ObjId}
use Rattle.nb_records.specs.declared.balancer.Proto.{Proto}
use Rattle.nb_records.specs.declared.balancer.Proto.TheVariants.{Tcp}
use Rattle.nb_records.specs.declared.balancer.Vip.{Vip}
use Rattle.nb_records.specs.declared.edit.Edit.{Edit}
use Rattle.nb_records.specs.declared.edit.Edit.TheVariants as edit
use Rattle.nb_records.specs.declared.refusal.Kind.{Kind}
use Rattle.nb_records.specs.declared.refusal.Kind.TheVariants as kind
use Rattle.nb_records.specs.Tags.{address_count}
use Rattle.nb_model.specs.Amounts.{amount, total, kinds, first_over, over_limit, vips_of}
use Rattle.nb_model.specs.Belongs.{is_number, owner_id, is_to_router}
use Rattle.nb_model.specs.Effect.{effect, each_where, without, where_there, add_switch, add_port, set_port, add_router, add_router_port, add_vip, new_vip, delete_vip, set_switch_lbs, set_router_lbs, with_number, is_detached, is_route, is_nat, is_acl, is_binding, acl_like, named_port_ids}
use Rattle.nb_model.specs.Network.{Network, next_number, switch_named, router_named, port_named, router_port_named, lb_named, router_id, router_port_id, lb_id, Lb, Router, RouterPort, AddrSet, Group, Port, Switch}
use Rattle.nb_model.specs.Rises.{may_rise}
use Rattle.nb_model.specs.Sound.{IsSound}
use Rattle.nb_model.proofs.Cases.{where_found}
use Rattle.nb_model.proofs.Rises.{is_one_of, Falls, stays, first_of_those_that_rise}
use Rattle.nb_model.proofs.RisesKinds.{FallsOf, routes_fall, nats_fall, bindings_fall, lbs_fall, acls_fall, sets_fall, groups_fall, router_ports_fall}
use Rattle.nb_model.proofs.RisesNeighbours.{IsKnownAsBefore, ports_known, router_ports_known}
use Rattle.nb_model.proofs.RisesNew.{switch_added, router_added, port_added, group_added}
use Rattle.nb_model.proofs.RisesPeers.{are_peers_apart, router_ports_less_known}
use Rattle.nb_model.proofs.RisesRecords.{switches_changed, routers_changed, ports_changed, routes_fewer, nats_fewer, bindings_fewer, acls_fewer, sets_fewer, vips_fewer}
use Rattle.nb_model.proofs.RisesRemovals.{kept_where, less_where, ports_less, router_ports_less, switch_less, router_less, group_less, switches_lose, routers_lose, lb_less, vip_less}
use Rattle.nb_model.proofs.Totals.{le_self, le_equal, sums, total_changed, length_changed}

-- what may rise need not fall
may : {P : Type 0} → true ≡ false → P
may free = absurd (true≢false free)

-- nothing is new where a condition holds
where_new : (rises : Kind → Bool) (there : Bool) (net changed : Network) → Falls rises net changed → Falls rises net (cond there net changed)
where_new rises there net changed new = cond_both there net changed (Falls rises net) (λ is. stays rises net) (λ is. new)

-- the kinds of which there can be more
abbrev pub rises : Edit → Kind → Bool
rises given = is_one_of (may_rise given)

-- ports are set in something that keeps their numbers and switches
port_set : (rising : Kind → Bool) (net : Network) (name : List ℕ) (change : Port → Port) → ((port : Port) → (change port).id ≡ port.id) → ((port : Port) → (change port).switch ≡ port.switch)
    → FallsOf kind.Address rising net (set_port net name change) → FallsOf kind.Security rising net (set_port net name change) → FallsOf kind.Neighbour rising net (set_port net name change)
    → Falls rising net (set_port net name change)
port_set rising net name change ids switches =
    let named : Port → Bool = λ port. bytes_eq port.name name in
    ports_changed rising net (λ port. cond (named port) (change port) port) (kept_where (λ (port : Port). port.id) named change ids) (kept_where (λ (port : Port). port.switch) named change switches)

-- their addresses, and their port security, stay
same_addresses : (net : Network) (name : List ℕ) (change : Port → Port) → ((port : Port) → total address_count (change port).addresses ≤ total address_count port.addresses)
    → amount (set_port net name change) kind.Address ≤ amount net kind.Address
same_addresses net name change less =
    let named : Port → Bool = λ port. bytes_eq port.name name in
    let count : Port → ℕ = λ port. total address_count port.addresses in
    total_changed count count (λ port. cond (named port) (change port) port) net.ports (less_where count named change less)

-- what one port's security names
abbrev guards : Port → ℕ
guards port = total (λ guard. 1 + length guard.nets) port.security

same_guards : (net : Network) (name : List ℕ) (change : Port → Port) → ((port : Port) → guards (change port) ≤ guards port)
    → amount (set_port net name change) kind.Security ≤ amount net kind.Security
same_guards net name change less =
    let named : Port → Bool = λ port. bytes_eq port.name name in
    total_changed guards guards (λ port. cond (named port) (change port) port) net.ports (less_where guards named change less)

-- a router knows as much of a port whatever its security, and no more where it is disabled
known_less : (net : Network) (name : List ℕ) (change : Port → Port) → IsKnownAsBefore change → amount (set_port net name change) kind.Neighbour ≤ amount net kind.Neighbour
known_less net name change keeps =
    let named : Port → Bool = λ port. bytes_eq port.name name in
    ports_known net (λ port. cond (named port) (change port) port) (record {
      id = kept_where (λ (port : Port). port.id) named change keeps.id;
      switch = kept_where (λ (port : Port). port.switch) named change keeps.switch;
      to_router = kept_where is_to_router named change keeps.to_router;
      router_port = kept_where (λ (port : Port). port.router_port) named change keeps.router_port;
      addresses = kept_where (λ (port : Port). port.addresses) named change keeps.addresses;
      enabled = λ port. cond_both (named port) (change port) port (λ after. IsTrue after.enabled → IsTrue port.enabled) (λ is. keeps.enabled port) (λ is on. on);
    })

-- router ports are set in something else than their names and networks
router_port_set : (rising : Kind → Bool) (net : Network) (name : List ℕ) (change : RouterPort → RouterPort) → ((port : RouterPort) → (change port).name ≡ port.name)
    → ((port : RouterPort) → (change port).nets ≡ port.nets) → Falls rising net (record net { router_ports = each_where (λ port. bytes_eq port.name name) change net.router_ports })
router_port_set rising net name change names nets =
    let named : RouterPort → Bool = λ port. bytes_eq port.name name in
    let step : RouterPort → RouterPort = λ port. cond (named port) (change port) port in
    let count : RouterPort → ℕ = λ port. length port.nets in
    router_ports_fall rising net (map step net.router_ports) net.next (λ free. length_changed step net.router_ports)
    (λ free. total_changed count count step net.router_ports (less_where count named change (λ port. le_equal (count (change port)) (count port) (ap length (nets port)))))
    (λ free. router_ports_known net step (kept_where (λ (port : RouterPort). port.name) named change names) (kept_where (λ (port : RouterPort). port.nets) named change nets))

-- a switch, or a router, has other load balancers
switch_set : (rising : Kind → Bool) (net : Network) (name : List ℕ) (change : List ObjId → List ObjId) → FallsOf kind.VipDatapath rising net (set_switch_lbs net name change)
    → Falls rising net (set_switch_lbs net name change)
switch_set rising net name change =
    let named : Switch → Bool = λ switch. bytes_eq switch.name name in
    let changed : Switch → Switch = λ switch. record switch { lbs = change switch.lbs } in
    switches_changed rising net (λ switch. cond (named switch) (changed switch) switch) (kept_where (λ (switch : Switch). switch.id) named changed (λ switch. refl))

switch_less_set : (rising : Kind → Bool) (net : Network) (name : List ℕ) (gone : ObjId → Bool) → Falls rising net (set_switch_lbs net name (without gone))
switch_less_set rising net name gone =
    let named : Switch → Bool = λ switch. bytes_eq switch.name name in
    let changed : Switch → Switch = λ switch. record switch { lbs = without gone switch.lbs } in
    switches_lose rising net (λ switch. cond (named switch) (changed switch) switch) (kept_where (λ (switch : Switch). switch.id) named changed (λ switch. refl))
    (less_where (λ (switch : Switch). vips_of net switch.lbs) named changed (λ switch. vips_fewer net gone switch.lbs))

router_less_set : (rising : Kind → Bool) (net : Network) (name : List ℕ) (gone : ObjId → Bool) → Falls rising net (set_router_lbs net name (without gone))
router_less_set rising net name gone =
    let named : Router → Bool = λ router. bytes_eq router.name name in
    let changed : Router → Router = λ router. record router { lbs = without gone router.lbs } in
    routers_lose rising net (λ router. cond (named router) (changed router) router)
    (less_where (λ (router : Router). vips_of net router.lbs) named changed (λ router. vips_fewer net gone router.lbs))

-- a VIP more
vip_added : (net : Network) (name : List ℕ) (vip : Vip) (proto : Option Proto)
    → Falls (is_one_of (kind.Lb ∷ kind.Vip ∷ kind.Backend ∷ kind.VipDatapath ∷ [])) net (add_vip net name vip proto)
vip_added net name vip proto =
    let rising = is_one_of (kind.Lb ∷ kind.Vip ∷ kind.Backend ∷ kind.VipDatapath ∷ []) in
    let named = λ (lb : Lb). bytes_eq lb.name name in
    let one_more : Lb → Lb = λ lb. record lb { vips = lb.vips ++ vip ∷ [] } in
    let new : Lb = record { id = next_number net; name = name; proto = unwrap_or proto Tcp; vips = vip ∷ [] } in
    cond_both (is_some (lb_named net name)) (record net { lbs = each_where named one_more net.lbs }) (record net { lbs = net.lbs ++ new ∷ []; next = net.next + 1 }) (Falls rising net)
    (λ there. lbs_fall rising net (each_where named one_more net.lbs) net.next may may may may)
    (λ absent. lbs_fall rising net (net.lbs ++ new ∷ []) (net.next + 1) may may may may)

-- groups have other ports, and sets other members
group_set : (net : Network) (change : Group → Group) → Falls (is_one_of (kind.AclSwitch ∷ kind.Member ∷ kind.MatchText ∷ [])) net (record net { groups = map change net.groups })
group_set net change =
    groups_fall (is_one_of (kind.AclSwitch ∷ kind.Member ∷ kind.MatchText ∷ [])) net (map change net.groups) net.next may
    (λ free. sums (length net.sets) (length (map change net.groups)) (length net.sets) (length net.groups) (le_self (length net.sets)) (length_changed change net.groups)) may may

set_set : (net : Network) (change : AddrSet → AddrSet) → Falls (is_one_of (kind.Member ∷ [])) net (record net { sets = map change net.sets })
set_set net change =
    sets_fall (is_one_of (kind.Member ∷ [])) net (map change net.sets) net.next
    (λ free. sums (length (map change net.sets)) (length net.groups) (length net.sets) (length net.groups) (length_changed change net.sets) (le_self (length net.groups))) may

pub edit_falls : (net : Network) (given : Edit) → IsSound net → Falls (rises given) net (effect net given)
edit_falls net (edit.LsAdd name may_exist) sound =
    where_new _ (is_some (switch_named net name)) net (add_switch net name) (switch_added _ net name sound.numbered sound.refers may)
edit_falls net (edit.LrAdd name may_exist) sound =
    where_new _ (is_some (router_named net name)) net (add_router net name) (router_added _ net name may)
edit_falls net (edit.LsDel name given) sound = switch_less _ net name may
edit_falls net (edit.LrDel name given) sound =
    router_less _ net name (λ free. router_ports_less_known net (λ port. is_number (router_id net name) port.router) (are_peers_apart net sound.numbered sound.named))
edit_falls net (edit.LspAdd switch port may_exist) sound =
    where_new _ (is_some (port_named net port)) net (where_there (switch_named net switch) (add_port net port) net)
    (where_found (Falls _ net) (switch_named net switch) (add_port net port) net (stays _ net) (λ s found. port_added _ net port s sound.numbered sound.refers may))
edit_falls net (edit.LspDel port given) sound = ports_less _ net (λ p. bytes_eq p.name port) may
edit_falls net (edit.LspSetAddresses port list) sound =
    let change : Port → Port = λ p. record p { addresses = list } in
    port_set _ net port change (λ p. refl) (λ p. refl) may (λ free. same_guards net port change (λ p. le_self (guards p))) may
edit_falls net (edit.LspSetPortSecurity port list) sound =
    let change : Port → Port = λ p. record p { security = list } in
    port_set _ net port change (λ p. refl) (λ p. refl)
    (λ free. same_addresses net port change (λ p. le_self (total address_count p.addresses))) may
    (λ free. known_less net port change (record { id = λ p. refl; switch = λ p. refl; to_router = λ p. refl; router_port = λ p. refl; addresses = λ p. refl; enabled = λ p on. on }))
edit_falls net (edit.LspSetType port own) sound =
    let change : Port → Port = λ p. record p { kind = own } in
    port_set _ net port change (λ p. refl) (λ p. refl)
    (λ free. same_addresses net port change (λ p. le_self (total address_count p.addresses))) (λ free. same_guards net port change (λ p. le_self (guards p))) may
edit_falls net (edit.LspSetOptions port name) sound =
    let change : Port → Port = λ p. record p { router_port = name } in
    port_set _ net port change (λ p. refl) (λ p. refl)
    (λ free. same_addresses net port change (λ p. le_self (total address_count p.addresses))) (λ free. same_guards net port change (λ p. le_self (guards p))) may
edit_falls net (edit.LspSetEnabled port true) sound =
    let change : Port → Port = λ p. record p { enabled = true } in
    port_set _ net port change (λ p. refl) (λ p. refl)
    (λ free. same_addresses net port change (λ p. le_self (total address_count p.addresses))) (λ free. same_guards net port change (λ p. le_self (guards p))) may
edit_falls net (edit.LspSetEnabled port false) sound =
    let change : Port → Port = λ p. record p { enabled = false } in
    port_set _ net port change (λ p. refl) (λ p. refl)
    (λ free. same_addresses net port change (λ p. le_self (total address_count p.addresses))) (λ free. same_guards net port change (λ p. le_self (guards p)))
    (λ free. known_less net port change (record { id = λ p. refl; switch = λ p. refl; to_router = λ p. refl; router_port = λ p. refl; addresses = λ p. refl; enabled = λ p on. absurd (false≢true on) }))
edit_falls net (edit.LrpSetEnabled port enabled) sound =
    router_port_set _ net port (λ p. record p { enabled = enabled }) (λ p. refl) (λ p. refl)
edit_falls net (edit.LrpAdd router port mac nets may_exist) sound =
    where_new _ (is_some (router_port_named net port)) net (where_there (router_named net router) (add_router_port net port mac nets) net)
    (where_found (Falls _ net) (router_named net router) (add_router_port net port mac nets) net (stays _ net) (λ r found. router_ports_fall _ net _ (net.next + 1) may may may))
edit_falls net (edit.LrpDel port given) sound =
    router_ports_less _ net (λ p. bytes_eq p.name port) (λ free. router_ports_less_known net (λ p. bytes_eq p.name port) (are_peers_apart net sound.numbered sound.named))
edit_falls net (edit.LrRouteAdd router prefix nexthop port by) sound =
    where_found (Falls _ net) (router_id net router) _ net (stays _ net) (λ r found. routes_fall _ net _ (net.next + 1) may)
edit_falls net (edit.LrRouteDel router prefix given by) sound = routes_fewer _ net (is_route net router prefix by)
edit_falls net (edit.LrNatAdd router own external logical) sound =
    where_found (Falls _ net) (router_id net router) _ net (stays _ net) (λ r found. nats_fall _ net _ (net.next + 1) may)
edit_falls net (edit.LrNatDel router own at given) sound = nats_fewer _ net (is_nat net router own at)
edit_falls net (edit.LbAdd name at backends proto) sound = vip_added net name (new_vip at backends) proto
edit_falls net (edit.LbDel name None given) sound = lb_less _ net (lb_id net name)
edit_falls net (edit.LbDel name (Some at) given) sound =
    where_found (Falls _ net) (lb_named net name) (delete_vip net at) net (stays _ net) (λ lb found. vip_less _ net at lb)
edit_falls net (edit.LsLbAdd switch name may_exist) sound =
    where_found (Falls _ net) (lb_id net name) _ net (stays _ net) (λ number found. switch_set _ net switch (with_number number) may)
edit_falls net (edit.LrLbAdd router name may_exist) sound =
    where_found (Falls _ net) (lb_id net name) _ net (stays _ net) (λ number found. routers_changed _ net _ may)
edit_falls net (edit.LsLbDel switch name given) sound = switch_less_set _ net switch (is_detached net name)
edit_falls net (edit.LrLbDel router name given) sound = router_less_set _ net router (is_detached net name)
edit_falls net (edit.AclAdd name way priority matching verdict may_exist of) sound =
    where_found (Falls _ net) (owner_id net of name) _ net (stays _ net)
    (λ owner found. where_new _ (is_some (acl_like net owner way (priority, matching))) net _ (acls_fall _ net _ (net.next + 1) may may may))
edit_falls net (edit.AclDel name way rule of) sound = acls_fewer _ net (is_acl (owner_id net of name) way rule)
edit_falls net (edit.PgAdd name ports) sound =
    group_added _ net (record { id = next_number net; name = name; ports = named_port_ids net ports }) refl sound.numbered sound.refers may may
edit_falls net (edit.PgSetPorts name ports) sound = group_set net _
edit_falls net (edit.PgDel name given) sound = group_less _ net name
edit_falls net (edit.AsAdd name members) sound = sets_fall _ net _ (net.next + 1) may may
edit_falls net (edit.AsSet name members) sound = set_set net _
edit_falls net (edit.AsDel name given) sound = sets_fewer _ net (λ set. bytes_eq set.name name)
edit_falls net (edit.SmbAdd port addr mac) sound =
    where_found (Falls _ net) (router_port_id net port) _ net (stays _ net) (λ p found. bindings_fall _ net _ (net.next + 1) may)
edit_falls net (edit.SmbDel port addr given) sound = bindings_fewer _ net (is_binding net port addr)

-- the kinds that may rise, in the order of all
in_order : (given : Edit) → filter (rises given) kinds ≡ may_rise given
in_order (edit.LspSetEnabled port true) = refl
in_order (edit.LspSetEnabled port false) = refl
in_order other = refl

pub edit_limit : (net : Network) (given : Edit) → IsSound net → over_limit (effect net given) ≡ first_over (may_rise given) (effect net given)
edit_limit net given sound =
    first_of_those_that_rise (rises given) net (effect net given) sound.within (edit_falls net given sound)
    ∙ ap (λ some. first_over some (effect net given)) (in_order given)
