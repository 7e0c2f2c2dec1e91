-- What does not rise where some records of one kind go, or are changed in something else.
use Rattle.std.proofs.Common.{◌≡◌, ℕ, ◌+◌, ◌*◌, ◌≤◌, Bool, true, not, ◌&&◌, List, map, refl, sym, ◌∙◌, subst}
use Rattle.std.specs.Prelude.{IsTrue, filter, length}
use Rattle.std.specs.List.{list_all}
use Rattle.std.proofs.lemmas.Bool.{and_parts, and_from}
use Rattle.expr_core.specs.Text.{typed_text}
use Rattle.nv_base.specs.declared.object.ObjId.{ObjId}
use Rattle.nb_records.specs.declared.refusal.Kind.{Kind}
use Rattle.nb_records.specs.declared.refusal.Kind.TheVariants as kind
use Rattle.nb_records.specs.Tags.{address_count}
use Rattle.nb_model.specs.Amounts.{total, greatest, vips_of}
use Rattle.nb_model.specs.Applies.{switches_of_acl}
use Rattle.nb_model.specs.Belongs.{is_among}
use Rattle.nb_model.specs.Effect.{without}
use Rattle.nb_model.specs.Network.{Network, same, Acl, Lb, Binding, Nat, Route, Router, RouterPort, AddrSet, Group, Port, Switch}
use Rattle.nb_model.proofs.AnyOf.{any_kept, any_as, any_changed, all_true}
use Rattle.nb_model.proofs.Rises.{Falls}
use Rattle.nb_model.proofs.RisesApplies.{has_port, applies, texts, among_kept, applies_before, applies_where, applies_of}
use Rattle.nb_model.proofs.RisesKinds.{FallsOf, switches_fall, ports_fall, routers_fall, router_ports_fall, routes_fall, nats_fall, bindings_fall, lbs_fall, acls_fall, sets_fall, groups_fall}
use Rattle.nb_model.proofs.Totals.{le_self, sums, total_le, total_changed, total_kept, total_fewer, total_fewer_changed, total_kept_twice, greatest_kept, greatest_changed, length_kept, length_changed, length_fewer, length_fewer_changed, length_kept_twice}

-- the switches to which these ACLs apply, and their matches once for each, where each applies to no more
pub no_wider : (p : Acl → Bool) (f g : Acl → ℕ) (acls : List Acl) → IsTrue (list_all p acls) → ((acl : Acl) → IsTrue (p acl) → f acl ≤ g acl)
    → (total f acls ≤ total g acls) × (total (λ acl. length (typed_text acl.matching) * f acl) acls ≤ total (λ acl. length (typed_text acl.matching) * g acl) acls)
no_wider p f g acls all less = (total_le f g p acls all less, texts p f g acls all less)

-- Switches.

pub switches_fewer : (may : Kind → Bool) (net : Network) (gone : Switch → Bool) → Falls may net (record net { switches = without gone net.switches })
switches_fewer may net gone =
    let keep : Switch → Bool = λ switch. not (gone switch) in
    let after : Network = record net { switches = without gone net.switches } in
    let vips : Switch → ℕ = λ switch. vips_of net switch.lbs in
    let of_routers = total (λ (router : Router). vips_of net router.lbs) net.routers in
    let wide = no_wider (λ acl. true) (λ acl. length (switches_of_acl after acl)) (λ acl. length (switches_of_acl net acl)) net.acls (all_true net.acls)
    (λ acl of. length_kept_twice keep (λ switch. applies net.ports net.groups acl.owner switch.id) net.switches) in
    switches_fall may net (without gone net.switches) net.next (λ free. length_kept keep net.switches) (λ free. wide.0)
    (λ free. sums (total vips (without gone net.switches)) of_routers (total vips net.switches) of_routers (total_kept vips vips keep net.switches (λ switch. le_self (vips switch))) (le_self of_routers))
    (λ free. wide.1)

pub switches_changed : (may : Kind → Bool) (net : Network) (change : Switch → Switch) → ((switch : Switch) → (change switch).id ≡ switch.id)
    → FallsOf kind.VipDatapath may net (record net { switches = map change net.switches }) → Falls may net (record net { switches = map change net.switches })
switches_changed may net change keeps vips =
    let after : Network = record net { switches = map change net.switches } in
    let wide = no_wider (λ acl. true) (λ acl. length (switches_of_acl after acl)) (λ acl. length (switches_of_acl net acl)) net.acls (all_true net.acls)
    (λ acl of. length_fewer_changed change (λ switch. applies net.ports net.groups acl.owner switch.id) (λ switch. applies net.ports net.groups acl.owner switch.id) net.switches
    (λ switch is. subst (λ id. IsTrue (applies net.ports net.groups acl.owner id)) (keeps switch) is)) in
    switches_fall may net (map change net.switches) net.next (λ free. length_changed change net.switches) (λ free. wide.0) vips (λ free. wide.1)

-- fewer load balancers have fewer VIPs
pub vips_fewer : (net : Network) (gone : ObjId → Bool) (numbers : List ObjId) → vips_of net (without gone numbers) ≤ vips_of net numbers
vips_fewer net gone numbers =
    total_fewer (λ (lb : Lb). length lb.vips) (λ (lb : Lb). length lb.vips) (λ (lb : Lb). is_among lb.id (without gone numbers)) (λ (lb : Lb). is_among lb.id numbers) net.lbs
    (λ lb is. among_kept lb.id (λ number. not (gone number)) numbers is) (λ lb. le_self (length lb.vips))

-- Ports.

pub ports_fewer : (may : Kind → Bool) (net : Network) (gone : Port → Bool) → FallsOf kind.Neighbour may net (record net { ports = without gone net.ports })
    → Falls may net (record net { ports = without gone net.ports })
ports_fewer may net gone neighbours =
    let keep : Port → Bool = λ port. not (gone port) in
    let left : List Port = without gone net.ports in
    let after : Network = record net { ports = left } in
    let addresses : Port → ℕ = λ port. total address_count port.addresses in
    let guards : Port → ℕ = λ port. total (λ guard. 1 + length guard.nets) port.security in
    let wide = no_wider (λ acl. true) (λ acl. length (switches_of_acl after acl)) (λ acl. length (switches_of_acl net acl)) net.acls (all_true net.acls)
    (λ acl of. length_fewer (λ switch. applies left net.groups acl.owner switch.id) (λ switch. applies net.ports net.groups acl.owner switch.id) net.switches
    (λ switch is. applies_where (λ group. true) net.ports left net.groups acl.owner switch.id (all_true net.groups)
    (λ group all there. any_kept (λ port. same port.switch switch.id && is_among port.id group.ports) keep net.ports there) is)) in
    ports_fall may net left net.next (λ free. length_kept keep net.ports)
    (λ free. total_kept addresses addresses keep net.ports (λ port. le_self (addresses port)))
    (λ free. total_kept guards guards keep net.ports (λ port. le_self (guards port))) (λ free. wide.0) neighbours (λ free. wide.1)

-- a switch has a port of a group where it had one before
ports_there : (change : Port → Port) → ((port : Port) → (change port).id ≡ port.id) → ((port : Port) → (change port).switch ≡ port.switch) → (ports : List Port) (id : ObjId) (members : List ObjId)
    → IsTrue (has_port (map change ports) id members) → IsTrue (has_port ports id members)
ports_there change ids switches ports id members there =
    let is : Port → Bool = λ port. same port.switch id && is_among port.id members in
    any_changed (λ port. true) is is change ports (all_true ports) (λ port of here. sym (λ i. same (switches port i) id && is_among (ids port i) members) ∙ here) there

pub ports_changed : (may : Kind → Bool) (net : Network) (change : Port → Port) → ((port : Port) → (change port).id ≡ port.id) → ((port : Port) → (change port).switch ≡ port.switch)
    → FallsOf kind.Address may net (record net { ports = map change net.ports })
    → FallsOf kind.Security may net (record net { ports = map change net.ports })
    → FallsOf kind.Neighbour may net (record net { ports = map change net.ports })
    → Falls may net (record net { ports = map change net.ports })
ports_changed may net change ids switches addresses guards neighbours =
    let after : Network = record net { ports = map change net.ports } in
    let wide = no_wider (λ acl. true) (λ acl. length (switches_of_acl after acl)) (λ acl. length (switches_of_acl net acl)) net.acls (all_true net.acls)
    (λ acl of. length_fewer (λ switch. applies (map change net.ports) net.groups acl.owner switch.id) (λ switch. applies net.ports net.groups acl.owner switch.id) net.switches
    (λ switch is. applies_where (λ group. true) net.ports (map change net.ports) net.groups acl.owner switch.id (all_true net.groups)
    (λ group all there. ports_there change ids switches net.ports switch.id group.ports there) is)) in
    ports_fall may net (map change net.ports) net.next (λ free. length_changed change net.ports) addresses guards (λ free. wide.0) neighbours (λ free. wide.1)

-- Groups.

pub groups_fewer : (may : Kind → Bool) (net : Network) (gone : Group → Bool) → Falls may net (record net { groups = without gone net.groups })
groups_fewer may net gone =
    let keep : Group → Bool = λ group. not (gone group) in
    let left : List Group = without gone net.groups in
    let after : Network = record net { groups = left } in
    let ports : Group → ℕ = λ group. length group.ports in
    let of_sets = total (λ (set : AddrSet). length set.members) net.sets in
    let wide = no_wider (λ acl. true) (λ acl. length (switches_of_acl after acl)) (λ acl. length (switches_of_acl net acl)) net.acls (all_true net.acls)
    (λ acl of. length_fewer (λ switch. applies net.ports left acl.owner switch.id) (λ switch. applies net.ports net.groups acl.owner switch.id) net.switches
    (λ switch is. applies_of net.ports net.groups left acl.owner switch.id
    (λ there. any_kept (λ group. same group.id acl.owner && has_port net.ports switch.id group.ports) keep net.groups there) is)) in
    groups_fall may net left net.next (λ free. wide.0)
    (λ free. sums (length net.sets) (length left) (length net.sets) (length net.groups) (le_self (length net.sets)) (length_kept keep net.groups))
    (λ free. sums of_sets (total ports left) of_sets (total ports net.groups) (le_self of_sets) (total_kept ports ports keep net.groups (λ group. le_self (ports group))))
    (λ free. wide.1)

-- a switch has a port of a group that has fewer only where it has one of the group
fewer_members : (keep : ObjId → Bool) (ports : List Port) (id : ObjId) (members : List ObjId) → IsTrue (has_port ports id (filter keep members)) → IsTrue (has_port ports id members)
fewer_members keep ports id members there =
    any_as (λ port. true) (λ port. same port.switch id && is_among port.id (filter keep members)) (λ port. same port.switch id && is_among port.id members) ports (all_true ports)
    (λ port of both. let parts = and_parts (same port.switch id) (is_among port.id (filter keep members)) both in
    and_from (same port.switch id) (is_among port.id members) parts.0 (among_kept port.id keep members parts.1)) there

-- each group has fewer ports
pub groups_leave : (may : Kind → Bool) (net : Network) (gone : ObjId → Bool)
    → Falls may net (record net { groups = map (λ (group : Group). record group { ports = without gone group.ports }) net.groups })
groups_leave may net gone =
    let leave : Group → Group = λ group. record group { ports = without gone group.ports } in
    let keep : ObjId → Bool = λ number. not (gone number) in
    let left : List Group = map leave net.groups in
    let after : Network = record net { groups = left } in
    let ports : Group → ℕ = λ group. length group.ports in
    let of_sets = total (λ (set : AddrSet). length set.members) net.sets in
    let wide = no_wider (λ acl. true) (λ acl. length (switches_of_acl after acl)) (λ acl. length (switches_of_acl net acl)) net.acls (all_true net.acls)
    (λ acl of. length_fewer (λ switch. applies net.ports left acl.owner switch.id) (λ switch. applies net.ports net.groups acl.owner switch.id) net.switches
    (λ switch is. applies_before (λ group. true) net.ports net.ports net.groups leave acl.owner switch.id (all_true net.groups) (λ group. refl)
    (λ group all there. fewer_members keep net.ports switch.id group.ports there) is)) in
    groups_fall may net left net.next (λ free. wide.0)
    (λ free. sums (length net.sets) (length left) (length net.sets) (length net.groups) (le_self (length net.sets)) (length_changed leave net.groups))
    (λ free. sums of_sets (total ports left) of_sets (total ports net.groups) (le_self of_sets) (total_changed ports ports leave net.groups (λ group. length_kept keep group.ports)))
    (λ free. wide.1)

-- Routers.

pub routers_fewer : (may : Kind → Bool) (net : Network) (gone : Router → Bool) → Falls may net (record net { routers = without gone net.routers })
routers_fewer may net gone =
    let keep : Router → Bool = λ router. not (gone router) in
    let vips : Router → ℕ = λ router. vips_of net router.lbs in
    let of_switches = total (λ (switch : Switch). vips_of net switch.lbs) net.switches in
    routers_fall may net (without gone net.routers) net.next (λ free. length_kept keep net.routers)
    (λ free. sums of_switches (total vips (without gone net.routers)) of_switches (total vips net.routers) (le_self of_switches) (total_kept vips vips keep net.routers (λ router. le_self (vips router))))

pub routers_changed : (may : Kind → Bool) (net : Network) (change : Router → Router) → FallsOf kind.VipDatapath may net (record net { routers = map change net.routers })
    → Falls may net (record net { routers = map change net.routers })
routers_changed may net change vips = routers_fall may net (map change net.routers) net.next (λ free. length_changed change net.routers) vips

pub router_ports_fewer : (may : Kind → Bool) (net : Network) (gone : RouterPort → Bool) → FallsOf kind.Neighbour may net (record net { router_ports = without gone net.router_ports })
    → Falls may net (record net { router_ports = without gone net.router_ports })
router_ports_fewer may net gone neighbours =
    let keep : RouterPort → Bool = λ port. not (gone port) in
    let nets : RouterPort → ℕ = λ port. length port.nets in
    router_ports_fall may net (without gone net.router_ports) net.next (λ free. length_kept keep net.router_ports)
    (λ free. total_kept nets nets keep net.router_ports (λ port. le_self (nets port))) neighbours

pub routes_fewer : (may : Kind → Bool) (net : Network) (gone : Route → Bool) → Falls may net (record net { routes = without gone net.routes })
routes_fewer may net gone = routes_fall may net (without gone net.routes) net.next (λ free. length_kept (λ route. not (gone route)) net.routes)

pub nats_fewer : (may : Kind → Bool) (net : Network) (gone : Nat → Bool) → Falls may net (record net { nats = without gone net.nats })
nats_fewer may net gone = nats_fall may net (without gone net.nats) net.next (λ free. length_kept (λ nat. not (gone nat)) net.nats)

pub bindings_fewer : (may : Kind → Bool) (net : Network) (gone : Binding → Bool) → Falls may net (record net { bindings = without gone net.bindings })
bindings_fewer may net gone = bindings_fall may net (without gone net.bindings) net.next (λ free. length_kept (λ binding. not (gone binding)) net.bindings)

-- ACLs and sets.

pub acls_fewer : (may : Kind → Bool) (net : Network) (gone : Acl → Bool) → Falls may net (record net { acls = without gone net.acls })
acls_fewer may net gone =
    let keep : Acl → Bool = λ acl. not (gone acl) in
    let wide : Acl → ℕ = λ acl. length (switches_of_acl net acl) in
    let text : Acl → ℕ = λ acl. length (typed_text acl.matching) * length (switches_of_acl net acl) in
    acls_fall may net (without gone net.acls) net.next (λ free. length_kept keep net.acls) (λ free. total_kept wide wide keep net.acls (λ acl. le_self (wide acl)))
    (λ free. total_kept text text keep net.acls (λ acl. le_self (text acl)))

pub sets_fewer : (may : Kind → Bool) (net : Network) (gone : AddrSet → Bool) → Falls may net (record net { sets = without gone net.sets })
sets_fewer may net gone =
    let keep : AddrSet → Bool = λ set. not (gone set) in
    let members : AddrSet → ℕ = λ set. length set.members in
    let of_groups = total (λ (group : Group). length group.ports) net.groups in
    sets_fall may net (without gone net.sets) net.next
    (λ free. sums (length (without gone net.sets)) (length net.groups) (length net.sets) (length net.groups) (length_kept keep net.sets) (le_self (length net.groups)))
    (λ free. sums (total members (without gone net.sets)) of_groups (total members net.sets) of_groups (total_kept members members keep net.sets (λ set. le_self (members set))) (le_self of_groups))

-- Load balancers.

-- the backends of one of its VIPs that has most
abbrev pub most_backends : Lb → ℕ
most_backends lb = greatest (λ vip. length vip.backends) lb.vips

pub lbs_fewer : (may : Kind → Bool) (net : Network) (gone : Lb → Bool) → Falls may net (record net { lbs = without gone net.lbs })
lbs_fewer may net gone =
    let keep : Lb → Bool = λ lb. not (gone lb) in
    let left : List Lb = without gone net.lbs in
    let after : Network = record net { lbs = left } in
    let vips : Lb → ℕ = λ lb. length lb.vips in
    let of : (numbers : List ObjId) → vips_of after numbers ≤ vips_of net numbers = λ numbers. total_kept_twice vips keep (λ lb. is_among lb.id numbers) net.lbs in
    lbs_fall may net left net.next (λ free. length_kept keep net.lbs) (λ free. greatest_kept vips keep net.lbs) (λ free. greatest_kept most_backends keep net.lbs)
    (λ free. sums (total (λ (switch : Switch). vips_of after switch.lbs) net.switches) (total (λ (router : Router). vips_of after router.lbs) net.routers)
    (total (λ (switch : Switch). vips_of net switch.lbs) net.switches) (total (λ (router : Router). vips_of net router.lbs) net.routers)
    (total_le (λ switch. vips_of after switch.lbs) (λ switch. vips_of net switch.lbs) (λ switch. true) net.switches (all_true net.switches) (λ switch all. of switch.lbs))
    (total_le (λ router. vips_of after router.lbs) (λ router. vips_of net router.lbs) (λ router. true) net.routers (all_true net.routers) (λ router all. of router.lbs)))

pub lbs_changed : (may : Kind → Bool) (net : Network) (change : Lb → Lb) → ((lb : Lb) → (change lb).id ≡ lb.id) → ((lb : Lb) → length (change lb).vips ≤ length lb.vips)
    → ((lb : Lb) → most_backends (change lb) ≤ most_backends lb) → Falls may net (record net { lbs = map change net.lbs })
lbs_changed may net change keeps fewer backends =
    let left : List Lb = map change net.lbs in
    let after : Network = record net { lbs = left } in
    let vips : Lb → ℕ = λ lb. length lb.vips in
    let of : (numbers : List ObjId) → vips_of after numbers ≤ vips_of net numbers = λ numbers.
    total_fewer_changed vips vips change (λ lb. is_among lb.id numbers) (λ lb. is_among lb.id numbers) net.lbs
    (λ lb is. subst (λ id. IsTrue (is_among id numbers)) (keeps lb) is) fewer in
    lbs_fall may net left net.next (λ free. length_changed change net.lbs) (λ free. greatest_changed vips vips change net.lbs fewer)
    (λ free. greatest_changed most_backends most_backends change net.lbs backends)
    (λ free. sums (total (λ (switch : Switch). vips_of after switch.lbs) net.switches) (total (λ (router : Router). vips_of after router.lbs) net.routers)
    (total (λ (switch : Switch). vips_of net switch.lbs) net.switches) (total (λ (router : Router). vips_of net router.lbs) net.routers)
    (total_le (λ switch. vips_of after switch.lbs) (λ switch. vips_of net switch.lbs) (λ switch. true) net.switches (all_true net.switches) (λ switch all. of switch.lbs))
    (total_le (λ router. vips_of after router.lbs) (λ router. vips_of net router.lbs) (λ router. true) net.routers (all_true net.routers) (λ router all. of router.lbs)))
