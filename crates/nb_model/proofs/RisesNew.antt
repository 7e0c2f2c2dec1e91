-- What does not rise where an object is new: nothing holds its number yet.
use Rattle.std.proofs.Common.{◌≡◌, ℕ, ◌+◌, ◌<◌, ⊎_elim, Bool, true, false, ◌&&◌, List, [], ◌∷◌, ◌++◌, None, refl, sym, ap, ◌∙◌, subst, arith}
use Rattle.std.specs.Prelude.{IsTrue, length, nat_lt}
use Rattle.std.specs.List.{list_all, list_any}
use Rattle.std.proofs.lemmas.Bool.{and_parts, and_left, and_right, or_cases, or_from, ne_eqb, ltb-true, false≢true}
use Rattle.nv_base.specs.declared.object.ObjId.{ObjId}
use Rattle.nb_records.specs.declared.refusal.Kind.{Kind}
use Rattle.nb_records.specs.declared.refusal.Kind.TheVariants as kind
use Rattle.nb_records.specs.declared.switch.PortKind.TheVariants as port_kind
use Rattle.nb_records.specs.Tags.{address_count}
use Rattle.nb_model.specs.Amounts.{total, vips_of}
use Rattle.nb_model.specs.Applies.{switches_of_acl}
use Rattle.nb_model.specs.Belongs.{is_among}
use Rattle.nb_model.specs.Effect.{add_switch, add_router, add_port}
use Rattle.nb_model.specs.Network.{Network, next_number, same, Acl, Router, Group, Port, Switch}
use Rattle.nb_model.specs.Sound.{AreNumbered, Refer, switch_ids, port_ids, group_ids}
use Rattle.nb_model.proofs.AnyOf.{any_push, none_passes, all_true}
use Rattle.nb_model.proofs.Kept.{is_used}
use Rattle.nb_model.proofs.Lists.{same_is}
use Rattle.nb_model.proofs.Numbered.{are_used}
use Rattle.nb_model.proofs.RecordLists.{all_append}
use Rattle.nb_model.proofs.Rises.{Falls}
use Rattle.nb_model.proofs.RisesApplies.{has_port, applies, applies_where, applies_of}
use Rattle.nb_model.proofs.RisesKinds.{FallsOf, switches_fall, ports_fall, routers_fall, groups_fall}
use Rattle.nb_model.proofs.RisesNeighbours.{port_more}
use Rattle.nb_model.proofs.RisesRecords.{no_wider}
use Rattle.nb_model.proofs.Totals.{le_self, le_equal, sums, total_push, total_none, length_fewer, kept_push}

-- a number of these is below the next one
below_next : (next : ℕ) (n : ObjId) (ids : List ObjId) → IsTrue (list_all (is_used next) ids) → IsTrue (is_among n ids) → n.0 < next
below_next next n [] below there = absurd (false≢true there)
below_next next n (x ∷ xs) below there =
    let parts = and_parts (is_used next x) (list_all (is_used next) xs) below in
    let low = and_parts (nat_lt 0 x.0) (nat_lt x.0 next) parts.0 in
    ⊎_elim (λ at. subst (λ (m : ObjId). m.0 < next) (sym (same_is n x at)) (ltb-true x.0 next low.1)) (λ later. below_next next n xs parts.1 later) (or_cases (same n x) (is_among n xs) there)

-- so it is not the next one
not_next : (next : ℕ) (n : ObjId) → n.0 < next → same n (record { 0 = next }) ≡ false
not_next next n low = ne_eqb n.0 next (λ is. absurd (omega arith))

next_is_not : (next : ℕ) (n : ObjId) → n.0 < next → same (record { 0 = next }) n ≡ false
next_is_not next n low = ne_eqb next n.0 (λ is. absurd (omega arith))

-- the owner of an ACL is not the next number
owner_not_next : (net : Network) → AreNumbered net → (acl : Acl) → IsTrue (is_among acl.owner (switch_ids net ++ group_ids net)) → same (next_number net) acl.owner ≡ false
owner_not_next net numbered acl there =
    let used = are_used net numbered.below in
    next_is_not net.next acl.owner (below_next net.next acl.owner (switch_ids net ++ group_ids net) (all_append (is_used net.next) (switch_ids net) (group_ids net) used.switches used.groups) there)

-- A new switch has no port and no ACL.

no_port : (net : Network) → AreNumbered net → Refer net → (members : List ObjId) → has_port net.ports (next_number net) members ≡ false
no_port net numbered refers members =
    let used = are_used net numbered.below in
    none_passes (λ port. is_among port.switch (switch_ids net)) (λ port. same port.switch (next_number net) && is_among port.id members) net.ports refers.ports
    (λ port there. and_left (same port.switch (next_number net)) (is_among port.id members) (not_next net.next port.switch (below_next net.next port.switch (switch_ids net) used.switches there)))

none_applies : (net : Network) → AreNumbered net → Refer net → (acl : Acl) → IsTrue (is_among acl.owner (switch_ids net ++ group_ids net))
    → applies net.ports net.groups acl.owner (next_number net) ≡ false
none_applies net numbered refers acl there =
    or_from (same (next_number net) acl.owner) (list_any (λ group. same group.id acl.owner && has_port net.ports (next_number net) group.ports) net.groups)
    (owner_not_next net numbered acl there)
    (none_passes (λ group. true) (λ group. same group.id acl.owner && has_port net.ports (next_number net) group.ports) net.groups (all_true net.groups)
    (λ group of. and_right (same group.id acl.owner) (has_port net.ports (next_number net) group.ports) (no_port net numbered refers group.ports)))

pub switch_added : (may : Kind → Bool) (net : Network) (name : List ℕ) → AreNumbered net → Refer net → FallsOf kind.Switch may net (add_switch net name) → Falls may net (add_switch net name)
switch_added may net name numbered refers own =
    let new : Switch = record { id = next_number net; name = name; lbs = [] } in
    let after : Network = add_switch net name in
    let vips : Switch → ℕ = λ switch. vips_of net switch.lbs in
    let of_routers = total (λ (router : Router). vips_of net router.lbs) net.routers in
    let wide = no_wider (λ acl. is_among acl.owner (switch_ids net ++ group_ids net)) (λ acl. length (switches_of_acl after acl)) (λ acl. length (switches_of_acl net acl)) net.acls refers.acls
    (λ acl there. le_equal (length (switches_of_acl after acl)) (length (switches_of_acl net acl))
    (ap length (kept_push (λ switch. applies net.ports net.groups acl.owner switch.id) net.switches new (none_applies net numbered refers acl there)))) in
    switches_fall may net (net.switches ++ new ∷ []) (net.next + 1) own (λ free. wide.0)
    (λ free. sums (total vips (net.switches ++ new ∷ [])) of_routers (total vips net.switches) of_routers
    (total_push vips vips net.switches new (total_none (λ lb. length lb.vips) net.lbs) (λ switch. le_self (vips switch))) (le_self of_routers))
    (λ free. wide.1)

pub router_added : (may : Kind → Bool) (net : Network) (name : List ℕ) → FallsOf kind.Router may net (add_router net name) → Falls may net (add_router net name)
router_added may net name own =
    let new : Router = record { id = next_number net; name = name; lbs = [] } in
    let vips : Router → ℕ = λ router. vips_of net router.lbs in
    let of_switches = total (λ (switch : Switch). vips_of net switch.lbs) net.switches in
    routers_fall may net (net.routers ++ new ∷ []) (net.next + 1) own
    (λ free. sums of_switches (total vips (net.routers ++ new ∷ [])) of_switches (total vips net.routers) (le_self of_switches)
    (total_push vips vips net.routers new (total_none (λ lb. length lb.vips) net.lbs) (λ router. le_self (vips router))))

-- A new port is in no group.

in_no_group : (net : Network) → AreNumbered net → (members : List ObjId) → IsTrue (list_all (λ n. is_among n (port_ids net)) members) → is_among (next_number net) members ≡ false
in_no_group net numbered members all =
    let used = are_used net numbered.below in
    none_passes (λ n. is_among n (port_ids net)) (same (next_number net)) members all (λ n there. next_is_not net.next n (below_next net.next n (port_ids net) used.ports there))

pub port_added : (may : Kind → Bool) (net : Network) (name : List ℕ) (switch : Switch) → AreNumbered net → Refer net → FallsOf kind.Port may net (add_port net name switch)
    → Falls may net (add_port net name switch)
port_added may net name switch numbered refers own =
    let new : Port = record { id = next_number net; switch = switch.id; name = name; kind = port_kind.Host; router_port = None; addresses = []; security = []; enabled = true } in
    let more : List Port = net.ports ++ new ∷ [] in
    let after : Network = add_port net name switch in
    let addresses : Port → ℕ = λ port. total address_count port.addresses in
    let guards : Port → ℕ = λ port. total (λ guard. 1 + length guard.nets) port.security in
    let wide = no_wider (λ acl. true) (λ acl. length (switches_of_acl after acl)) (λ acl. length (switches_of_acl net acl)) net.acls (all_true net.acls)
    (λ acl of. length_fewer (λ other. applies more net.groups acl.owner other.id) (λ other. applies net.ports net.groups acl.owner other.id) net.switches
    (λ other is. applies_where (λ group. list_all (λ n. is_among n (port_ids net)) group.ports) net.ports more net.groups acl.owner other.id refers.groups
    (λ group all there. any_push (λ port. same port.switch other.id && is_among port.id group.ports) net.ports new
    (and_right (same switch.id other.id) (is_among (next_number net) group.ports) (in_no_group net numbered group.ports all)) there) is)) in
    ports_fall may net more (net.next + 1) own (λ free. total_push addresses addresses net.ports new refl (λ port. le_self (addresses port)))
    (λ free. total_push guards guards net.ports new refl (λ port. le_self (guards port))) (λ free. wide.0)
    (λ free. port_more net new (net.next + 1) refl refl) (λ free. wide.1)

-- A new group owns no ACL.

pub group_added : (may : Kind → Bool) (net : Network) (new : Group) → new.id ≡ next_number net → AreNumbered net → Refer net
    → FallsOf kind.Set may net (record net { groups = net.groups ++ new ∷ []; next = net.next + 1 })
    → FallsOf kind.Member may net (record net { groups = net.groups ++ new ∷ []; next = net.next + 1 })
    → Falls may net (record net { groups = net.groups ++ new ∷ []; next = net.next + 1 })
group_added may net new is_next numbered refers sets members =
    let more : List Group = net.groups ++ new ∷ [] in
    let after : Network = record net { groups = more; next = net.next + 1 } in
    let wide = no_wider (λ acl. is_among acl.owner (switch_ids net ++ group_ids net)) (λ acl. length (switches_of_acl after acl)) (λ acl. length (switches_of_acl net acl)) net.acls refers.acls
    (λ acl owned. length_fewer (λ switch. applies net.ports more acl.owner switch.id) (λ switch. applies net.ports net.groups acl.owner switch.id) net.switches
    (λ switch is. applies_of net.ports net.groups more acl.owner switch.id
    (λ there. any_push (λ group. same group.id acl.owner && has_port net.ports switch.id group.ports) net.groups new
    (and_left (same new.id acl.owner) (has_port net.ports switch.id new.ports)
    (ap (λ number. same number acl.owner) is_next ∙ owner_not_next net numbered acl owned)) there) is)) in
    groups_fall may net more (net.next + 1) (λ free. wide.0) sets members (λ free. wide.1)
