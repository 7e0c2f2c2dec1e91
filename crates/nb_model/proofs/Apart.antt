-- No two records say the same: what each operation keeps.
use Rattle.std.proofs.Common.{◌≡◌, ℕ, Bool, true, false, not, ◌&&◌, Option, List, [], ◌∷◌, ◌++◌, refl, subst}
use Rattle.std.specs.Prelude.{filter, if◌then◌else◌}
use Rattle.std.specs.Bool.{IsTrue}
use Rattle.std.specs.List.{list_all, list_any}
use Rattle.std.specs.Str.{bytes_eq}
use Rattle.std.proofs.lemmas.Bool.{and_from}
use Rattle.nv_base.specs.declared.object.ObjId.{ObjId}
use Rattle.nb_records.specs.declared.balancer.Vip.{Vip}
use Rattle.nb_model.specs.Belongs.{is_number, is_among, once, same_frontend, same_route, same_nat, same_acl, same_binding}
use Rattle.nb_model.specs.Effect.{without_ports, without_router_ports, without_lb, delete_switch, delete_router, delete_group, with_number, set_switch_lbs, set_router_lbs}
use Rattle.nb_model.specs.Network.{Network, same, switch_id, router_id, group_id, Lb, Router, RouterPort, Group, Port, Switch}
use Rattle.nb_model.specs.Readable.{are_apart}
use Rattle.nb_model.specs.Sound.{AreApart}
use Rattle.nb_model.proofs.Alike.{same_sym}
use Rattle.nb_model.proofs.RecordLists.{all_as, all_filter, all_map, all_where, all_kept, none_any, apart_filter, apart_push}

-- each number once
pub once_apart : (numbers : List ObjId) → IsTrue (are_apart same (once numbers))
once_apart [] = refl
once_apart (number ∷ numbers) =
    let others = filter (λ other. not (same number other)) (once numbers) in
    and_from (list_all (λ other. not (same number other)) others) (are_apart same others) (all_kept (λ other. not (same number other)) (once numbers))
    (apart_filter same (λ other. not (same number other)) (once numbers) (once_apart numbers))

-- the test the other way round
pub flipped : {X : Type 0} (same : X → X → Bool) (xs : List X) (x : X) → ((a b : X) → same a b ≡ same b a) → IsTrue (list_all (λ y. not (same x y)) xs) → IsTrue (list_all (λ y. not (same y x)) xs)
flipped same xs x symmetric all = all_as (λ y. not (same x y)) (λ y. not (same y x)) xs (λ y is. subst (λ it. IsTrue (not it)) (symmetric x y) is) all

-- a number more, where it is not there
pub with_number_apart : (number : ObjId) (numbers : List ObjId) → IsTrue (are_apart same numbers) → IsTrue (are_apart same (with_number number numbers))
with_number_apart number numbers apart = by (is_among number numbers) (λ none. flipped same numbers number same_sym (none_any (same number) numbers none))
  where
    by : (there : Bool) → (there ≡ false → IsTrue (list_all (λ other. not (same other number)) numbers)) → IsTrue (are_apart same (if there then numbers else numbers ++ number ∷ []))
    by true new = apart
    by false new = apart_push same numbers number apart (new refl)

-- one more that is the same as none
pub one_more : {X : Type 0} (same : X → X → Bool) (xs : List X) (x : X) → ((a b : X) → same a b ≡ same b a) → IsTrue (are_apart same xs) → IsTrue (list_all (λ y. not (same x y)) xs)
    → IsTrue (are_apart same (xs ++ x ∷ []))
one_more same xs x symmetric apart new = apart_push same xs x apart (flipped same xs x symmetric new)

-- two VIPs of one address and port
abbrev pub same_vip : Vip → Vip → Bool
same_vip a b = same_frontend a.at b.at

-- what each record is to be
abbrev pub of_lb : Lb → Bool
of_lb lb = are_apart same_vip lb.vips

abbrev pub of_switch : Switch → Bool
of_switch switch = are_apart same switch.lbs

abbrev pub of_router : Router → Bool
of_router router = are_apart same router.lbs

abbrev pub of_group : Group → Bool
of_group group = are_apart same group.ports

module _ (net : Network) (before : AreApart net) where
  -- Some go.

  pub without_ports_apart : (gone : Port → Bool) → AreApart (without_ports gone net)
  without_ports_apart gone =
      let stays = λ (number : ObjId). not (list_any (λ port. same port.id number && gone port) net.ports) in
      assumption (all_map of_group (λ group. record group { ports = filter stays group.ports }) net.groups (λ group. apart_filter same stays group.ports) before.of_groups)

  pub without_router_ports_apart : (gone : RouterPort → Bool) → AreApart (without_router_ports gone net)
  without_router_ports_apart gone =
      assumption (apart_filter same_binding (λ binding. not (list_any (λ port. same port.id binding.port && gone port) net.router_ports)) net.bindings before.bindings)

  pub without_lb_apart : (number : Option ObjId) → AreApart (without_lb number net)
  without_lb_apart number =
      let stays = λ (own : ObjId). not (is_number number own) in
      assumption (
        all_filter of_lb (λ lb. stays lb.id) net.lbs before.vips,
        all_map of_switch (λ switch. record switch { lbs = filter stays switch.lbs }) net.switches (λ switch. apart_filter same stays switch.lbs) before.of_switches,
        all_map of_router (λ router. record router { lbs = filter stays router.lbs }) net.routers (λ router. apart_filter same stays router.lbs) before.of_routers,
      )

  pub delete_switch_apart : (name : List ℕ) → AreApart (delete_switch net name)
  delete_switch_apart name =
      let inner = without_ports_apart (λ port. is_number (switch_id net name) port.switch) in
      assumption (
        inner,
        all_filter of_switch (λ switch. not (is_number (switch_id net name) switch.id)) net.switches before.of_switches,
        apart_filter same_acl (λ acl. not (is_number (switch_id net name) acl.owner)) net.acls before.acls,
      )

  pub delete_router_apart : (name : List ℕ) → AreApart (delete_router net name)
  delete_router_apart name =
      let inner = without_router_ports_apart (λ port. is_number (router_id net name) port.router) in
      assumption (
        inner,
        all_filter of_router (λ router. not (is_number (router_id net name) router.id)) net.routers before.of_routers,
        apart_filter same_route (λ route. not (is_number (router_id net name) route.router)) net.routes before.routes,
        apart_filter same_nat (λ nat. not (is_number (router_id net name) nat.router)) net.nats before.nats,
      )

  pub delete_group_apart : (name : List ℕ) → AreApart (delete_group net name)
  delete_group_apart name = assumption (
    all_filter of_group (λ group. not (is_number (group_id net name) group.id)) net.groups before.of_groups,
    apart_filter same_acl (λ acl. not (is_number (group_id net name) acl.owner)) net.acls before.acls,
  )

  -- Some change.

  pub set_switch_lbs_apart : (name : List ℕ) (change : List ObjId → List ObjId) → ((numbers : List ObjId) → IsTrue (are_apart same numbers) → IsTrue (are_apart same (change numbers)))
      → AreApart (set_switch_lbs net name change)
  set_switch_lbs_apart name change keeps =
      assumption (all_where of_switch (λ switch. bytes_eq switch.name name) (λ switch. record switch { lbs = change switch.lbs }) net.switches (λ switch. keeps switch.lbs) before.of_switches)

  pub set_router_lbs_apart : (name : List ℕ) (change : List ObjId → List ObjId) → ((numbers : List ObjId) → IsTrue (are_apart same numbers) → IsTrue (are_apart same (change numbers)))
      → AreApart (set_router_lbs net name change)
  set_router_lbs_apart name change keeps =
      assumption (all_where of_router (λ router. bytes_eq router.name name) (λ router. record router { lbs = change router.lbs }) net.routers (λ router. keeps router.lbs) before.of_routers)
