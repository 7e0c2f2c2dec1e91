-- The weights of ACLs, by what owns them: a switch, or a group.
use Rattle.std.proofs.Common.{◌≡◌, ℕ, ◌+◌, ◌*◌, ◌<◌, Bool, true, false, cond, not, ◌&&◌, ◌||◌, List, [], ◌∷◌, ◌++◌, map, Option, Some, None, arith, refl, sym, ap, ◌∙◌, subst, length, ◌⊎◌, inl, inr}
use Rattle.std.proofs.lemmas.Bool.{and_parts, and_from, or_left, or_right, or_cases, false≢true, not-true}
use Rattle.std.specs.Prelude.{filter, IsTrue}
use Rattle.std.specs.List.{list_all, list_any, AllByRecursion}
use Rattle.nv_base.specs.declared.object.ObjId.{ObjId}
use Rattle.nb_records.specs.declared.acl.Acl.{Acl}
use Rattle.nb_records.specs.declared.sets.Group.{Group}
use Rattle.nb_records.specs.declared.switch.Switch.{Switch}
use Rattle.nb_records.specs.declared.refusal.Kind.TheVariants as kind
use Rattle.nb_model.specs.Amounts.{amount, total}
use Rattle.nb_model.specs.Applies.{switches_of_acl}
use Rattle.nb_model.specs.Belongs.{is_among}
use Rattle.nb_model.specs.Network.{Network, same}
use Rattle.nb_model.specs.Readable.{are_apart}
use Rattle.nb_model.specs.Sound.{switch_ids, port_ids, router_ids, router_port_ids, route_ids, nat_ids, lb_ids, acl_ids, set_ids, group_ids, binding_ids}
use Rattle.nb_model.proofs.Alike.{same_sym}
use Rattle.nb_model.proofs.Lists.{same_is, among_left, among_right}
use Rattle.nb_model.proofs.Totals.{total_cons}
use Rattle.nv_table.specs.Table.{NumbersRise, record_of}
use Rattle.nb_store.proofs.PlacedRecords.{rises}
use Rattle.nb_limits.specs.Limitless.{IsSoundButLimits}
use Rattle.nb_limits.specs.inner.GroupSwitches.{switch_count, has_port_on}
use Rattle.nb_limits.specs.inner.Weights.{weight, acl_weight, on_switch, on_switches, on_groups, found_count}
use Rattle.nb_limits.specs.declared.acl_limits.Measure.{Measure}
use Rattle.nb_limits.specs.declared.acl_limits.Measure.TheVariants.{Count}
use Rattle.nb_limits.proofs.Counted.{two_kinds, none_kept, none_has, of_number, none_any, found_list}
use Rattle.nb_limits.proofs.Rest.{same_kept}
use Rattle.nb_limits.proofs.Swapped.{total_same, total_plus, total_times, swapped}

-- of numbers that are apart, none of the first is among the second
first_apart : (xs ys : List ObjId) → IsTrue (are_apart same (xs ++ ys)) → IsTrue (list_all (λ x. not (is_among x ys)) xs)
first_apart [] ys apart = refl
first_apart (x ∷ xs) ys apart =
    let parts = and_parts (list_all (λ y. not (same x y)) (xs ++ ys)) (are_apart same (xs ++ ys)) apart in
    and_from (not (is_among x ys)) (list_all (λ z. not (is_among z ys)) xs) (none xs parts.0) (first_apart xs ys parts.1)
  where
    not_any : (l : List ObjId) → IsTrue (list_all (λ y. not (same x y)) l) → IsTrue (not (is_among x l))
    not_any [] e = refl
    not_any (y ∷ l) e = let parts = and_parts (not (same x y)) (list_all (λ z. not (same x z)) l) e in by (same x y) parts.0 (not_any l parts.1)
      where
        by : (b : Bool) → IsTrue (not b) → IsTrue (not (is_among x l)) → IsTrue (not (b || is_among x l))
        by true e more = absurd (false≢true e)
        by false e more = more

    none : (l : List ObjId) → IsTrue (list_all (λ y. not (same x y)) (l ++ ys)) → IsTrue (not (is_among x ys))
    none [] e = not_any ys e
    none (y ∷ l) e = none l (and_parts (not (same x y)) (list_all (λ z. not (same x z)) (l ++ ys)) e).1

-- of those that belong to what one owner of many has, where no two owners have one number
of_owner : (switches : List Switch) (has : Group → ObjId → Bool) (owner : ObjId) (groups : List Group) → NumbersRise (λ (g : Group). g.id) groups
    → length (filter (λ (s : Switch). list_any (λ group. same group.id owner && has group s.id) groups) switches)
    ≡ total (λ group. length (filter (λ (s : Switch). has group s.id) switches)) (filter (λ group. same group.id owner) groups)
of_owner switches has owner [] rise = none_kept switches
of_owner switches has owner (group ∷ groups) rise = by (same group.id owner) refl (of_owner switches has owner groups rise.1)
  where
    others : same group.id owner ≡ true → AllByRecursion (λ (g : Group). owner.0 < g.id.0) groups
    others is = subst (λ (n : ObjId). AllByRecursion (λ (g : Group). n.0 < g.id.0) groups) (same_is group.id owner is) rise.0

    alone : (b : Bool) → (b || false) ≡ b
    alone true = refl
    alone false = refl

    no_other : AllByRecursion (λ (g : Group). owner.0 < g.id.0) groups → (s : Switch) → (has group s.id || list_any (λ g. same g.id owner && has g s.id) groups) ≡ has group s.id
    no_other all s = ap (λ b. has group s.id || b) (none_any (λ (g : Group). g.id) owner (λ g. has g s.id) groups all) ∙ alone (has group s.id)

    plus_none : (n : ℕ) → n ≡ n + 0
    plus_none n = omega arith

    by : (b : Bool) → same group.id owner ≡ b
        → length (filter (λ (s : Switch). list_any (λ g. same g.id owner && has g s.id) groups) switches) ≡ total (λ g. length (filter (λ (s : Switch). has g s.id) switches)) (filter (λ g. same g.id owner) groups)
        → length (filter (λ (s : Switch). (b && has group s.id) || list_any (λ g. same g.id owner && has g s.id) groups) switches)
        ≡ total (λ g. length (filter (λ (s : Switch). has g s.id) switches)) (cond b (group ∷ filter (λ g. same g.id owner) groups) (filter (λ g. same g.id owner) groups))
    by true is more =
        ap length (same_kept (λ (s : Switch). has group s.id || list_any (λ g. same g.id owner && has g s.id) groups) (λ (s : Switch). has group s.id) switches (no_other (others is)))
        ∙ plus_none (length (filter (λ (s : Switch). has group s.id) switches))
        ∙ ap (λ (l : List Group). length (filter (λ (s : Switch). has group s.id) switches) + total (λ g. length (filter (λ (s : Switch). has g s.id) switches)) l) (sym (none_has_it (others is)))
        ∙ sym (total_cons (λ g. length (filter (λ (s : Switch). has g s.id) switches)) group (filter (λ g. same g.id owner) groups))
      where
        none_has_it : AllByRecursion (λ (g : Group). owner.0 < g.id.0) groups → filter (λ (g : Group). same g.id owner) groups ≡ []
        none_has_it all = none_has (λ (g : Group). g.id) owner groups all
    by false is more = more

module _ (net : Network) (limitless : IsSoundButLimits net) where
  switches_rise : NumbersRise (λ (s : Switch). s.id) net.switches
  switches_rise = rises (λ (s : Switch). s.id) net.switches limitless.numbered.order.switches

  pub groups_rise : NumbersRise (λ (g : Group). g.id) net.groups
  groups_rise = rises (λ (g : Group). g.id) net.groups limitless.numbered.order.groups

  -- no group has the number of a switch
  pub no_switch : IsTrue (list_all (λ (n : ObjId). not (is_among n (group_ids net))) (switch_ids net))
  no_switch = weaker (switch_ids net) (first_apart (switch_ids net) _ limitless.numbered.apart)
    where
      later : (n : ObjId) → IsTrue (is_among n (group_ids net))
          → IsTrue (is_among n (port_ids net ++ (router_ids net ++ (router_port_ids net ++ (route_ids net ++ (nat_ids net ++ (lb_ids net ++ (acl_ids net ++ (set_ids net ++ (group_ids net ++ binding_ids net))))))))))
      later n there =
          among_right n (port_ids net) _ (among_right n (router_ids net) _ (among_right n (router_port_ids net) _ (among_right n (route_ids net) _ (among_right n (nat_ids net) _ (among_right n (lb_ids net) _ (among_right n (acl_ids net) _
          (among_right n (set_ids net) _ (among_left n (group_ids net) (binding_ids net) there))))))))

      turn : (a b : Bool) → (IsTrue a → IsTrue b) → IsTrue (not b) → IsTrue (not a)
      turn false b w e = refl
      turn true true w e = e
      turn true false w e = absurd (false≢true (w refl))

      weaker : (l : List ObjId)
          → IsTrue (list_all (λ n. not (is_among n (port_ids net ++ (router_ids net ++ (router_port_ids net ++ (route_ids net ++ (nat_ids net ++ (lb_ids net ++ (acl_ids net ++ (set_ids net ++ (group_ids net ++ binding_ids net))))))))))) l)
          → IsTrue (list_all (λ n. not (is_among n (group_ids net))) l)
      weaker [] e = refl
      weaker (n ∷ l) e =
          let parts = and_parts (not (is_among n (port_ids net ++ (router_ids net ++ (router_port_ids net ++ (route_ids net ++ (nat_ids net ++ (lb_ids net ++ (acl_ids net ++ (set_ids net ++ (group_ids net ++ binding_ids net)))))))))))
          (list_all (λ m. not (is_among m (port_ids net ++ (router_ids net ++ (router_port_ids net ++ (route_ids net ++ (nat_ids net ++ (lb_ids net ++ (acl_ids net ++ (set_ids net ++ (group_ids net ++ binding_ids net))))))))))) l) e in
          and_from (not (is_among n (group_ids net))) (list_all (λ m. not (is_among m (group_ids net))) l) (turn (is_among n (group_ids net)) _ (later n) parts.0) (weaker l parts.1)

  module _ (measure : Measure) where
    not_both : (owner : ObjId) → IsTrue (list_all (λ (s : Switch). not (same s.id owner && list_any (λ group. same group.id owner && has_port_on net group s.id) net.groups)) net.switches)
    not_both owner = each net.switches no_switch
      where
        there : (s : Switch) (groups : List Group) → same s.id owner ≡ true → IsTrue (list_any (λ group. same group.id owner && has_port_on net group s.id) groups) → IsTrue (is_among s.id (map (λ (g : Group). g.id) groups))
        there s [] is any = any
        there s (g ∷ groups) is any = by (or_cases (same g.id owner && has_port_on net g s.id) (list_any (λ group. same group.id owner && has_port_on net group s.id) groups) any) (there s groups is)
          where
            by : IsTrue (same g.id owner && has_port_on net g s.id) ⊎ IsTrue (list_any (λ group. same group.id owner && has_port_on net group s.id) groups)
                → (IsTrue (list_any (λ group. same group.id owner && has_port_on net group s.id) groups) → IsTrue (is_among s.id (map (λ (g : Group). g.id) groups))) → IsTrue (same s.id g.id || is_among s.id (map (λ (g : Group). g.id) groups))
            by (inl here) more =
                or_left (same s.id g.id) (is_among s.id (map (λ (g : Group). g.id) groups))
                (ap (λ (n : ObjId). same n g.id) (same_is s.id owner is) ∙ same_sym owner g.id ∙ (and_parts (same g.id owner) (has_port_on net g s.id) here).0)
            by (inr later) more = or_right (same s.id g.id) (is_among s.id (map (λ (g : Group). g.id) groups)) (more later)

        one : (s : Switch) (a b : Bool) → same s.id owner ≡ a → list_any (λ group. same group.id owner && has_port_on net group s.id) net.groups ≡ b → IsTrue (not (is_among s.id (group_ids net))) → IsTrue (not (a && b))
        one s false b e f none = refl
        one s true false e f none = refl
        one s true true e f none = absurd (false≢true (sym (not-true (is_among s.id (group_ids net)) none) ∙ there s net.groups e f))

        each : (l : List Switch) → IsTrue (list_all (λ (n : ObjId). not (is_among n (group_ids net))) (map (λ (s : Switch). s.id) l))
            → IsTrue (list_all (λ (s : Switch). not (same s.id owner && list_any (λ group. same group.id owner && has_port_on net group s.id) net.groups)) l)
        each [] e = refl
        each (s ∷ l) e =
            let parts = and_parts (not (is_among s.id (group_ids net))) (list_all (λ (n : ObjId). not (is_among n (group_ids net))) (map (λ (s : Switch). s.id) l)) e in
            and_from _ (list_all (λ (s : Switch). not (same s.id owner && list_any (λ group. same group.id owner && has_port_on net group s.id) net.groups)) l)
            (one s (same s.id owner) (list_any (λ group. same group.id owner && has_port_on net group s.id) net.groups) refl refl parts.0) (each l parts.1)

    counted : {R : Type 0} (number : R → ObjId) (n : ObjId) (o : Option R) → length (found_list number n o) ≡ found_count o
    counted number n None = refl
    counted number n (Some r) = refl

    pub of_acl : (acl : Acl) → length (switches_of_acl net acl)
        ≡ found_count (record_of (λ (s : Switch). s.id) acl.owner net.switches) + total (switch_count net) (filter (λ group. same group.id acl.owner) net.groups)
    of_acl acl =
        two_kinds (λ (s : Switch). same s.id acl.owner) (λ s. list_any (λ group. same group.id acl.owner && has_port_on net group s.id) net.groups) net.switches (not_both acl.owner)
        ∙ ap (λ n. n + length (filter (λ (s : Switch). list_any (λ group. same group.id acl.owner && has_port_on net group s.id) net.groups) net.switches))
        (ap length (of_number (λ (s : Switch). s.id) acl.owner net.switches switches_rise) ∙ counted (λ (s : Switch). s.id) acl.owner (record_of (λ (s : Switch). s.id) acl.owner net.switches))
        ∙ ap (λ n. found_count (record_of (λ (s : Switch). s.id) acl.owner net.switches) + n) (of_owner net.switches (has_port_on net) acl.owner net.groups groups_rise)

    pub by_owner : on_switches measure net + on_groups measure net ≡ acl_weight measure net
    by_owner =
        ap (λ n. on_switches measure net + n)
        (sym (swapped (λ (acl : Acl) (group : Group). weight measure acl * switch_count net group) (λ acl group. same group.id acl.owner) net.acls net.groups))
        ∙ sym (total_plus (on_switch measure net) (λ acl. total (λ group. weight measure acl * switch_count net group) (filter (λ group. same group.id acl.owner) net.groups)) net.acls)
        ∙ total_same (λ acl. on_switch measure net acl + total (λ group. weight measure acl * switch_count net group) (filter (λ group. same group.id acl.owner) net.groups))
        (λ acl. weight measure acl * length (switches_of_acl net acl)) net.acls each
      where
        parts : (n a b : ℕ) → n * a + n * b ≡ n * (a + b)
        parts n a b = grind arith

        each : (acl : Acl) → on_switch measure net acl + total (λ group. weight measure acl * switch_count net group) (filter (λ group. same group.id acl.owner) net.groups) ≡ weight measure acl * length (switches_of_acl net acl)
        each acl =
            ap (λ n. on_switch measure net acl + n) (total_times (weight measure acl) (switch_count net) (filter (λ group. same group.id acl.owner) net.groups))
            ∙ parts (weight measure acl) _ _ ∙ ap (λ n. weight measure acl * n) (sym (of_acl acl))

-- where each counts for one, their weight is how many there are
pub count_weight : (net : Network) → acl_weight Count net ≡ amount net kind.AclSwitch
count_weight net = total_same (λ acl. 1 * length (switches_of_acl net acl)) (λ acl. length (switches_of_acl net acl)) net.acls (λ acl. once (length (switches_of_acl net acl)))
  where
    once : (n : ℕ) → 1 * n ≡ n
    once n = omega arith
