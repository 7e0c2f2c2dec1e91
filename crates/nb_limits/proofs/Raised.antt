-- By how much an ACL more raises the amounts of ACLs.
use Rattle.std.proofs.Common.{◌≡◌, ℕ, ◌+◌, ◌*◌, ◌≤◌, Bool, true, false, cond, not, ◌||◌, List, [], ◌∷◌, ◌++◌, map, Option, Some, None, arith, refl, sym, ap, ◌∙◌, subst, length}
use Rattle.std.proofs.lemmas.Bool.{and_parts, cond_both, false≢true, not-true}
use Rattle.std.specs.Prelude.{IsTrue, is_some}
use Rattle.std.specs.List.{list_all}
use Rattle.expr_core.specs.Text.{typed_text}
use Rattle.nv_base.specs.declared.object.ObjId.{ObjId}
use Rattle.nb_records.specs.declared.acl.Acl.{Acl}
use Rattle.nb_records.specs.declared.refusal.Kind.TheVariants as kind
use Rattle.nb_records.specs.declared.sets.Group.{Group}
use Rattle.nb_records.specs.declared.switch.Switch.{Switch}
use Rattle.nb_model.specs.Amounts.{amount, total}
use Rattle.nb_model.specs.Applies.{switches_of_acl}
use Rattle.nb_model.specs.Belongs.{is_among}
use Rattle.nb_model.specs.Effect.{add_acl, acl_like}
use Rattle.nb_model.specs.Network.{Network, same}
use Rattle.nb_model.specs.Sound.{group_ids}
use Rattle.nb_model.proofs.Lists.{same_is}
use Rattle.nb_model.proofs.Totals.{le_self, total_cons}
use Rattle.nv_table.specs.Table.{record_of}
use Rattle.nb_limits.specs.Ceilings.{IsCeiling}
use Rattle.nb_limits.specs.inner.KnownAfter.{owner_reach, reach}
use Rattle.nb_limits.specs.Limitless.{IsSoundButLimits}
use Rattle.nb_limits.specs.inner.GroupSwitches.{switch_count}
use Rattle.nb_limits.specs.inner.Weights.{found_count}
use Rattle.nb_limits.specs.inner.Within.{up_to, raised, raised_by}
use Rattle.nb_limits.specs.declared.acl_limits.Measure.TheVariants.{Count}
use Rattle.nb_limits.proofs.AclSums.{of_acl, no_switch, groups_rise}
use Rattle.nb_limits.proofs.Counted.{found_list, of_number}
use Rattle.nb_limits.proofs.FewSwitches.{few_of_group}
use Rattle.nb_limits.proofs.Sums.{told}

-- the total of one more
pub total_last : {X : Type 0} (f : X → ℕ) (xs : List X) (x : X) → total f (xs ++ x ∷ []) ≡ total f xs + f x
total_last f [] x = total_cons f x [] ∙ turned (f x)
  where
    turned : (n : ℕ) → n + 0 ≡ 0 + n
    turned n = omega arith
total_last f (y ∷ xs) x = total_cons f y (xs ++ x ∷ []) ∙ ap (λ n. f y + n) (total_last f xs x) ∙ grouped (f y) (total f xs) (f x) ∙ ap (λ n. n + f x) (sym (total_cons f y xs))
  where
    grouped : (a b c : ℕ) → a + (b + c) ≡ (a + b) + c
    grouped a b c = omega arith

module _ (net : Network) (acl : Acl) where
  abbrev longer : Network
  longer = record net { acls = net.acls ++ acl ∷ []; next = net.next + 1 }

  at_most_more : (a b n : ℕ) → a ≡ b + n → a ≤ b + n
  at_most_more a b n is = omega arith

  no_more : (a n : ℕ) → a ≤ a + n
  no_more a n = omega arith

  once : (a b n : ℕ) → a ≡ b + n → a ≤ b + 1 * n
  once a b n is = omega arith

  pub more_switches : amount (add_acl net acl) kind.AclSwitch ≤ amount net kind.AclSwitch + 1 * length (switches_of_acl net acl)
  more_switches =
      cond_both (is_some (acl_like net acl.owner acl.way (acl.priority, acl.matching))) net longer
      (λ after. amount after kind.AclSwitch ≤ amount net kind.AclSwitch + 1 * length (switches_of_acl net acl))
      (λ there. no_more (amount net kind.AclSwitch) (1 * length (switches_of_acl net acl)))
      (λ new. once (amount longer kind.AclSwitch) (amount net kind.AclSwitch) (length (switches_of_acl net acl)) (total_last (λ own. length (switches_of_acl net own)) net.acls acl))

  pub more_text : amount (add_acl net acl) kind.MatchText ≤ amount net kind.MatchText + length (typed_text acl.matching) * length (switches_of_acl net acl)
  more_text =
      cond_both (is_some (acl_like net acl.owner acl.way (acl.priority, acl.matching))) net longer
      (λ after. amount after kind.MatchText ≤ amount net kind.MatchText + length (typed_text acl.matching) * length (switches_of_acl net acl))
      (λ there. no_more (amount net kind.MatchText) (length (typed_text acl.matching) * length (switches_of_acl net acl)))
      (λ new. at_most_more (amount longer kind.MatchText) (amount net kind.MatchText) (length (typed_text acl.matching) * length (switches_of_acl net acl))
      (total_last (λ own. length (typed_text own.matching) * length (switches_of_acl net own)) net.acls acl))

-- a number that is not among those of switches is no switch's
pub none_there : (owner : ObjId) (groups : List ObjId) (switches : List Switch) → IsTrue (is_among owner groups) → IsTrue (list_all (λ n. not (is_among n groups)) (map (λ (s : Switch). s.id) switches))
    → record_of (λ (s : Switch). s.id) owner switches ≡ None
none_there owner groups [] there apart = refl
none_there owner groups (s ∷ switches) there apart =
    let parts = and_parts (not (is_among s.id groups)) (list_all (λ n. not (is_among n groups)) (map (λ (x : Switch). x.id) switches)) apart in
    by (same owner s.id) refl parts.0 (none_there owner groups switches there parts.1)
  where
    by : (here : Bool) → same owner s.id ≡ here → IsTrue (not (is_among s.id groups)) → record_of (λ (x : Switch). x.id) owner switches ≡ None
        → cond here (Some s) (record_of (λ (x : Switch). x.id) owner switches) ≡ None
    by true is other rest = absurd (false≢true (sym (not-true (is_among s.id groups) other) ∙ ap (λ (n : ObjId). is_among n groups) (sym (same_is owner s.id is)) ∙ there))
    by false is other rest = rest

-- and that of a group that is found is among those of groups
pub group_there : (owner : ObjId) (groups : List Group) (group : Group) → record_of (λ (g : Group). g.id) owner groups ≡ Some group → IsTrue (is_among owner (map (λ (g : Group). g.id) groups))
group_there owner [] group found = absurd (cc)
group_there owner (g ∷ groups) group found = by (same owner g.id) found (group_there owner groups group)
  where
    by : (here : Bool) → cond here (Some g) (record_of (λ (x : Group). x.id) owner groups) ≡ Some group
        → (record_of (λ (x : Group). x.id) owner groups ≡ Some group → IsTrue (is_among owner (map (λ (x : Group). x.id) groups))) → IsTrue (here || is_among owner (map (λ (x : Group). x.id) groups))
    by true is more = refl
    by false is more = more is

module _ (net : Network) (limitless : IsSoundButLimits net) where
  abbrev owned : Acl → ℕ
  owned acl = found_count (record_of (λ (s : Switch). s.id) acl.owner net.switches)

  -- an ACL applies to no more switches than its owner may reach
  pub reached : (acl : Acl) → length (switches_of_acl net acl) ≤ reach net acl.owner
  reached acl =
      subst (λ n. n ≤ reach net acl.owner) (sym (of_acl net limitless Count acl ∙ ap (λ (l : List Group). owned acl + total (switch_count net) l) (of_number (λ (g : Group). g.id) acl.owner net.groups (groups_rise net limitless))))
      (by (record_of (λ (g : Group). g.id) acl.owner net.groups) refl)
    where
      one : (o : Option Switch) → found_count o + 0 ≤ 1
      one None = omega arith
      one (Some s) = omega arith

      alone : (n m k most : ℕ) → n ≡ 0 → k ≡ m + 0 → m ≤ most → n + k ≤ most
      alone n m k most none is low = omega arith

      by : (o : Option Group) → record_of (λ (g : Group). g.id) acl.owner net.groups ≡ o → owned acl + total (switch_count net) (found_list (λ (g : Group). g.id) acl.owner o) ≤ owner_reach net o
      by None is = one (record_of (λ (s : Switch). s.id) acl.owner net.switches)
      by (Some group) is =
          alone (owned acl) (switch_count net group) (total (switch_count net) (group ∷ [])) (owner_reach net (Some group))
          (ap found_count (none_there acl.owner (group_ids net) net.switches (group_there acl.owner net.groups group is) (no_switch net limitless)))
          (total_cons (switch_count net) group []) (few_of_group net limitless group)

-- what is known of an amount that is raised by at most so much
pub raised_ceiling : (bound before after : ℕ) (most : Option ℕ) (more some times : ℕ) → IsCeiling bound before most → after ≤ before + more * some → some ≤ times → IsCeiling bound after (raised bound most more times)
raised_ceiling bound before after None more some times known rise less = tt
raised_ceiling bound before after (Some most) more some times known rise less = by (up_to bound (most + more * times)) refl
  where
    grown : (p q : ℕ) → p ≤ q → after ≤ before + p → after ≤ most + q
    grown p q low high = let own = known.0 in omega (arith, own, low, high)

    factor : more * some ≤ more * times
    factor = grind (arith, less)

    by : (o : Option ℕ) → up_to bound (most + more * times) ≡ o → IsCeiling bound after o
    by None is = tt
    by (Some n) is =
        let it = told bound (most + more * times) n (sym is) in
        (subst (λ m. after ≤ m) (sym it.0) (grown (more * some) (more * times) factor rise), it.1)

-- what is known of an amount is so of one that is at most it
pub falls : (limit before after : ℕ) (most : Option ℕ) → after ≤ before → IsCeiling limit before most → IsCeiling limit after most
falls limit before after None less known = tt
falls limit before after (Some most) less known = let low = known.0 in (omega (arith, low, less), known.1)

-- what is known of an amount that is raised by at most so much, where that is told
pub raised_by_ceiling : (limit before after : ℕ) (most : Option ℕ) (more times : ℕ) → IsCeiling limit before most → after ≤ before + more * times → IsCeiling limit after (raised_by limit most (up_to limit more) times)
raised_by_ceiling limit before after most more times known rise = by (up_to limit more) refl
  where
    by : (own : Option ℕ) → up_to limit more ≡ own → IsCeiling limit after (raised_by limit most own times)
    by None is = tt
    by (Some n) is = subst (λ m. IsCeiling limit after (raised limit most m times)) (sym (told limit more n (sym is)).0) (raised_ceiling limit before after most more times times known rise (le_self times))
