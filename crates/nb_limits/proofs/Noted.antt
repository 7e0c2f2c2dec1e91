-- The switches of a group's ports, noted one by one, and then each once.
use Rattle.std.proofs.Common.{◌≡◌, Bool, true, false, cond, not, ◌&&◌, ◌||◌, ⊎_elim, List, [], ◌∷◌, ◌++◌, Some, None, refl, sym, ap, ◌∙◌, subst, length}
use Rattle.std.proofs.lemmas.Bool.{and_from, and_parts, or_cases, or_left, or_right, false≢true}
use Rattle.std.proofs.lemmas.List.Kept.{Contains-dedup, Contains-from_dedup, IsStrictlySortedBy-dedup}
use Rattle.std.proofs.lemmas.List.Sorted.{Contains-permutation, IsPermutation-sym}
use Rattle.std.proofs.lemmas.Map.Views.{Contains-from_any, list_any-from_Contains}
use Rattle.std.specs.Prelude.{find, IsTrue}
use Rattle.std.specs.Cmp.{ties}
use Rattle.std.specs.List.{list_all, list_any, AllByRecursion, Contains, dedup}
use Rattle.std.specs.List.Sorted.{IsPermutation, IsSorted, IsStrictlySortedBy}
use Rattle.std.specs.Ordering.{eq_by_cmp, is_eq}
use Rattle.std.specs.declared.cmp.Ordering.TheVariants.{Less}
use Rattle.nv_base.specs.inner.Exact.{object}
use Rattle.nv_base.specs.contracts.object.ObjIdPartialEq.TheImpl as number_eq
use Rattle.nv_base.specs.contracts.object.ObjIdOrd.TheImpl as number_ord
use Rattle.nv_base.specs.contracts.object.ObjIdEq.TheImpl.Laws.{laws-law as numbers_equiv}
use Rattle.nv_base.specs.contracts.object.ObjIdOrd.TheImpl.Laws.{matches_partial_cmp-law, total-law as numbers_total}
use Rattle.nv_base.specs.contracts.object.ObjIdPartialOrd.TheImpl.Laws.{laws-law}
use Rattle.nv_base.specs.declared.object.ObjId.{ObjId}
use Rattle.nb_records.specs.declared.sets.Group.{Group}
use Rattle.nb_records.specs.declared.switch.Port.{Port}
use Rattle.nb_records.specs.declared.switch.Switch.{Switch}
use Rattle.nb_model.specs.Belongs.{is_among}
use Rattle.nb_model.specs.Network.{Network, same}
use Rattle.nb_model.specs.Readable.{are_apart}
use Rattle.nb_model.specs.Sound.{switch_ids}
use Rattle.nb_model.proofs.Alike.{same_sym}
use Rattle.nb_model.proofs.Lists.{same_is, same_self}
use Rattle.nb_model.proofs.RecordLists.{all_push}
use Rattle.nv_table.specs.Table.{record_of, has_number}
use Rattle.nb_store.proofs.PlacedRecords.{rises}
use Rattle.nb_limits.specs.Limitless.{IsSoundButLimits}
use Rattle.nb_limits.specs.inner.GroupSwitches.{switch_count, has_port_on}
use Rattle.nb_limits.proofs.Counted.{alone, any_or, any_same, any_of_number, holds_of, listed_count, among_last}
use Rattle.nb_limits.proofs.Rest.{same_kept}

-- a port of these numbers is on the switch
abbrev pub has_one_on : Network → List ObjId → ObjId → Bool
has_one_on net ports switch = list_any (λ port. same port.switch switch && is_among port.id ports) net.ports

-- the switches are those that have a port of these numbers
pub record AreNoted (net : Network) (ports switches : List ObjId) : Type 0 where
  pub there : IsTrue (list_all (λ n. is_among n (switch_ids net)) switches)
  pub noted : (n : ObjId) → is_among n switches ≡ has_one_on net ports n

pub none_there : (n : ObjId) (ports : List Port) → false ≡ list_any (λ (port : Port). same port.switch n && is_among port.id []) ports
none_there n [] = refl
none_there n (port ∷ ports) = none_there n ports ∙ ap (λ b. b || list_any (λ (port : Port). same port.switch n && is_among port.id []) ports) (sym (fails (same port.switch n)))
  where
    fails : (b : Bool) → (b && false) ≡ false
    fails true = refl
    fails false = refl

pub none_noted : (net : Network) → AreNoted net [] []
none_noted net = record { there = refl; noted = λ n. none_there n net.ports }

found_passes : {X : Type 0} (q p : X → Bool) (x : X) (xs : List X) → IsTrue (list_all q xs) → find p xs ≡ Some x → IsTrue (q x)
found_passes q p x [] all found = absurd (cc)
found_passes {X} q p x (y ∷ xs) all found = let parts = and_parts (q y) (list_all q xs) all in by (p y) found parts.0 (found_passes q p x xs parts.1)
  where
    by : (b : Bool) → cond b (Some y) (find p xs) ≡ Some x → IsTrue (q y) → (find p xs ≡ Some x → IsTrue (q x)) → IsTrue (q x)
    by true f here more = let own : y ≡ x = cc in subst (λ z. IsTrue (q z)) own here
    by false f here more = more f

module _ (net : Network) (limitless : IsSoundButLimits net) (ports switches : List ObjId) where
  module _ (noted : AreNoted net ports switches) (number : ObjId) where
    with_one : (n : ObjId) → has_one_on net (ports ++ number ∷ []) n ≡ (is_among n switches || holds_of (λ (port : Port). same port.switch n) (record_of (λ (port : Port). port.id) number net.ports))
    with_one n =
        any_same (λ (port : Port). same port.switch n && is_among port.id (ports ++ number ∷ [])) (λ port. (same port.switch n && is_among port.id ports) || (same port.id number && same port.switch n)) net.ports
        (λ port. ap (λ b. same port.switch n && b) (among_last port.id number ports) ∙ spread (same port.switch n) (is_among port.id ports) (same port.id number))
        ∙ any_or (λ (port : Port). same port.switch n && is_among port.id ports) (λ port. same port.id number && same port.switch n) net.ports
        ∙ ap (λ b. b || list_any (λ (port : Port). same port.id number && same port.switch n) net.ports) (sym (noted.noted n))
        ∙ ap (λ b. is_among n switches || b) (any_of_number (λ (port : Port). port.id) number (λ port. same port.switch n) net.ports (rises (λ (port : Port). port.id) net.ports limitless.numbered.order.ports))
      where
        spread : (a b c : Bool) → (a && (b || c)) ≡ ((a && b) || (c && a))
        spread true true c = refl
        spread true false true = refl
        spread true false false = refl
        spread false b true = refl
        spread false b false = refl

    pub one_noted : (port : Port) → Some port ≡ record_of (λ (port : Port). port.id) number net.ports → AreNoted net (ports ++ number ∷ []) (switches ++ port.switch ∷ [])
    one_noted port found = record {
      there = all_push (λ n. is_among n (switch_ids net)) switches port.switch noted.there
          (found_passes (λ (p : Port). is_among p.switch (switch_ids net)) (has_number (λ (p : Port). p.id) number) port net.ports limitless.refers.ports (sym found));
      noted = λ n. among_last n port.switch switches ∙ ap (λ b. is_among n switches || b) (same_sym n port.switch)
          ∙ ap (λ o. is_among n switches || holds_of (λ (p : Port). same p.switch n) o) found ∙ sym (with_one n);
    }

    pub no_more_noted : None ≡ record_of (λ (port : Port). port.id) number net.ports → AreNoted net (ports ++ number ∷ []) switches
    no_more_noted none = record {
      there = noted.there;
      noted = λ n. sym (alone (is_among n switches)) ∙ ap (λ o. is_among n switches || holds_of (λ (p : Port). same p.switch n) o) none ∙ sym (with_one n);
    }

-- Numbers in a list, and in another one of the same.

among_there : (n : ObjId) (numbers : List ObjId) → IsTrue (is_among n numbers) → Contains numbers n
among_there n numbers there = Contains-from_any {eq = (number_eq.ghosts).eq} object n numbers there

there_among : (n : ObjId) (numbers : List ObjId) → Contains numbers n → IsTrue (is_among n numbers)
there_among n numbers there = list_any-from_Contains numbers_equiv n numbers there

both_ways : (a b : Bool) → (IsTrue a → IsTrue b) → (IsTrue b → IsTrue a) → a ≡ b
both_ways true true there back = refl
both_ways true false there back = sym (there refl)
both_ways false true there back = back refl
both_ways false false there back = refl

-- what passes a test
all_among : (q : ObjId → Bool) (numbers : List ObjId) → ((n : ObjId) → IsTrue (is_among n numbers) → IsTrue (q n)) → IsTrue (list_all q numbers)
all_among q [] each = refl
all_among q (n ∷ numbers) each =
    and_from (q n) (list_all q numbers) (each n (or_left (same n n) (is_among n numbers) (same_self n))) (all_among q numbers (λ m there. each m (or_right (same m n) (is_among m numbers) there)))

among_passes : (q : ObjId → Bool) (n : ObjId) (numbers : List ObjId) → IsTrue (list_all q numbers) → IsTrue (is_among n numbers) → IsTrue (q n)
among_passes q n [] all there = absurd (false≢true there)
among_passes q n (m ∷ numbers) all there =
    let parts = and_parts (q m) (list_all q numbers) all in
    ⊎_elim (λ here. subst (λ k. IsTrue (q k)) (sym (same_is n m here)) parts.0) (λ later. among_passes q n numbers parts.1 later) (or_cases (same n m) (is_among n numbers) there)

-- the order tells no equal numbers apart
number_ties : (a b : ObjId) → (number_eq.ghosts).eq a b ≡ eq_by_cmp (number_ord.ghosts).cmp a b
number_ties = ties laws-law matches_partial_cmp-law

ordered_apart : (numbers : List ObjId) → IsStrictlySortedBy (number_ord.ghosts).cmp numbers → IsTrue (are_apart same numbers)
unfolding IsStrictlySortedBy
ordered_apart [] up = refl
ordered_apart (n ∷ numbers) up = and_from (list_all (λ m. not (same n m)) numbers) (are_apart same numbers) (differ numbers up.0) (ordered_apart numbers up.1)
  where
    other : (m : ObjId) → (number_ord.ghosts).cmp n m ≡ Less → same n m ≡ false
    other m less = number_ties n m ∙ ap is_eq less

    differ : (l : List ObjId) → AllByRecursion (λ m. (number_ord.ghosts).cmp n m ≡ Less) l → IsTrue (list_all (λ m. not (same n m)) l)
    differ [] all = refl
    differ (m ∷ l) all = and_from (not (same n m)) (list_all (λ k. not (same n k)) l) (ap not (other m all.0)) (differ l all.1)

-- sorted, and each once, they are as many as the switches
module _ (net : Network) (limitless : IsSoundButLimits net) (group : Group) (ports switches sorted : List ObjId) (noted : AreNoted net ports switches) (moved : IsPermutation switches sorted)
    (up : IsSorted (number_ord.ghosts).cmp sorted) where
  abbrev once : List ObjId
  once = dedup (number_eq.ghosts).eq sorted

  same_among : (n : ObjId) → is_among n once ≡ is_among n switches
  same_among n =
      both_ways (is_among n once) (is_among n switches)
      (λ there. there_among n switches (Contains-permutation sorted switches n (IsPermutation-sym switches sorted moved) (Contains-from_dedup (number_eq.ghosts).eq sorted n (among_there n once there))))
      (λ there. there_among n once (Contains-dedup numbers_equiv object sorted n (Contains-permutation switches sorted n moved (among_there n switches there))))

  pub noted_count : ports ≡ group.ports → length once ≡ switch_count net group
  noted_count is =
      sym (listed_count (λ (s : Switch). s.id) net.switches once (rises (λ (s : Switch). s.id) net.switches limitless.numbered.order.switches)
      (ordered_apart once (IsStrictlySortedBy-dedup numbers_total number_ties sorted up))
      (all_among (λ n. is_among n (switch_ids net)) once (λ n there. among_passes (λ m. is_among m (switch_ids net)) n switches noted.there (sym (same_among n) ∙ there))))
      ∙ ap length (same_kept (λ (s : Switch). is_among s.id once) (λ s. has_port_on net group s.id) net.switches (λ s. same_among s.id ∙ noted.noted s.id ∙ ap (λ l. has_one_on net l s.id) is))
