-- Records of one list that are looked at one by one, by rising number, some of which go.
use Rattle.std.proofs.Common.{◌≡◌, ℕ, ◌+◌, ◌<◌, ◌≤◌, Bool, true, false, cond, not, ◌&&◌, ◌||◌, nat_lt, List, [], ◌∷◌, ◌++◌, Option, Some, None, arith, refl, sym, ap, ◌∙◌, subst, length}
use Rattle.std.proofs.lemmas.Bool.{and_parts, and_from, or_left, or_right, lt-ltb}
use Rattle.std.proofs.lemmas.Bool.Decides.{nat_tests}
use Rattle.std.proofs.lemmas.List.{length-append}
use Rattle.std.specs.Prelude.{find}
use Rattle.std.specs.Bool.{IsTrue}
use Rattle.std.specs.List.{list_all, AllByRecursion}
use Rattle.nv_base.specs.declared.object.ObjId.{ObjId}
use Rattle.nb_model.specs.Effect.{without}
use Rattle.nb_model.specs.Network.{Network, same}
use Rattle.nb_model.proofs.RecordLists.{all_append, none_found, found_holds}
use Rattle.nv_table.specs.Table.{NumbersRise, without_number, is_after}
use Rattle.nv_table.proofs.Undone.{rise_without}
use Rattle.nb_store.proofs.PlacedRecords.{IsPlaced, placed, none_of, none_without}
use Rattle.nb_change.specs.inner.Kinds.{IsList}
use Rattle.nb_change.proofs.Goes.{passing_goes, without_both}

both_all : {X : Type 0} (f g h : X → Bool) (xs : List X) → ((x : X) → IsTrue (f x) → IsTrue (g x) → IsTrue (h x)) → IsTrue (list_all f xs) → IsTrue (list_all g xs) → IsTrue (list_all h xs)
both_all f g h [] each first second = refl
both_all f g h (x ∷ xs) each first second =
    let a = and_parts (f x) (list_all f xs) first in
    let b = and_parts (g x) (list_all g xs) second in
    and_from (h x) (list_all h xs) (each x a.0 b.0) (both_all f g h xs each a.1 b.1)

fewer : {X : Type 0} (c d : X → Bool) (xs : List X) → ((x : X) → IsTrue (c x) → IsTrue (d x)) → length (without d xs) ≤ length (without c xs)
fewer c d [] weaker = omega arith
fewer {X} c d (x ∷ xs) weaker = by (c x) (d x) (weaker x) (fewer c d xs weaker)
  where
    by : (a b : Bool) → (IsTrue a → IsTrue b) → length (without d xs) ≤ length (without c xs) → length (cond (not b) (x ∷ without d xs) (without d xs)) ≤ length (cond (not a) (x ∷ without c xs) (without c xs))
    by true true w more = more
    by true false w more = let no = w refl in absurd (cc)
    by false true w more = omega (arith, more)
    by false false w more = omega (arith, more)

module _ {R : Type 0} (number : R → ObjId) where
  -- the ones that pass stand after the number that was looked at last
  abbrev pub passed : (R → Bool) → Option ObjId → R → Bool
  passed p after r = is_after after (number r) || not (p r)

  -- those that are still to be looked at
  abbrev pub to_see : Option ObjId → List R → List R
  to_see after rs = without (λ r. not (is_after after (number r))) rs

  after_it : (before : List R) (x : R) (after : List R) → NumbersRise number (before ++ x ∷ after) → AllByRecursion (λ r. (number x).0 < (number r).0) after
  after_it [] x after rise = rise.0
  after_it (y ∷ before) x after rise = after_it before x after rise.1

  all_passed : (p : R → Bool) (n : ObjId) (rs : List R) → AllByRecursion (λ r. n.0 < (number r).0) rs → IsTrue (list_all (passed p (Some n)) rs)
  all_passed p n [] all = refl
  all_passed p n (r ∷ rs) all =
      and_from (passed p (Some n) r) (list_all (passed p (Some n)) rs) (or_left (nat_lt n.0 (number r).0) (not (p r)) (lt-ltb n.0 (number r).0 all.0)) (all_passed p n rs all.1)

  fails : (a b c : Bool) → (IsTrue c → IsTrue b) → IsTrue (not (a && b)) → IsTrue (a || not c) → IsTrue (not c)
  fails a b false w e f = refl
  fails true true true w e f = e
  fails true false true w e f = w refl
  fails false b true w e f = f

  below : (a b c : ℕ) → a < b → b < c → IsTrue (nat_lt a c)
  below a b c e f = lt-ltb a c (omega (arith, e, f))

  not_self : (a : ℕ) → nat_lt a a ≡ false
  not_self a = grind (arith, nat_tests)

  module _ (p q : R → Bool) (weaker : (r : R) → IsTrue (p r) → IsTrue (q r)) (after : Option ObjId) (rs : List R) (done : IsTrue (list_all (passed p after) rs)) where
    -- none is left to be looked at
    pub none_left : None ≡ find (λ r. is_after after (number r) && q r) rs → without p rs ≡ rs
    none_left none =
        none_without p rs (none_of p rs (both_all (λ r. not (is_after after (number r) && q r)) (passed p after) (λ r. not (p r)) rs (λ r. fails (is_after after (number r)) (q r) (p r) (weaker r)) (none_found (λ r. is_after after (number r) && q r) rs (sym none)) done))

    module _ (x : R) (found : Some x ≡ find (λ r. is_after after (number r) && q r) rs) (rise : NumbersRise number rs) where
      place : IsPlaced number (λ r. is_after after (number r) && q r) x rs
      place = placed number (λ r. is_after after (number r) && q r) x rs (sym found) rise

      first_done : IsTrue (list_all (passed p (Some (number x))) place.before)
      first_done = both_all (λ r. not (is_after after (number r) && q r)) (passed p after) (passed p (Some (number x))) place.before
          (λ r e f. or_right (nat_lt (number x).0 (number r).0) (not (p r)) (fails (is_after after (number r)) (q r) (p r) (weaker r) e f))
          (none_found (λ r. is_after after (number r) && q r) place.before place.first)
          (first_part place.before (x ∷ place.after) (subst (λ l. IsTrue (list_all (passed p after) l)) place.whole done))
        where
          first_part : (xs ys : List R) → IsTrue (list_all (passed p after) (xs ++ ys)) → IsTrue (list_all (passed p after) xs)
          first_part [] ys all = refl
          first_part (z ∷ xs) ys all = let parts = and_parts (passed p after z) (list_all (passed p after) (xs ++ ys)) all in and_from (passed p after z) (list_all (passed p after) xs) parts.0 (first_part xs ys parts.1)

      last_done : IsTrue (list_all (passed p (Some (number x))) place.after)
      last_done = all_passed p (number x) place.after (after_it place.before x place.after (subst (NumbersRise number) place.whole rise))

      abbrev next_list : Bool → List R
      next_list goes = cond goes (without_number number (number x) rs) rs

      pub next_done : (goes : Bool) → p x ≡ goes → IsTrue (list_all (passed p (Some (number x))) (next_list goes))
      next_done true is = subst (λ l. IsTrue (list_all (passed p (Some (number x))) l)) (sym place.left) (all_append (passed p (Some (number x))) place.before place.after first_done last_done)
      next_done false is = subst (λ l. IsTrue (list_all (passed p (Some (number x))) l)) (sym place.whole)
          (all_append (passed p (Some (number x))) place.before (x ∷ place.after) first_done
          (and_from (passed p (Some (number x)) x) (list_all (passed p (Some (number x))) place.after) (or_right (nat_lt (number x).0 (number x).0) (not (p x)) (ap not is)) last_done))

      pub next_rise : (goes : Bool) → NumbersRise number (next_list goes)
      next_rise true = rise_without number (number x) rs rise
      next_rise false = rise

      pub next_same : (goes : Bool) → p x ≡ goes → without p (next_list goes) ≡ without p rs
      next_same true is = ap (without p) place.left ∙ sym (passing_goes p place.before x place.after is) ∙ ap (without p) (sym place.whole)
      next_same false is = refl

      is_next : IsTrue (is_after after (number x))
      is_next = (and_parts (is_after after (number x)) (q x) (found_holds (λ r. is_after after (number r) && q r) rs x (sym found))).0

      seen : (r : R) → IsTrue (not (is_after after (number r))) → IsTrue (not (nat_lt (number x).0 (number r).0))
      seen r e = by after is_next e
        where
          by : (low : Option ObjId) → IsTrue (is_after low (number x)) → IsTrue (not (is_after low (number r))) → IsTrue (not (nat_lt (number x).0 (number r).0))
          by None i f = absurd (cc)
          by (Some low) i f = grind (arith, nat_tests, i, f)

      fewer_left : length (to_see (Some (number x)) (place.before ++ place.after)) < length (to_see after rs)
      fewer_left =
          let c = λ (r : R). not (is_after after (number r)) in
          let d = λ (r : R). not (nat_lt (number x).0 (number r).0) in
          let less = fewer c d (place.before ++ place.after) seen in
          let both : length (without c (place.before ++ place.after)) ≡ length (without c place.before) + length (without c place.after) = ap length (without_both c place.before place.after) ∙ length-append (without c place.before) (without c place.after) in
          let whole : length (without c rs) ≡ length (without c place.before) + length (x ∷ without c place.after) =
          ap (λ l. length (without c l)) place.whole ∙ ap length (without_both c place.before (x ∷ place.after)) ∙ ap (λ b. length (without c place.before ++ cond (not (not b)) (x ∷ without c place.after) (without c place.after))) is_next
          ∙ length-append (without c place.before) (x ∷ without c place.after) in
          let more : length (x ∷ without c place.after) ≡ length (without c place.after) + 1 = omega arith in
          omega (arith, less, both, whole, more)

      pub next_smaller : (goes : Bool) → length (to_see (Some (number x)) (next_list goes)) < length (to_see after rs)
      next_smaller true = subst (λ l. length (to_see (Some (number x)) l) < length (to_see after rs)) (sym place.left) fewer_left
      next_smaller false =
          let same : to_see (Some (number x)) rs ≡ to_see (Some (number x)) (place.before ++ place.after) =
          ap (to_see (Some (number x))) place.whole ∙ passing_goes (λ (r : R). not (nat_lt (number x).0 (number r).0)) place.before x place.after (ap not (not_self (number x).0)) in
          subst (λ (l : List R). length l < length (to_see after rs)) (sym same) fewer_left

  -- at the beginning none has been looked at
  pub none_seen : (p : R → Bool) (rs : List R) → IsTrue (list_all (passed p None) rs)
  none_seen p [] = refl
  none_seen p (r ∷ rs) = none_seen p rs

-- The same of a network: of the records of an owner those go of which a test holds.

-- a record was looked at, and is gone if it was to go
pub record IsSeen {R : Type 0} (list : Network → List R) (with_list : List R → Network → Network) (number : R → ObjId) (p : R → Bool) (after : Option ObjId) (net now : Network) (n : ObjId) : Type 0 where
  pub done : IsTrue (list_all (passed number p (Some n)) (list now))
  pub rise : NumbersRise number (list now)
  pub same : with_list (without p (list now)) now ≡ with_list (without p (list net)) net
  pub smaller : length (to_see number (Some n) (list now)) < length (to_see number after (list net))

module _ {R : Type 0} (list : Network → List R) (with_list : List R → Network → Network) (part : IsList list with_list) (number owner_of : R → ObjId) (owner : ObjId) (holds : R → Bool)
    (after : Option ObjId) (net : Network) where
  abbrev owned : R → Bool
  owned r = same owner (owner_of r)

  abbrev goes : R → Bool
  goes r = owned r && holds r

  weaker : (r : R) → IsTrue (goes r) → IsTrue (owned r)
  weaker r it = (and_parts (owned r) (holds r) it).0

  module _ (done : IsTrue (list_all (passed number goes after) (list net))) where
    pub all_seen : None ≡ find (λ r. is_after after (number r) && owned r) (list net) → net ≡ with_list (without goes (list net)) net
    all_seen none = sym (ap (λ (l : List R). with_list l net) (none_left number goes owned weaker after (list net) done none) ∙ part.same net)

    module _ (now : Network) (x : R) (found : Some x ≡ find (λ r. is_after after (number r) && owned r) (list net)) (rise : NumbersRise number (list net)) (b : Bool) (b_is : b ≡ holds x) where
      it_goes : goes x ≡ b
      it_goes = ap (λ c. c && holds x) (and_parts (is_after after (number x)) (owned x) (found_holds (λ r. is_after after (number r) && owned r) (list net) x (sym found))).1 ∙ sym b_is

      own_seen : now ≡ cond b (with_list (without_number number (number x) (list net)) net) net → IsSeen list with_list number goes after net now (number x)
      own_seen now_is = record {
        done = subst (λ l. IsTrue (list_all (passed number goes (Some (number x))) l)) (sym seen_list) (next_done number goes owned weaker after (list net) done x found rise b it_goes);
        rise = subst (NumbersRise number) (sym seen_list) (next_rise number goes owned weaker after (list net) done x found rise b);
        same = ap (λ (it : Network). with_list (without goes (list now)) it) now_is
            ∙ by_again b (without goes (list now))
            ∙ ap (λ (l : List R). with_list l net) (ap (without goes) seen_list ∙ next_same number goes owned weaker after (list net) done x found rise b it_goes);
        smaller = subst (λ (l : List R). length (to_see number (Some (number x)) l) < length (to_see number after (list net))) (sym seen_list) (next_smaller number goes owned weaker after (list net) done x found rise b);
      }
        where
          by_read : (c : Bool) → list (cond c (with_list (without_number number (number x) (list net)) net) net) ≡ cond c (without_number number (number x) (list net)) (list net)
          by_read true = part.read _ net
          by_read false = refl

          seen_list : list now ≡ cond b (without_number number (number x) (list net)) (list net)
          seen_list = ap list now_is ∙ by_read b

          by_again : (c : Bool) (l : List R) → with_list l (cond c (with_list (without_number number (number x) (list net)) net) net) ≡ with_list l net
          by_again true l = part.again l _ net
          by_again false l = refl

      pub looked_at : (n : ObjId) → n ≡ number x → now ≡ cond b (with_list (without_number number n (list net)) net) net → IsSeen list with_list number goes after net now n
      looked_at n is now_is =
          subst (λ (m : ObjId). IsSeen list with_list number goes after net now m) (sym is)
          (own_seen (now_is ∙ ap (λ (m : ObjId). cond b (with_list (without_number number m (list net)) net) net) is))
