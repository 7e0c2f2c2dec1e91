-- Records that go, and one that alone passes a test.
use Rattle.std.proofs.Common.{◌≡◌, ◌++◌, ◌<◌, ◌&&◌, ◌||◌, Bool, true, false, cond, not, List, [], ◌∷◌, Some, None, refl, sym, ap, ◌∙◌, subst}
use Rattle.std.proofs.lemmas.Bool.{and_parts}
use Rattle.std.specs.Prelude.{find}
use Rattle.std.specs.Bool.{IsTrue}
use Rattle.std.specs.List.{list_all}
use Rattle.nv_base.specs.declared.object.ObjId.{ObjId}
use Rattle.nb_model.specs.Effect.{without}
use Rattle.nb_model.specs.Readable.{are_apart}
use Rattle.nb_model.proofs.RecordLists.{all_as, every_filter, found_holds}
use Rattle.nv_table.specs.Table.{NumbersRise, without_number}
use Rattle.nb_store.proofs.AclLikes.{none_narrow, found_narrow}
use Rattle.nb_store.proofs.PlacedRecords.{placed, none_of, none_without}

pub and_true : (b : Bool) → b ≡ (b && true)
and_true true = refl
and_true false = refl

apart_rest : {K : Type 0} (same : K → K → Bool) (before : List K) (x : K) (after : List K) → IsTrue (are_apart same (before ++ x ∷ after)) → IsTrue (list_all (λ y. not (same x y)) after)
apart_rest same [] x after apart = (and_parts (list_all (λ y. not (same x y)) after) (are_apart same after) apart).0
apart_rest same (y ∷ before) x after apart = apart_rest same before x after (and_parts (list_all (λ z. not (same y z)) (before ++ x ∷ after)) (are_apart same (before ++ x ∷ after)) apart).1

-- those that do not pass, of two lists
pub without_both : {R : Type 0} (p : R → Bool) (xs ys : List R) → without p (xs ++ ys) ≡ without p xs ++ without p ys
without_both p [] ys = refl
without_both {R} p (x ∷ xs) ys = by (p x) (without_both p xs ys)
  where
    by : (b : Bool) → without p (xs ++ ys) ≡ without p xs ++ without p ys → cond (not b) (x ∷ without p (xs ++ ys)) (without p (xs ++ ys)) ≡ cond (not b) (x ∷ without p xs) (without p xs) ++ without p ys
    by true more = more
    by false more = ap (λ l. x ∷ l) more

-- a record that passes goes with all that pass
pub passing_goes : {R : Type 0} (p : R → Bool) (before : List R) (x : R) (after : List R) → IsTrue (p x) → without p (before ++ x ∷ after) ≡ without p (before ++ after)
passing_goes p before x after is =
    without_both p before (x ∷ after)
    ∙ ap (λ b. without p before ++ cond (not b) (x ∷ without p after) (without p after)) is
    ∙ sym (without_both p before after)

-- Where two that pass would be the same, and no two are, the one that is found alone goes.
pub alone_goes : {R : Type 0} (number : R → ObjId) (p : R → Bool) (same : R → R → Bool) (x : R) (rs : List R) → find p rs ≡ Some x → NumbersRise number rs
    → ((a b : R) → IsTrue (p a) → IsTrue (p b) → IsTrue (same a b)) → IsTrue (are_apart same rs) → without_number number (number x) rs ≡ without p rs
alone_goes {R} number p same x rs found rise agree apart =
    let place = placed number p x rs found rise in
    let is = found_holds p rs x found in
    let rest : find p place.after ≡ None = none_of p place.after (all_as (λ y. not (same x y)) (λ y. not (p y)) place.after (λ y. fails y (p y) refl is) (apart_rest same place.before x place.after (subst (λ l. IsTrue (are_apart same l)) place.whole apart))) in
    place.left
    ∙ sym (ap (λ l. l ++ place.after) (none_without p place.before place.first))
    ∙ sym (ap (λ l. without p place.before ++ l) (none_without p place.after rest))
    ∙ sym (without_both p place.before place.after)
    ∙ sym (passing_goes p place.before x place.after is)
    ∙ sym (ap (without p) place.whole)
  where
    fails : (y : R) (b : Bool) → p y ≡ b → IsTrue (p x) → IsTrue (not (same x y)) → IsTrue (not b)
    fails y false e is other = refl
    fails y true e is other = let one = agree x y is e in absurd (cc)

-- The one record that is found, if it is to go. Those that go are among those that are like it, and of these there is one.
module _ {R : Type 0} (number : R → ObjId) (like goes : R → Bool) (same : R → R → Bool) (narrow : (r : R) → IsTrue (goes r) → IsTrue (like r)) (agree : (a b : R) → IsTrue (like a) → IsTrue (like b) → IsTrue (same a b)) where
  pub none_like : (rs : List R) → None ≡ find like rs → rs ≡ without goes rs
  none_like rs none = sym (none_without goes rs (none_narrow like goes narrow rs (sym none)))

  module _ (x : R) (rs : List R) (found : Some x ≡ find like rs) (rise : NumbersRise number rs) (apart : IsTrue (are_apart same rs)) where
    pub it_goes : goes x ≡ true → without_number number (number x) rs ≡ without goes rs
    it_goes is = alone_goes number goes same x rs (found_narrow like goes narrow x rs (sym found) is) rise (λ a b e f. agree a b (narrow a e) (narrow b f)) apart

    pub it_stays : goes x ≡ false → rs ≡ without goes rs
    it_stays other =
        let place = placed number like x rs (sym found) rise in
        let is = found_holds like rs x (sym found) in
        let rest : find like place.after ≡ None = none_of like place.after (all_as (λ y. not (same x y)) (λ y. not (like y)) place.after (λ y. fails y (like y) refl is) (apart_rest same place.before x place.after (subst (λ l. IsTrue (are_apart same l)) place.whole apart))) in
        sym (ap (without goes) place.whole
        ∙ without_both goes place.before (x ∷ place.after)
        ∙ ap (λ l. l ++ without goes (x ∷ place.after)) (none_without goes place.before (none_narrow like goes narrow place.before place.first))
        ∙ ap (λ b. place.before ++ cond (not b) (x ∷ without goes place.after) (without goes place.after)) other
        ∙ ap (λ l. place.before ++ x ∷ l) (none_without goes place.after (none_narrow like goes narrow place.after rest))
        ∙ sym place.whole)
      where
        fails : (y : R) (b : Bool) → like y ≡ b → IsTrue (like x) → IsTrue (not (same x y)) → IsTrue (not b)
        fails y false e is other = refl
        fails y true e is other = let one = agree x y is e in absurd (cc)

    -- whichever it is
    pub it_goes_if : (b : Bool) → goes x ≡ b → cond b (without_number number (number x) rs) rs ≡ without goes rs
    it_goes_if true is = it_goes is
    it_goes_if false is = it_stays is

-- those that pass one test or the other go, one after the other
pub both_go : {R : Type 0} (p q either : R → Bool) → ((r : R) → (p r || q r) ≡ either r) → (rs : List R) → without q (without p rs) ≡ without either rs
both_go p q either is [] = refl
both_go {R} p q either is (r ∷ rs) = by (p r) (either r) (is r) (both_go p q either is rs)
  where
    by : (a e : Bool) → (a || q r) ≡ e → without q (without p rs) ≡ without either rs → without q (cond (not a) (r ∷ without p rs) (without p rs)) ≡ cond (not e) (r ∷ without either rs) (without either rs)
    by true e same more = more ∙ ap (λ b. cond (not b) (r ∷ without either rs) (without either rs)) same
    by false e same more = ap (λ b. cond (not b) (r ∷ without q (without p rs)) (without q (without p rs))) same ∙ ap (λ l. cond (not e) (r ∷ l) l) more

-- numbers still rise where records went
pub rise_left : {R : Type 0} (number : R → ObjId) (p : R → Bool) (rs : List R) → NumbersRise number rs → NumbersRise number (without p rs)
rise_left number p [] rise = tt
rise_left {R} number p (r ∷ rs) rise = by (p r) (rise_left number p rs rise.1)
  where
    by : (b : Bool) → NumbersRise number (without p rs) → NumbersRise number (cond (not b) (r ∷ without p rs) (without p rs))
    by true more = more
    by false more = (every_filter (λ x. (number r).0 < (number x).0) (λ x. not (p x)) rs rise.0, more)

-- the test that nothing passes
pub none_goes : {R : Type 0} (rs : List R) → without (λ r. false) rs ≡ rs
none_goes [] = refl
none_goes (r ∷ rs) = ap (λ l. r ∷ l) (none_goes rs)

-- the second of two lists is apart where both are
pub apart_last : {K : Type 0} (same : K → K → Bool) (xs ys : List K) → IsTrue (are_apart same (xs ++ ys)) → IsTrue (are_apart same ys)
apart_last same [] ys apart = apart
apart_last same (x ∷ xs) ys apart = apart_last same xs ys (and_parts (list_all (λ y. not (same x y)) (xs ++ ys)) (are_apart same (xs ++ ys)) apart).1
