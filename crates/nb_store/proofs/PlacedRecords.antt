-- Records at their places: one that is found, exchanged or taken out, and a new one.
use Rattle.std.proofs.Common.{◌≡◌, ℕ, ◌<◌, ◌==◌, Bool, true, false, cond, not, ◌&&◌, List, [], ◌∷◌, ◌++◌, map, Some, None, arith, refl, sym, ap, ◌∙◌, subst, nat_lt}
use Rattle.std.proofs.lemmas.Bool.{and_parts, and_from, ltb-true, lt-ltb, le-ltb, not-true}
use Rattle.std.proofs.lemmas.Bool.Decides.{nat_tests}
use Rattle.std.proofs.lemmas.List.{map-append}
use Rattle.std.specs.Prelude.{find, filter}
use Rattle.std.specs.Bool.{IsTrue}
use Rattle.std.specs.List.{list_all, AllByRecursion}
use Rattle.std.specs.Str.{bytes_eq}
use Rattle.nv_base.specs.declared.object.ObjId.{ObjId}
use Rattle.nb_model.specs.Effect.{each_where}
use Rattle.nb_model.specs.Network.{same}
use Rattle.nb_model.specs.Readable.{are_apart}
use Rattle.nb_model.proofs.Alike.{same_names, names_sym}
use Rattle.nb_model.proofs.RecordLists.{all_as, found_holds}
pub use Rattle.nb_model.proofs.Rising.{rises}
use Rattle.nv_table.specs.Table.{NumbersRise, with_record, without_number, with_exchanged}
use Rattle.nv_table.proofs.Undone.{put_last}

pub apart_numbers : (a b : ℕ) → b < a → (a == b) ≡ false
apart_numbers a b lt = grind (arith, nat_tests, lt)

-- of all of them, one at its place
pub all_at : {R : Type 0} (P : R → Type 0) (before : List R) (x : R) (after : List R) → AllByRecursion P (before ++ x ∷ after) → P x
all_at P [] x after all = all.0
all_at P (y ∷ before) x after all = all_at P before x after all.1

-- none passes
pub none_of : {R : Type 0} (p : R → Bool) (rs : List R) → IsTrue (list_all (λ r. not (p r)) rs) → find p rs ≡ None
none_of p [] all = refl
none_of p (r ∷ rs) all =
    let parts = and_parts (not (p r)) (list_all (λ x. not (p x)) rs) all in
    ap (λ b. cond b (Some r) (find p rs)) (not-true (p r) parts.0) ∙ none_of p rs parts.1

-- where none passes, none is changed, and none goes
pub none_changed : {R : Type 0} (p : R → Bool) (change : R → R) (rs : List R) → find p rs ≡ None → each_where p change rs ≡ rs
none_changed p change [] none = refl
none_changed {R} p change (r ∷ rs) none = by (p r) none (none_changed p change rs)
  where
    by : (b : Bool) → cond b (Some r) (find p rs) ≡ None → (find p rs ≡ None → each_where p change rs ≡ rs) → cond b (change r) r ∷ each_where p change rs ≡ r ∷ rs
    by true none more = absurd (cc)
    by false none more = ap (λ l. r ∷ l) (more none)

pub none_without : {R : Type 0} (p : R → Bool) (rs : List R) → find p rs ≡ None → filter (λ r. not (p r)) rs ≡ rs
none_without p [] none = refl
none_without {R} p (r ∷ rs) none = by (p r) none (none_without p rs)
  where
    by : (b : Bool) → cond b (Some r) (find p rs) ≡ None → (find p rs ≡ None → filter (λ x. not (p x)) rs ≡ rs) → cond (not b) (r ∷ filter (λ x. not (p x)) rs) (filter (λ x. not (p x)) rs) ≡ r ∷ rs
    by true none more = absurd (cc)
    by false none more = ap (λ l. r ∷ l) (more none)

-- those before two are apart, and those after one are not it
pub apart_first : {K : Type 0} (same : K → K → Bool) (xs ys : List K) → IsTrue (are_apart same (xs ++ ys)) → IsTrue (are_apart same xs)
apart_first same [] ys apart = refl
apart_first same (x ∷ xs) ys apart =
    let parts = and_parts (list_all (λ y. not (same x y)) (xs ++ ys)) (are_apart same (xs ++ ys)) apart in
    and_from (list_all (λ y. not (same x y)) xs) (are_apart same xs) (first (λ y. not (same x y)) xs ys parts.0) (apart_first same xs ys parts.1)
  where
    first : {X : Type 0} (p : X → Bool) (xs ys : List X) → IsTrue (list_all p (xs ++ ys)) → IsTrue (list_all p xs)
    first p [] ys all = refl
    first p (x ∷ xs) ys all = let parts = and_parts (p x) (list_all p (xs ++ ys)) all in and_from (p x) (list_all p xs) parts.0 (first p xs ys parts.1)

apart_rest : {K : Type 0} (same : K → K → Bool) (before : List K) (x : K) (after : List K) → IsTrue (are_apart same (before ++ x ∷ after)) → IsTrue (list_all (λ y. not (same x y)) after)
apart_rest same [] x after apart = (and_parts (list_all (λ y. not (same x y)) after) (are_apart same after) apart).0
apart_rest same (y ∷ before) x after apart = apart_rest same before x after (and_parts (list_all (λ z. not (same y z)) (before ++ x ∷ after)) (are_apart same (before ++ x ∷ after)) apart).1

all_of_keys : {R K : Type 0} (p : K → Bool) (key : R → K) (rs : List R) → IsTrue (list_all p (map key rs)) → IsTrue (list_all (λ r. p (key r)) rs)
all_of_keys p key [] all = refl
all_of_keys p key (r ∷ rs) all =
    let parts = and_parts (p (key r)) (list_all p (map key rs)) all in and_from (p (key r)) (list_all (λ x. p (key x)) rs) parts.0 (all_of_keys p key rs parts.1)

-- none after the record of a name has its name
pub named_once : {R : Type 0} (name_of : R → List ℕ) (name : List ℕ) (before : List R) (x : R) (after : List R) → IsTrue (are_apart bytes_eq (map name_of (before ++ x ∷ after)))
    → IsTrue (bytes_eq (name_of x) name) → find (λ r. bytes_eq (name_of r) name) after ≡ None
named_once name_of name before x after apart is =
    none_of (λ r. bytes_eq (name_of r) name) after
    (subst (λ (own : List ℕ). IsTrue (list_all (λ r. not (bytes_eq (name_of r) own)) after)) (same_names (name_of x) name is)
    (all_as (λ r. not (bytes_eq (name_of x) (name_of r))) (λ r. not (bytes_eq (name_of r) (name_of x))) after (λ r other. subst (λ it. IsTrue (not it)) (names_sym (name_of x) (name_of r)) other)
    (all_of_keys (λ own. not (bytes_eq (name_of x) own)) name_of after
    (apart_rest bytes_eq (map name_of before) (name_of x) (map name_of after) (subst (λ names. IsTrue (are_apart bytes_eq names)) (map-append name_of before (x ∷ after)) apart)))))

module _ {R : Type 0} (number : R → ObjId) where
  below : (limit : ℕ) (rs : List R) → IsTrue (list_all (λ n. nat_lt 0 n.0 && nat_lt n.0 limit) (map number rs)) → AllByRecursion (λ r. (number r).0 < limit) rs
  below limit [] all = tt
  below limit (r ∷ rs) all =
      let parts = and_parts (nat_lt 0 (number r).0 && nat_lt (number r).0 limit) (list_all (λ n. nat_lt 0 n.0 && nat_lt n.0 limit) (map number rs)) all in
      (ltb-true (number r).0 limit (and_parts (nat_lt 0 (number r).0) (nat_lt (number r).0 limit) parts.0).1, below limit rs parts.1)

  none_below : (n : ObjId) (rs : List R) → AllByRecursion (λ r. (number r).0 < n.0) rs → without_number number n rs ≡ rs
  none_below n [] all = refl
  none_below n (r ∷ rs) all = ap (λ b. cond (not b) (r ∷ without_number number n rs) (without_number number n rs)) (apart_numbers n.0 (number r).0 all.0) ∙ ap (λ l. r ∷ l) (none_below n rs all.1)

  none_above : (n : ObjId) (rs : List R) → AllByRecursion (λ r. n.0 < (number r).0) rs → without_number number n rs ≡ rs
  none_above n [] all = refl
  none_above n (r ∷ rs) all =
      ap (λ b. cond (not b) (r ∷ without_number number n rs) (without_number number n rs)) (turn n.0 (number r).0 all.0) ∙ ap (λ l. r ∷ l) (none_above n rs all.1)
    where
      turn : (a b : ℕ) → a < b → (a == b) ≡ false
      turn a b lt = grind (arith, nat_tests, lt)

  -- a record of a number that none has yet goes last
  pub new_last : (r : R) (rs : List R) (next : ℕ) → (number r).0 ≡ next → IsTrue (list_all (λ n. nat_lt 0 n.0 && nat_lt n.0 next) (map number rs)) → with_exchanged number r rs ≡ rs ++ r ∷ []
  new_last r rs next is all =
      let low : AllByRecursion (λ x. (number x).0 < (number r).0) rs = subst (λ (n : ℕ). AllByRecursion (λ x. (number x).0 < n) rs) (sym is) (below next rs all) in
      ap (with_record number r) (none_below (number r) rs low) ∙ put_last number r rs low

  put_first : (r : R) (rs : List R) → AllByRecursion (λ x. (number r).0 < (number x).0) rs → with_record number r rs ≡ r ∷ rs
  put_first r [] all = refl
  put_first r (x ∷ rs) all = ap (λ b. cond b (r ∷ x ∷ rs) (x ∷ with_record number r rs)) (lt-ltb (number r).0 (number x).0 all.0)

  -- the first record that passes, those before and after it, and the records with another one in its place, and without it
  pub record IsPlaced (p : R → Bool) (x : R) (rs : List R) : Type 0 where
    pub before : List R
    pub after : List R
    pub whole : rs ≡ before ++ x ∷ after
    pub first : find p before ≡ None
    pub exchanged : (r : R) → number r ≡ number x → with_exchanged number r rs ≡ before ++ r ∷ after
    pub left : without_number number (number x) rs ≡ before ++ after

  here : (p : R → Bool) (y : R) (rs : List R) → AllByRecursion (λ z. (number y).0 < (number z).0) rs → IsPlaced p y (y ∷ rs)
  here p y rs above = record {
    before = [];
    after = rs;
    whole = refl;
    first = refl;
    exchanged = λ r e. ap (with_record number r) (dropped r e) ∙ put_first r rs (subst (λ (n : ObjId). AllByRecursion (λ z. n.0 < (number z).0) rs) (sym e) above);
    left = dropped y refl;
  }
    where
      equal : (a : ℕ) → (a == a) ≡ true
      equal a = grind (arith, nat_tests)

      dropped : (r : R) → number r ≡ number y → without_number number (number r) (y ∷ rs) ≡ rs
      dropped r e =
          ap (λ (n : ObjId). without_number number n (y ∷ rs)) e
          ∙ ap (λ b. cond (not b) (y ∷ without_number number (number y) rs) (without_number number (number y) rs)) (equal (number y).0)
          ∙ none_above (number y) rs above

  later : (p : R → Bool) (x y : R) (rs : List R) → p y ≡ false → AllByRecursion (λ z. (number y).0 < (number z).0) rs → IsPlaced p x rs → IsPlaced p x (y ∷ rs)
  later p x y rs other above place = record {
    before = y ∷ place.before;
    after = place.after;
    whole = ap (λ l. y ∷ l) place.whole;
    first = ap (λ b. cond b (Some y) (find p place.before)) other ∙ place.first;
    exchanged = λ r e. ap (with_record number r) (kept r e)
        ∙ ap (λ b. cond b (r ∷ y ∷ without_number number (number r) rs) (y ∷ with_exchanged number r rs)) (le-ltb _ _ (omega (arith, low r e)))
        ∙ ap (λ l. y ∷ l) (place.exchanged r e);
    left = kept x refl ∙ ap (λ l. y ∷ l) place.left;
  }
    where
      low : (r : R) → number r ≡ number x → (number y).0 < (number r).0
      low r e = subst (λ (n : ObjId). (number y).0 < n.0) (sym e) (all_at (λ z. (number y).0 < (number z).0) place.before x place.after (subst (AllByRecursion (λ z. (number y).0 < (number z).0)) place.whole above))

      kept : (r : R) → number r ≡ number x → without_number number (number r) (y ∷ rs) ≡ y ∷ without_number number (number r) rs
      kept r e = ap (λ b. cond (not b) (y ∷ without_number number (number r) rs) (without_number number (number r) rs)) (apart_numbers (number r).0 (number y).0 (low r e))

  pub placed : (p : R → Bool) (x : R) (rs : List R) → find p rs ≡ Some x → NumbersRise number rs → IsPlaced p x rs
  placed p x [] found rise = absurd (cc)
  placed p x (y ∷ rs) found rise = by (p y) refl found (placed p x rs)
    where
      by : (b : Bool) → p y ≡ b → cond b (Some y) (find p rs) ≡ Some x → (find p rs ≡ Some x → NumbersRise number rs → IsPlaced p x rs) → IsPlaced p x (y ∷ rs)
      by true e f more = let same : y ≡ x = cc in subst (λ z. IsPlaced p z (y ∷ rs)) same (here p y rs rise.0)
      by false e f more = later p x y rs e rise.0 (more f rise.1)

  -- the record of a name, changed
  pub named_changed : (name_of : R → List ℕ) (name : List ℕ) (change : R → R) (x : R) (rs : List R) → find (λ r. bytes_eq (name_of r) name) rs ≡ Some x → NumbersRise number rs
      → IsTrue (are_apart bytes_eq (map name_of rs)) → number (change x) ≡ number x → each_where (λ r. bytes_eq (name_of r) name) change rs ≡ with_exchanged number (change x) rs
  named_changed name_of name change x rs found rise apart keeps =
      let p = λ (r : R). bytes_eq (name_of r) name in
      let place = placed p x rs found rise in
      let is = found_holds p rs x found in
      ap (each_where p change) place.whole
      ∙ map-append (λ r. cond (p r) (change r) r) place.before (x ∷ place.after)
      ∙ ap (λ l. l ++ each_where p change (x ∷ place.after)) (none_changed p change place.before place.first)
      ∙ ap (λ b. place.before ++ cond b (change x) x ∷ each_where p change place.after) is
      ∙ ap (λ l. place.before ++ change x ∷ l) (none_changed p change place.after (named_once name_of name place.before x place.after (subst (λ l. IsTrue (are_apart bytes_eq (map name_of l))) place.whole apart) is))
      ∙ sym (place.exchanged (change x) keeps)

-- One record of a number, changed.

module _ {R : Type 0} (number : R → ObjId) where
  rest_unchanged : (n : ObjId) (change : R → R) (rs : List R) → AllByRecursion (λ r. n.0 < (number r).0) rs → each_where (λ r. same n (number r)) change rs ≡ rs
  rest_unchanged n change [] all = refl
  rest_unchanged n change (r ∷ rs) all =
      ap (λ b. cond b (change r) r ∷ each_where (λ x. same n (number x)) change rs) (turn n.0 (number r).0 all.0) ∙ ap (λ l. r ∷ l) (rest_unchanged n change rs all.1)
    where
      turn : (a b : ℕ) → a < b → (a == b) ≡ false
      turn a b lt = grind (arith, nat_tests, lt)

  one_changed : (change : R → R) (before : List R) (x : R) (after : List R) → NumbersRise number (before ++ x ∷ after)
      → each_where (λ r. same (number x) (number r)) change (before ++ x ∷ after) ≡ before ++ change x ∷ after
  one_changed change [] x after rise =
      ap (λ b. cond b (change x) x ∷ each_where (λ r. same (number x) (number r)) change after) (equal (number x).0)
      ∙ ap (λ l. change x ∷ l) (rest_unchanged (number x) change after rise.0)
    where
      equal : (a : ℕ) → (a == a) ≡ true
      equal a = grind (arith, nat_tests)
  one_changed change (y ∷ before) x after rise =
      ap (λ b. cond b (change y) y ∷ each_where (λ r. same (number x) (number r)) change (before ++ x ∷ after))
      (apart_numbers (number x).0 (number y).0 (all_at (λ r. (number y).0 < (number r).0) before x after rise.0))
      ∙ ap (λ l. y ∷ l) (one_changed change before x after rise.1)

  -- the record that is found, changed
  pub changed_at : (p : R → Bool) (change : R → R) (x : R) (rs : List R) → find p rs ≡ Some x → NumbersRise number rs → number (change x) ≡ number x
      → with_exchanged number (change x) rs ≡ each_where (λ r. same (number x) (number r)) change rs
  changed_at p change x rs found rise keeps =
      let place = placed number p x rs found rise in
      place.exchanged (change x) keeps
      ∙ sym (one_changed change place.before x place.after (subst (NumbersRise number) place.whole rise))
      ∙ ap (each_where (λ r. same (number x) (number r)) change) (sym place.whole)
