-- What the operations on lists keep: a filter, a change of each, one more.
use Rattle.std.proofs.Common.{◌≡◌, Bool, true, false, cond, not, ◌&&◌, ◌||◌, Some, None, Option, List, [], ◌∷◌, ◌++◌, map, refl, sym, subst, ◌∙◌, ◌⊎◌, inl, inr, length-append, arith}
use Rattle.std.specs.Prelude.{filter, find, is_some, length, nat_lt, if◌then◌else◌}
use Rattle.std.specs.Bool.{IsTrue}
use Rattle.std.specs.List.{list_all, list_any, AllByRecursion}
use Rattle.std.proofs.lemmas.List.Folds.{list_all-append}
use Rattle.std.proofs.lemmas.Bool.{and_parts, and_from, cases_Bool, not-true, true≢false, lt-ltb}
use Rattle.nb_model.specs.Effect.{each_where, where_there}
use Rattle.nb_model.specs.Network.{Network}
use Rattle.nb_model.specs.Readable.{are_apart}
use Rattle.nb_model.proofs.Lists.{all_kept_weaker, all_changed, all_changed_where}

-- Each of a list passes.

-- so do those that are kept
pub all_filter : {X : Type 0} (p q : X → Bool) (xs : List X) → IsTrue (list_all p xs) → IsTrue (list_all p (filter q xs))
all_filter p q xs all = all_kept_weaker p p q xs (λ x kept is. is) all

-- and both of two lists
pub all_append : {X : Type 0} (p : X → Bool) (xs ys : List X) → IsTrue (list_all p xs) → IsTrue (list_all p ys) → IsTrue (list_all p (xs ++ ys))
all_append p xs ys all more = list_all-append p xs ys ∙ and_from (list_all p xs) (list_all p ys) all more

-- and one more that passes
pub all_push : {X : Type 0} (p : X → Bool) (xs : List X) (x : X) → IsTrue (list_all p xs) → IsTrue (p x) → IsTrue (list_all p (xs ++ x ∷ []))
all_push p xs x all more = all_append p xs (x ∷ []) all (and_from (p x) true more refl)

-- and one more between two lists
pub all_between : {X : Type 0} (p : X → Bool) (xs ys : List X) (x : X) → IsTrue (list_all p (xs ++ ys)) → IsTrue (p x) → IsTrue (list_all p ((xs ++ x ∷ []) ++ ys))
all_between p [] ys x all more = and_from (p x) (list_all p ys) more all
all_between p (z ∷ xs) ys x all more =
    let parts = and_parts (p z) (list_all p (xs ++ ys)) all in
    and_from (p z) (list_all p ((xs ++ x ∷ []) ++ ys)) parts.0 (all_between p xs ys x parts.1 more)

-- and each after a change by which it still passes
pub all_map : {X : Type 0} (p : X → Bool) (change : X → X) (xs : List X) → ((x : X) → IsTrue (p x) → IsTrue (p (change x))) → IsTrue (list_all p xs) → IsTrue (list_all p (map change xs))
all_map p change xs keeps all = all_changed p p change xs keeps all

-- and where only some are changed
pub all_where : {X : Type 0} (p holds : X → Bool) (change : X → X) (xs : List X) → ((x : X) → IsTrue (p x) → IsTrue (p (change x))) → IsTrue (list_all p xs) → IsTrue (list_all p (each_where holds change xs))
all_where p holds change xs keeps all = all_changed_where p p holds change xs (λ x is. is) keeps all

-- each passes a weaker test
pub all_as : {X : Type 0} (p q : X → Bool) (xs : List X) → ((x : X) → IsTrue (p x) → IsTrue (q x)) → IsTrue (list_all p xs) → IsTrue (list_all q xs)
all_as p q [] weaker all = refl
all_as p q (x ∷ xs) weaker all =
    let parts = and_parts (p x) (list_all p xs) all in
    and_from (q x) (list_all q xs) (weaker x parts.0) (all_as p q xs weaker parts.1)

-- a test of a key
pub all_keys : {X K : Type 0} (p : K → Bool) (key : X → K) (xs : List X) → IsTrue (list_all (λ x. p (key x)) xs) → IsTrue (list_all p (map key xs))
all_keys p key [] all = refl
all_keys p key (x ∷ xs) all =
    let parts = and_parts (p (key x)) (list_all (λ z. p (key z)) xs) all in
    and_from (p (key x)) (list_all p (map key xs)) parts.0 (all_keys p key xs parts.1)

-- where nothing is found, none passes
pub none_found : {X : Type 0} (p : X → Bool) (xs : List X) → find p xs ≡ None → IsTrue (list_all (λ x. not (p x)) xs)
none_found p [] none = refl
none_found {X} p (x ∷ xs) none = by (p x) none (none_found p xs)
  where
    by : (passes : Bool) → cond passes (Some x) (find p xs) ≡ None → (find p xs ≡ None → IsTrue (list_all (λ z. not (p z)) xs)) → IsTrue (not passes && list_all (λ z. not (p z)) xs)
    by true is more = absurd (cc)
    by false is more = more is

-- No two of a list are the same.

pub apart_filter : {X : Type 0} (same : X → X → Bool) (q : X → Bool) (xs : List X) → IsTrue (are_apart same xs) → IsTrue (are_apart same (filter q xs))
apart_filter same q [] apart = refl
apart_filter {X} same q (x ∷ xs) apart =
    let parts = and_parts (list_all (λ y. not (same x y)) xs) (are_apart same xs) apart in
    by (q x) (all_filter (λ y. not (same x y)) q xs parts.0) (apart_filter same q xs parts.1)
  where
    by : (kept : Bool) → IsTrue (list_all (λ y. not (same x y)) (filter q xs)) → IsTrue (are_apart same (filter q xs)) → IsTrue (are_apart same (cond kept (x ∷ filter q xs) (filter q xs)))
    by true first more = and_from (list_all (λ y. not (same x y)) (filter q xs)) (are_apart same (filter q xs)) first more
    by false first more = more

-- one more between two lists, which is the same as none
pub apart_between : {X : Type 0} (same : X → X → Bool) (xs ys : List X) (x : X) → IsTrue (are_apart same (xs ++ ys)) → IsTrue (list_all (λ y. not (same y x)) xs) → IsTrue (list_all (λ y. not (same x y)) ys) → IsTrue (are_apart same ((xs ++ x ∷ []) ++ ys))
apart_between same [] ys x apart before after = and_from (list_all (λ y. not (same x y)) ys) (are_apart same ys) after apart
apart_between same (z ∷ xs) ys x apart before after =
    let parts = and_parts (list_all (λ y. not (same z y)) (xs ++ ys)) (are_apart same (xs ++ ys)) apart in
    let news = and_parts (not (same z x)) (list_all (λ y. not (same y x)) xs) before in
    and_from (list_all (λ y. not (same z y)) ((xs ++ x ∷ []) ++ ys)) (are_apart same ((xs ++ x ∷ []) ++ ys))
    (all_between (λ y. not (same z y)) xs ys x parts.0 news.0) (apart_between same xs ys x parts.1 news.1 after)

-- one more at the end
pub apart_push : {X : Type 0} (same : X → X → Bool) (xs : List X) (x : X) → IsTrue (are_apart same xs) → IsTrue (list_all (λ y. not (same y x)) xs) → IsTrue (are_apart same (xs ++ x ∷ []))
apart_push same [] x apart new = refl
apart_push same (y ∷ ys) x apart new =
    let parts = and_parts (list_all (λ z. not (same y z)) ys) (are_apart same ys) apart in
    let news = and_parts (not (same y x)) (list_all (λ z. not (same z x)) ys) new in
    and_from (list_all (λ z. not (same y z)) (ys ++ x ∷ [])) (are_apart same (ys ++ x ∷ [])) (all_push (λ z. not (same y z)) ys x parts.0 news.0) (apart_push same ys x parts.1 news.1)

-- Keys that are apart stay so where some elements go, from the first of two lists, and from the second.

all_keys_filter : {X K : Type 0} (p : K → Bool) (key : X → K) (q : X → Bool) (xs : List X) (ys : List K) → IsTrue (list_all p (map key xs ++ ys)) → IsTrue (list_all p (map key (filter q xs) ++ ys))
all_keys_filter p key q [] ys all = all
all_keys_filter {X} {K} p key q (x ∷ xs) ys all =
    let parts = and_parts (p (key x)) (list_all p (map key xs ++ ys)) all in
    by (q x) parts.0 (all_keys_filter p key q xs ys parts.1)
  where
    by : (kept : Bool) → IsTrue (p (key x)) → IsTrue (list_all p (map key (filter q xs) ++ ys)) → IsTrue (list_all p (map key (cond kept (x ∷ filter q xs) (filter q xs)) ++ ys))
    by true passes more = and_from (p (key x)) (list_all p (map key (filter q xs) ++ ys)) passes more
    by false passes more = more

pub apart_filter_first : {X K : Type 0} (same : K → K → Bool) (key : X → K) (q : X → Bool) (xs : List X) (ys : List K) → IsTrue (are_apart same (map key xs ++ ys)) → IsTrue (are_apart same (map key (filter q xs) ++ ys))
apart_filter_first same key q [] ys apart = apart
apart_filter_first {X} {K} same key q (x ∷ xs) ys apart =
    let parts = and_parts (list_all (λ k. not (same (key x) k)) (map key xs ++ ys)) (are_apart same (map key xs ++ ys)) apart in
    by (q x) (all_keys_filter (λ k. not (same (key x) k)) key q xs ys parts.0) (apart_filter_first same key q xs ys parts.1)
  where
    by : (kept : Bool) → IsTrue (list_all (λ k. not (same (key x) k)) (map key (filter q xs) ++ ys)) → IsTrue (are_apart same (map key (filter q xs) ++ ys))
        → IsTrue (are_apart same (map key (cond kept (x ∷ filter q xs) (filter q xs)) ++ ys))
    by true first more = and_from (list_all (λ k. not (same (key x) k)) (map key (filter q xs) ++ ys)) (are_apart same (map key (filter q xs) ++ ys)) first more
    by false first more = more

all_keys_rest : {X K : Type 0} (p : K → Bool) (key : X → K) (q : X → Bool) (xs : List K) (ys : List X) → IsTrue (list_all p (xs ++ map key ys)) → IsTrue (list_all p (xs ++ map key (filter q ys)))
all_keys_rest p key q [] [] all = all
all_keys_rest {X} {K} p key q [] (y ∷ ys) all =
    let parts = and_parts (p (key y)) (list_all p (map key ys)) all in
    by (q y) parts.0 (all_keys_rest p key q [] ys parts.1)
  where
    by : (kept : Bool) → IsTrue (p (key y)) → IsTrue (list_all p (map key (filter q ys))) → IsTrue (list_all p (map key (cond kept (y ∷ filter q ys) (filter q ys))))
    by true passes more = and_from (p (key y)) (list_all p (map key (filter q ys))) passes more
    by false passes more = more
all_keys_rest p key q (x ∷ xs) ys all =
    let parts = and_parts (p x) (list_all p (xs ++ map key ys)) all in
    and_from (p x) (list_all p (xs ++ map key (filter q ys))) parts.0 (all_keys_rest p key q xs ys parts.1)

pub apart_filter_rest : {X K : Type 0} (same : K → K → Bool) (key : X → K) (q : X → Bool) (xs : List K) (ys : List X) → IsTrue (are_apart same (xs ++ map key ys)) → IsTrue (are_apart same (xs ++ map key (filter q ys)))
apart_filter_rest same key q [] [] apart = apart
apart_filter_rest {X} {K} same key q [] (y ∷ ys) apart =
    let parts = and_parts (list_all (λ k. not (same (key y) k)) (map key ys)) (are_apart same (map key ys)) apart in
    by (q y) (all_keys_rest (λ k. not (same (key y) k)) key q [] ys parts.0) (apart_filter_rest same key q [] ys parts.1)
  where
    by : (kept : Bool) → IsTrue (list_all (λ k. not (same (key y) k)) (map key (filter q ys))) → IsTrue (are_apart same (map key (filter q ys)))
        → IsTrue (are_apart same (map key (cond kept (y ∷ filter q ys) (filter q ys))))
    by true first more = and_from (list_all (λ k. not (same (key y) k)) (map key (filter q ys))) (are_apart same (map key (filter q ys))) first more
    by false first more = more
apart_filter_rest same key q (x ∷ xs) ys apart =
    let parts = and_parts (list_all (λ k. not (same x k)) (xs ++ map key ys)) (are_apart same (xs ++ map key ys)) apart in
    and_from (list_all (λ k. not (same x k)) (xs ++ map key (filter q ys))) (are_apart same (xs ++ map key (filter q ys)))
    (all_keys_rest (λ k. not (same x k)) key q xs ys parts.0) (apart_filter_rest same key q xs ys parts.1)

-- Something of a network, whether a change is made or not.

pub if_missing : {X : Type 0} (P : Network → Type 0) (found : Option X) (there other : Network) → ((x : X) → found ≡ Some x → P there) → (found ≡ None → P other)
    → P (if is_some found then there else other)
if_missing P None there other stays made = made refl
if_missing P (Some x) there other stays made = stays x refl

-- with what is known of what was found
pub if_there : {X : Type 0} (P : Network → Type 0) (Q : Option X → Type 0) (found : Option X) (change : X → Network) (net : Network) → P net → Q found → ((x : X) → Q (Some x) → P (change x)) → P (where_there found change net)
if_there P Q None change net stays known made = stays
if_there P Q (Some x) change net stays known made = made x known

-- Of what is found, and of what no element is.

-- what is found passes what each passes
pub found_passes : {X : Type 0} (p q : X → Bool) (xs : List X) (x : X) → find q xs ≡ Some x → IsTrue (list_all p xs) → IsTrue (p x)
found_passes p q [] x found all = absurd (cc)
found_passes {X} p q (z ∷ xs) x found all =
    let parts = and_parts (p z) (list_all p xs) all in
    by (q z) found parts.0 (λ later. found_passes p q xs x later parts.1)
  where
    by : (here : Bool) → cond here (Some z) (find q xs) ≡ Some x → IsTrue (p z) → (find q xs ≡ Some x → IsTrue (p x)) → IsTrue (p x)
    by true is passes more = let same : z ≡ x = cc in subst (λ it. IsTrue (p it)) same passes
    by false is passes more = more is

-- what is found is such as it was looked for
pub found_holds : {X : Type 0} (q : X → Bool) (xs : List X) (x : X) → find q xs ≡ Some x → IsTrue (q x)
found_holds q [] x found = absurd (cc)
found_holds {X} q (z ∷ xs) x found = by (cases_Bool (q z)) (found_holds q xs x)
  where
    by : (q z ≡ true) ⊎ (q z ≡ false) → (find q xs ≡ Some x → IsTrue (q x)) → IsTrue (q x)
    by (inl is) more = let here : cond true (Some z) (find q xs) ≡ Some x = subst (λ it. cond it (Some z) (find q xs) ≡ Some x) is found in let same : z ≡ x = cc in subst (λ it. IsTrue (q it)) same is
    by (inr is) more = more (subst (λ it. cond it (Some z) (find q xs) ≡ Some x) is found)

-- where no element passes, each fails
pub none_any : {X : Type 0} (p : X → Bool) (xs : List X) → list_any p xs ≡ false → IsTrue (list_all (λ x. not (p x)) xs)
none_any p [] none = refl
none_any {X} p (x ∷ xs) none = by (p x) none (none_any p xs)
  where
    by : (passes : Bool) → (passes || list_any p xs) ≡ false → (list_any p xs ≡ false → IsTrue (list_all (λ z. not (p z)) xs)) → IsTrue (not passes && list_all (λ z. not (p z)) xs)
    by true is more = absurd (cc)
    by false is more = more is

-- each that is kept passes
pub all_kept : {X : Type 0} (q : X → Bool) (xs : List X) → IsTrue (list_all q (filter q xs))
all_kept q [] = refl
all_kept {X} q (x ∷ xs) = by (cases_Bool (q x)) (all_kept q xs)
  where
    by : (q x ≡ true) ⊎ (q x ≡ false) → IsTrue (list_all q (filter q xs)) → IsTrue (list_all q (cond (q x) (x ∷ filter q xs) (filter q xs)))
    by (inl is) more = subst (λ kept. IsTrue (list_all q (cond kept (x ∷ filter q xs) (filter q xs)))) (sym is) (and_from (q x) (list_all q (filter q xs)) is more)
    by (inr is) more = subst (λ kept. IsTrue (list_all q (cond kept (x ∷ filter q xs) (filter q xs)))) (sym is) more

-- what each key passes
all_of_keys : {X K : Type 0} (p : K → Bool) (key : X → K) (xs : List X) → IsTrue (list_all p (map key xs)) → IsTrue (list_all (λ x. p (key x)) xs)
all_of_keys p key [] all = refl
all_of_keys p key (x ∷ xs) all =
    let parts = and_parts (p (key x)) (list_all p (map key xs)) all in
    and_from (p (key x)) (list_all (λ z. p (key z)) xs) parts.0 (all_of_keys p key xs parts.1)

-- keys that are apart tell their elements apart
pub apart_by : {X K : Type 0} (same : K → K → Bool) (key : X → K) (xs : List X) → IsTrue (are_apart same (map key xs)) → IsTrue (are_apart (λ a b. same (key a) (key b)) xs)
apart_by same key [] apart = refl
apart_by same key (x ∷ xs) apart =
    let parts = and_parts (list_all (λ k. not (same (key x) k)) (map key xs)) (are_apart same (map key xs)) apart in
    and_from (list_all (λ y. not (same (key x) (key y))) xs) (are_apart (λ a b. same (key a) (key b)) xs) (all_of_keys (λ k. not (same (key x) k)) key xs parts.0) (apart_by same key xs parts.1)

-- no other is the same
none_else : {X : Type 0} (holds : X → Bool) (same : X → X → Bool) (x : X) (xs : List X) → ((y : X) → IsTrue (holds y) → IsTrue (same x y)) → IsTrue (list_all (λ y. not (same x y)) xs)
    → AllByRecursion (λ y. IsTrue (holds y) → y ≡ x) xs
none_else holds same x [] there apart = tt
none_else holds same x (y ∷ xs) there apart =
    let parts = and_parts (not (same x y)) (list_all (λ z. not (same x z)) xs) apart in
    (λ holds_y. absurd (true≢false (sym (there y holds_y) ∙ not-true (same x y) parts.0)), none_else holds same x xs there parts.1)

-- Where an element is found among those that are apart, what would be the same is that element.
pub only : {X : Type 0} (same : X → X → Bool) (q holds : X → Bool) (xs : List X) (x : X) → IsTrue (are_apart same xs) → find q xs ≡ Some x
    → ((y : X) → IsTrue (holds y) → IsTrue (same x y)) → ((y : X) → IsTrue (holds y) → IsTrue (same y x)) → AllByRecursion (λ y. IsTrue (holds y) → y ≡ x) xs
only same q holds [] x apart found there back = tt
only {X} same q holds (z ∷ xs) x apart found there back =
    let parts = and_parts (list_all (λ y. not (same z y)) xs) (are_apart same xs) apart in
    by (q z) found parts.0 (λ later. only same q holds xs x parts.1 later there back)
  where
    by : (here : Bool) → cond here (Some z) (find q xs) ≡ Some x → IsTrue (list_all (λ y. not (same z y)) xs) → (find q xs ≡ Some x → AllByRecursion (λ y. IsTrue (holds y) → y ≡ x) xs)
        → (IsTrue (holds z) → z ≡ x) × AllByRecursion (λ y. IsTrue (holds y) → y ≡ x) xs
    by true is apart more = let it : z ≡ x = cc in (λ holds_z. it, none_else holds same x xs there (subst (λ w. IsTrue (list_all (λ y. not (same w y)) xs)) it apart))
    by false is apart more = (λ holds_z. absurd (true≢false (sym (back z holds_z) ∙ not-true (same z x) (found_passes (λ y. not (same z y)) q xs x is apart))), more is)

-- A change of the one element of which something holds keeps what each passes, where that one still passes.
pub all_only : {X : Type 0} (p holds : X → Bool) (change : X → X) (xs : List X) (x : X) → AllByRecursion (λ y. IsTrue (holds y) → y ≡ x) xs → IsTrue (p (change x))
    → IsTrue (list_all p xs) → IsTrue (list_all p (each_where holds change xs))
all_only p holds change [] x one passes all = refl
all_only {X} p holds change (z ∷ xs) x one passes all =
    let parts = and_parts (p z) (list_all p xs) all in
    and_from (p (if holds z then change z else z)) (list_all p (each_where holds change xs)) (by (holds z) one.0 parts.0) (all_only p holds change xs x one.1 passes parts.1)
  where
    by : (it : Bool) → (it ≡ true → z ≡ x) → IsTrue (p z) → IsTrue (p (if it then change z else z))
    by true is stays = subst (λ w. IsTrue (p (change w))) (sym (is refl)) passes
    by false is stays = stays

-- What holds of each element, as a fact: of those that are kept, and of one more.
pub every_filter : {X : Type 0} (P : X → Type 0) (q : X → Bool) (xs : List X) → AllByRecursion P xs → AllByRecursion P (filter q xs)
every_filter P q [] all = tt
every_filter {X} P q (x ∷ xs) all = by (q x) all.0 (every_filter P q xs all.1)
  where
    by : (kept : Bool) → P x → AllByRecursion P (filter q xs) → AllByRecursion P (cond kept (x ∷ filter q xs) (filter q xs))
    by true here more = (here, more)
    by false here more = more

pub every_push : {X : Type 0} (P : X → Type 0) (xs : List X) (x : X) → AllByRecursion P xs → P x → AllByRecursion P (xs ++ x ∷ [])
every_push P [] x all more = (more, tt)
every_push P (y ∷ ys) x all more = (all.0, every_push P ys x all.1 more)

-- where not each passes, some are left of those that do not
pub some_stay : {X : Type 0} (q : X → Bool) (xs : List X) → list_all q xs ≡ false → IsTrue (nat_lt 0 (length (filter (λ x. not (q x)) xs)))
some_stay q [] fails = absurd (cc)
some_stay {X} q (x ∷ xs) fails = by (q x) fails (some_stay q xs)
  where
    by : (passes : Bool) → (passes && list_all q xs) ≡ false → (list_all q xs ≡ false → IsTrue (nat_lt 0 (length (filter (λ z. not (q z)) xs))))
        → IsTrue (nat_lt 0 (length (cond (not passes) (x ∷ filter (λ z. not (q z)) xs) (filter (λ z. not (q z)) xs))))
    by true is more = more is
    by false is more = lt-ltb 0 (length (x ∷ filter (λ z. not (q z)) xs)) (omega arith)

-- a list with one more is not empty
pub not_empty : {X : Type 0} (xs : List X) (x : X) → IsTrue (nat_lt 0 (length (xs ++ x ∷ [])))
not_empty xs x = lt-ltb 0 (length (xs ++ x ∷ [])) (omega (arith, length-append xs (x ∷ [])))
