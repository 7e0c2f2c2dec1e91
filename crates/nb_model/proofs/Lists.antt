-- Lists: what stays true of the elements that are kept, and which numbers are still there.
use Rattle.std.proofs.Common.{◌≡◌, ℕ, ◌⊎◌, inl, inr, ⊎_elim, Bool, true, false, cond, List, [], ◌∷◌, ◌++◌, map, Some, refl, sym, ap, ◌∙◌, subst}
use Rattle.std.specs.Prelude.{IsTrue, filter, find}
use Rattle.std.specs.List.{list_all}
use Rattle.std.proofs.lemmas.Bool.{and_parts, and_from, or_cases, or_left, or_right, cond_both, eqb-true, eq-eqb, false≢true}
use Rattle.std.proofs.lemmas.List.Folds.{list_all-append}
use Rattle.nv_base.specs.declared.object.ObjId.{ObjId}
use Rattle.nb_model.specs.Network.{same}
use Rattle.nb_model.specs.Belongs.{is_among}
use Rattle.nb_model.specs.Effect.{each_where}

-- one number is the same as itself, and what is the same is one number
pub same_self : (a : ObjId) → IsTrue (same a a)
same_self a = eq-eqb a.0 a.0 refl

pub same_is : (a b : ObjId) → IsTrue (same a b) → a ≡ b
same_is a b is = ap (λ (n : ℕ). record { 0 = n }) (eqb-true a.0 b.0 is)

-- what holds of each element of two lists holds of those of each
pub all_parts : {X : Type 0} (p : X → Bool) (xs ys : List X) → IsTrue (list_all p (xs ++ ys)) → IsTrue (list_all p xs) × IsTrue (list_all p ys)
all_parts p xs ys all = and_parts (list_all p xs) (list_all p ys) (sym (list_all-append p xs ys) ∙ all)

-- of the elements that are kept something weaker, where they are kept
pub all_kept_weaker : {X : Type 0} (p q keep : X → Bool) (xs : List X) → ((x : X) → IsTrue (keep x) → IsTrue (p x) → IsTrue (q x))
    → IsTrue (list_all p xs) → IsTrue (list_all q (filter keep xs))
all_kept_weaker p q keep [] weaker all = refl
all_kept_weaker p q keep (x ∷ xs) weaker all =
    let parts = and_parts (p x) (list_all p xs) all in
    let more = all_kept_weaker p q keep xs weaker parts.1 in
    cond_both (keep x) (x ∷ filter keep xs) (filter keep xs) (λ ys. IsTrue (list_all q ys))
    (λ is. and_from (q x) (list_all q (filter keep xs)) (weaker x is parts.0) more) (λ is. more)

-- of each element as it is changed
pub all_changed : {X Y : Type 0} (p : X → Bool) (q : Y → Bool) (change : X → Y) (xs : List X) → ((x : X) → IsTrue (p x) → IsTrue (q (change x)))
    → IsTrue (list_all p xs) → IsTrue (list_all q (map change xs))
all_changed p q change [] weaker all = refl
all_changed p q change (x ∷ xs) weaker all =
    let parts = and_parts (p x) (list_all p xs) all in
    and_from (q (change x)) (list_all q (map change xs)) (weaker x parts.0) (all_changed p q change xs weaker parts.1)

-- of each element, where some are changed
pub all_changed_where : {X : Type 0} (p q holds : X → Bool) (change : X → X) (xs : List X) → ((x : X) → IsTrue (p x) → IsTrue (q x))
    → ((x : X) → IsTrue (p x) → IsTrue (q (change x))) → IsTrue (list_all p xs) → IsTrue (list_all q (each_where holds change xs))
all_changed_where p q holds change xs left changed all =
    all_changed p q (λ x. cond (holds x) (change x) x) xs
    (λ x is. cond_both (holds x) (change x) x (λ y. IsTrue (q y)) (λ chosen. changed x is) (λ chosen. left x is)) all

-- a change of some that keeps what is read leaves what is read
pub map_changed_where : {X Y : Type 0} (read : X → Y) (holds : X → Bool) (change : X → X) (xs : List X) → ((x : X) → read (change x) ≡ read x)
    → map read (each_where holds change xs) ≡ map read xs
map_changed_where read holds change [] keeps = refl
map_changed_where {X} {Y} read holds change (x ∷ xs) keeps =
    let head : read (cond (holds x) (change x) x) ≡ read x = cond_both (holds x) (change x) x (λ y. read y ≡ read x) (λ is. keeps x) (λ is. refl) in
    ap (λ (y : Y). y ∷ map read (each_where holds change xs)) head ∙ ap (λ (ys : List Y). read x ∷ ys) (map_changed_where read holds change xs keeps)

-- a change of each, likewise
pub map_changed : {X Y : Type 0} (read : X → Y) (change : X → X) (xs : List X) → ((x : X) → read (change x) ≡ read x) → map read (map change xs) ≡ map read xs
map_changed read change [] keeps = refl
map_changed {X} {Y} read change (x ∷ xs) keeps =
    ap (λ (y : Y). y ∷ map read (map change xs)) (keeps x) ∙ ap (λ (ys : List Y). read x ∷ ys) (map_changed read change xs keeps)

-- a number is among those of two lists
pub among_left : (n : ObjId) (xs ys : List ObjId) → IsTrue (is_among n xs) → IsTrue (is_among n (xs ++ ys))
among_left n [] ys there = absurd (false≢true there)
among_left n (x ∷ xs) ys there =
    ⊎_elim (λ at. or_left (same n x) (is_among n (xs ++ ys)) at) (λ later. or_right (same n x) (is_among n (xs ++ ys)) (among_left n xs ys later))
    (or_cases (same n x) (is_among n xs) there)

pub among_right : (n : ObjId) (xs ys : List ObjId) → IsTrue (is_among n ys) → IsTrue (is_among n (xs ++ ys))
among_right n [] ys there = there
among_right n (x ∷ xs) ys there = or_right (same n x) (is_among n (xs ++ ys)) (among_right n xs ys there)

pub among_parts : (n : ObjId) (xs ys : List ObjId) → IsTrue (is_among n (xs ++ ys)) → IsTrue (is_among n xs) ⊎ IsTrue (is_among n ys)
among_parts n [] ys there = inr there
among_parts n (x ∷ xs) ys there =
    ⊎_elim (λ at. inl (or_left (same n x) (is_among n xs) at))
    (λ later. ⊎_elim (λ a. inl (or_right (same n x) (is_among n xs) a)) (λ b. inr b) (among_parts n xs ys later))
    (or_cases (same n x) (is_among n (xs ++ ys)) there)

-- what is found is there
pub among_found : {X : Type 0} (id : X → ObjId) (p : X → Bool) (xs : List X) (x : X) → find p xs ≡ Some x → IsTrue (is_among (id x) (map id xs))
among_found id p [] x found = cc
among_found id p (y ∷ ys) x found = by (among_found id p ys x) (p y) found
  where
    by : (find p ys ≡ Some x → IsTrue (is_among (id x) (map id ys))) → (b : Bool) → cond b (Some y) (find p ys) ≡ Some x → IsTrue (is_among (id x) (map id (y ∷ ys)))
    by more true at = let is : y ≡ x = cc in or_left (same (id x) (id y)) (is_among (id x) (map id ys)) (subst (λ z. IsTrue (same (id x) (id z))) (sym is) (same_self (id x)))
    by more false at = or_right (same (id x) (id y)) (is_among (id x) (map id ys)) (more at)
