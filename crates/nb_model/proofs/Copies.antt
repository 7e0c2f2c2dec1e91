-- How often a number stands in a list, which tells whether its numbers are apart.
use Rattle.std.proofs.Common.{◌≡◌, ℕ, ◌+◌, ◌≤◌, Bool, true, false, not, cond, eqb, List, [], ◌∷◌, ◌++◌, map, refl, sym, subst, arith}
use Rattle.std.specs.Prelude.{IsTrue, filter}
use Rattle.std.specs.List.{list_all}
use Rattle.std.proofs.lemmas.Bool.{and_parts, and_from, cond_both, eqb-true, eq-eqb, not_from_false, not-true}
use Rattle.nv_base.specs.declared.object.ObjId.{ObjId}
use Rattle.nb_model.specs.Network.{same}
use Rattle.nb_model.specs.Readable.{are_apart}

-- how often a number stands in a list
abbrev pub copies : ℕ → List ObjId → ℕ
copies n [] = 0
copies n (x ∷ xs) = cond (eqb n x.0) 1 0 + copies n xs

pub copies_append : (n : ℕ) (xs ys : List ObjId) → copies n (xs ++ ys) ≡ copies n xs + copies n ys
copies_append n [] ys = omega arith
copies_append n (x ∷ xs) ys = omega (arith, copies_append n xs ys)

-- those that are kept are no more than there were
pub copies_kept : {X : Type 0} (id : X → ObjId) (keep : X → Bool) (n : ℕ) (xs : List X) → copies n (map id (filter keep xs)) ≤ copies n (map id xs)
copies_kept id keep n [] = omega arith
copies_kept id keep n (x ∷ xs) =
    let more : copies n (map id (filter keep xs)) ≤ copies n (map id xs) = copies_kept id keep n xs in
    cond_both (keep x) (x ∷ filter keep xs) (filter keep xs) (λ ys. copies n (map id ys) ≤ cond (eqb n (id x).0) 1 0 + copies n (map id xs))
    (λ is. omega arith) (λ is. omega arith)

-- a number from which all differ is not there
pub no_copies : (x : ObjId) (xs : List ObjId) → IsTrue (list_all (λ y. not (same x y)) xs) → copies x.0 xs ≡ 0
no_copies x [] all = refl
no_copies x (y ∷ ys) all =
    let parts = and_parts (not (same x y)) (list_all (λ z. not (same x z)) ys) all in
    let differs : eqb x.0 y.0 ≡ false = not-true (eqb x.0 y.0) parts.0 in
    let more : copies x.0 ys ≡ 0 = no_copies x ys parts.1 in
    rw differs (omega arith)

pub all_differ : (x : ObjId) (xs : List ObjId) → copies x.0 xs ≡ 0 → IsTrue (list_all (λ y. not (same x y)) xs)
all_differ x [] none = refl
all_differ x (y ∷ ys) none =
    let by = differs (eqb x.0 y.0) (copies x.0 ys) none in
    and_from (not (same x y)) (list_all (λ z. not (same x z)) ys) (not_from_false (eqb x.0 y.0) by.0) (all_differ x ys by.1)
  where
    differs : (b : Bool) (more : ℕ) → cond b 1 0 + more ≡ 0 → (b ≡ false) × (more ≡ 0)
    differs true more is = absurd (omega arith)
    differs false more is = (refl, omega arith)

-- numbers that are apart stand once
pub copies_apart : (xs : List ObjId) → IsTrue (are_apart same xs) → (n : ℕ) → copies n xs ≤ 1
copies_apart [] apart n = omega arith
copies_apart (x ∷ xs) apart n =
    let parts = and_parts (list_all (λ y. not (same x y)) xs) (are_apart same xs) apart in
    by (eqb n x.0) refl (copies_apart xs parts.1 n) (no_copies x xs parts.0)
  where
    by : (b : Bool) → eqb n x.0 ≡ b → copies n xs ≤ 1 → copies x.0 xs ≡ 0 → cond b 1 0 + copies n xs ≤ 1
    by true is once none = let at : n ≡ x.0 = eqb-true n x.0 is in let here : copies n xs ≡ 0 = subst (λ m. copies m xs ≡ 0) (sym at) none in omega arith
    by false is once none = omega arith

-- and numbers that stand once are apart
pub apart_copies : (xs : List ObjId) → ((n : ℕ) → copies n xs ≤ 1) → IsTrue (are_apart same xs)
apart_copies [] once = refl
apart_copies (x ∷ xs) once =
    and_from (list_all (λ y. not (same x y)) xs) (are_apart same xs) (all_differ x xs (first (once x.0) (eq-eqb x.0 x.0 refl)))
    (apart_copies xs (λ n. later n (eqb n x.0) (once n)))
  where
    first : cond (eqb x.0 x.0) 1 0 + copies x.0 xs ≤ 1 → eqb x.0 x.0 ≡ true → copies x.0 xs ≡ 0
    first is one = let at : 1 + copies x.0 xs ≤ 1 = subst (λ b. cond b 1 0 + copies x.0 xs ≤ 1) one is in omega arith

    later : (n : ℕ) (b : Bool) → cond b 1 0 + copies n xs ≤ 1 → copies n xs ≤ 1
    later n true is = omega arith
    later n false is = omega arith
