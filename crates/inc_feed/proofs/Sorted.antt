-- Keys in order, each once.
use Rattle.std.proofs.Common.{◌≡◌, ℕ, zero, suc, ◌<◌, Bool, true, false, List, [], ◌∷◌, length, take, get_or, arith, refl, sym}
use Rattle.std.proofs.lemmas.List.Folds.{Any-from_list_any, list_any-from_Any}
use Rattle.std.proofs.lemmas.List.Kept.{Contains-dedup, Contains-from_dedup}
use Rattle.std.specs.Cmp.{IsEquivalence}
use Rattle.std.specs.List.{AllByRecursion, Contains, dedup, list_any}
use Rattle.std.specs.List.Sorted.{IsStrictlySortedBy}
use Rattle.std.specs.declared.cmp.Ordering.{Ordering}
use Rattle.std.specs.declared.cmp.Ordering.TheVariants.{Less}

-- what holds of each holds of the one at a place
at_place : {K : Type 0} (P : K → Type 0) (xs : List K) (i : ℕ) (q : K) → AllByRecursion P xs → i < length xs → q ≡ get_or xs i q → P q
at_place P [] i q a within e = absurd (omega (arith, within))
at_place P (x ∷ xs) zero q a within e = rw e a.0
at_place P (x ∷ xs) (suc i) q a within e = at_place P xs i q a.1 (omega (arith, within)) e

-- the keys before a place are below the one there
pub below_place : {K : Type 0} (cmp : K → K → Ordering) (xs : List K) (i : ℕ) (q : K) → IsStrictlySortedBy cmp xs → i < length xs → q ≡ get_or xs i q → AllByRecursion (λ y. cmp y q ≡ Less) (take i xs)
unfolding IsStrictlySortedBy
below_place cmp [] i q s within e = absurd (omega (arith, within))
below_place cmp (x ∷ xs) zero q s within e = tt
below_place cmp (x ∷ xs) (suc i) q s within e = (at_place (λ y. cmp x y ≡ Less) xs i q s.0 (omega (arith, within)) e, below_place cmp xs i q s.1 (omega (arith, within)) e)

agree : (a b : Bool) → (a ≡ true → b ≡ true) → (b ≡ true → a ≡ true) → a ≡ b
agree true b f g = sym (f refl)
agree false true f g = g refl
agree false false f g = refl

any_through : {X : Type 0} (p : X → Bool) (xs ys : List X) → ((x : X) → Contains xs x → Contains ys x) → list_any p xs ≡ true → list_any p ys ≡ true
any_through p xs ys inside t =
    let a = Any-from_list_any p xs t in
    let c = inside a.1 (a.0, a.2, a.3) in
    list_any-from_Any p ys (c.0, a.1, c.1, c.2, a.4)

-- a list that has each of its elements once passes the tests that it passed
pub any_dedup : {X : Type 0} {E : X → X → Bool} (e : IsEquivalence E) → ((x y : X) → E x y ≡ true → x ≡ y) → (p : X → Bool) (xs : List X) → list_any p (dedup E xs) ≡ list_any p xs
any_dedup {X} {E} e exact p xs = agree (list_any p (dedup E xs)) (list_any p xs) (any_through p (dedup E xs) xs (Contains-from_dedup E xs)) (any_through p xs (dedup E xs) (Contains-dedup e exact xs))
