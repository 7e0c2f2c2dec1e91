-- Sums of sums, and sums over some of a list.
use Rattle.std.proofs.Common.{◌≡◌, ℕ, ◌+◌, ◌*◌, Bool, true, false, cond, List, [], ◌∷◌, arith, refl, sym, ap, ◌∙◌}
use Rattle.std.specs.Prelude.{filter}
use Rattle.nb_model.specs.Amounts.{total}
use Rattle.nb_model.proofs.Totals.{total_cons}

pub total_same : {X : Type 0} (f g : X → ℕ) (xs : List X) → ((x : X) → f x ≡ g x) → total f xs ≡ total g xs
total_same f g [] same = refl
total_same f g (x ∷ xs) same = total_cons f x xs ∙ ap (λ n. n + total f xs) (same x) ∙ ap (λ n. g x + n) (total_same f g xs same) ∙ sym (total_cons g x xs)

pub total_none : {X : Type 0} (xs : List X) → total (λ x. 0) xs ≡ 0
total_none [] = refl
total_none {X} (x ∷ xs) = total_cons (λ (y : X). 0) x xs ∙ ap (λ n. 0 + n) (total_none xs)

pub total_plus : {X : Type 0} (f g : X → ℕ) (xs : List X) → total (λ x. f x + g x) xs ≡ total f xs + total g xs
total_plus f g [] = refl
total_plus f g (x ∷ xs) =
    let e = total_cons (λ x. f x + g x) x xs in
    let a = total_cons f x xs in
    let b = total_cons g x xs in
    let more = total_plus f g xs in
    regroup (total (λ x. f x + g x) (x ∷ xs)) (f x) (g x) (total (λ x. f x + g x) xs) (total f xs) (total g xs) (total f (x ∷ xs)) (total g (x ∷ xs)) e more a b
  where
    regroup : (whole a b rest r s t u : ℕ) → whole ≡ (a + b) + rest → rest ≡ r + s → t ≡ a + r → u ≡ b + s → whole ≡ t + u
    regroup whole a b rest r s t u e f g h = omega arith

-- over those that are kept
pub total_filter : {X : Type 0} (f : X → ℕ) (q : X → Bool) (xs : List X) → total f (filter q xs) ≡ total (λ x. cond (q x) (f x) 0) xs
total_filter f q [] = refl
total_filter {X} f q (x ∷ xs) = by (q x) (total_filter f q xs) ∙ sym (total_cons (λ x. cond (q x) (f x) 0) x xs)
  where
    none : (n m : ℕ) → n ≡ m → n ≡ 0 + m
    none n m e = omega arith

    by : (b : Bool) → total f (filter q xs) ≡ total (λ x. cond (q x) (f x) 0) xs → total f (cond b (x ∷ filter q xs) (filter q xs)) ≡ cond b (f x) 0 + total (λ x. cond (q x) (f x) 0) xs
    by true more = total_cons f x (filter q xs) ∙ ap (λ n. f x + n) more
    by false more = none _ _ more

-- a sum over pairs, one side first or the other
pub swapped : {X Y : Type 0} (g : X → Y → ℕ) (p : X → Y → Bool) (xs : List X) (ys : List Y)
    → total (λ x. total (g x) (filter (p x) ys)) xs ≡ total (λ y. total (λ x. g x y) (filter (λ x. p x y) xs)) ys
swapped g p [] ys = sym (total_none ys)
swapped {X} {Y} g p (x ∷ xs) ys =
    total_cons (λ x. total (g x) (filter (p x) ys)) x xs
    ∙ ap (λ n. n + total (λ x. total (g x) (filter (p x) ys)) xs) (total_filter (g x) (p x) ys)
    ∙ ap (λ n. total (λ y. cond (p x y) (g x y) 0) ys + n) (swapped g p xs ys)
    ∙ sym (total_plus (λ y. cond (p x y) (g x y) 0) (λ y. total (λ x. g x y) (filter (λ x. p x y) xs)) ys)
    ∙ total_same (λ y. cond (p x y) (g x y) 0 + total (λ x. g x y) (filter (λ x. p x y) xs)) (λ y. total (λ x. g x y) (filter (λ x. p x y) (x ∷ xs))) ys (λ y. sym (one y (p x y)))
  where
    none : (n : ℕ) → n ≡ 0 + n
    none n = omega arith

    one : (y : Y) (b : Bool) → total (λ x. g x y) (cond b (x ∷ filter (λ x. p x y) xs) (filter (λ x. p x y) xs)) ≡ cond b (g x y) 0 + total (λ x. g x y) (filter (λ x. p x y) xs)
    one y true = total_cons (λ x. g x y) x (filter (λ x. p x y) xs)
    one y false = none _

-- a multiple of a sum
pub total_times : {X : Type 0} (n : ℕ) (f : X → ℕ) (xs : List X) → total (λ x. n * f x) xs ≡ n * total f xs
total_times n f [] = none n
  where
    none : (n : ℕ) → 0 ≡ n * 0
    none n = omega arith
total_times n f (x ∷ xs) =
    total_cons (λ x. n * f x) x xs ∙ ap (λ m. n * f x + m) (total_times n f xs) ∙ both n (f x) (total f xs) ∙ ap (λ m. n * m) (sym (total_cons f x xs))
  where
    both : (n a b : ℕ) → n * a + n * b ≡ n * (a + b)
    both n a b = grind arith
