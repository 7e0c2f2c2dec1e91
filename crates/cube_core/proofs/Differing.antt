-- The first bit, from the highest, in which two numbers differ.
use Rattle.std.proofs.Common.{◌≡◌, ℕ, zero, suc, ◌<◌, ◌+◌, ◌-◌, ◌*◌, ◌/◌, ◌%◌, ◌^◌, ◌==◌, nat_lt, Bool, true, false, not, ◌&&◌, ◌||◌, ◌∷◌, inl, inr, refl, sym, ap, ap₂, ◌∙◌, arith, add-one}
use Rattle.std.specs.Prelude.{bit_and, bit_xor}
use Rattle.std.specs.Int.Bits.{and_zero_r}
use Rattle.std.specs.List.{list_any}
use Rattle.std.proofs.Math.Bool.{or-false, or_assoc}
use Rattle.std.proofs.Math.Nat.{div-one}
use Rattle.std.proofs.lemmas.Bool.{eq-eqb, ne_eqb, cases_eq}
use Rattle.std.proofs.lemmas.Bool.Decides.{nat_tests}
use Rattle.std.proofs.lemmas.Nat.{shr-shr, shr_below, and_shr, and_mod, xor_shr, xor_mod, xor_comm, div-add-mod'}
use Rattle.expr_sets.specs.Members.{agree}
use Rattle.cube_core.specs.Comparison.{falling, has_bit}

-- from this bit on, the number is in the bits of the mask the other with this bit opposite
abbrev pub differs_here : ℕ → ℕ → ℕ → ℕ → ℕ → Bool
differs_here m x n chosen i = has_bit chosen i && agree (m / 2 ^ i) (x / 2 ^ i) (bit_xor (n / 2 ^ i) 1)

-- one of the chosen bits below this width is so
abbrev pub first_differs : ℕ → ℕ → ℕ → ℕ → ℕ → Bool
first_differs w m x n chosen = list_any (differs_here m x n chosen) (falling w)

-- ---- one bit more, below the others

any_falling : (p : ℕ → Bool) (w : ℕ) → list_any p (falling (suc w)) ≡ (list_any (λ i. p (suc i)) (falling w) || p 0)
any_falling p zero = or-false (p 0)
any_falling p (suc w) = ap (λ b. p (suc w) || b) (any_falling p w) ∙ sym (or_assoc (p (suc w)) (list_any (λ i. p (suc i)) (falling w)) (p 0))

halved : (y i : ℕ) → y / 2 ^ suc i ≡ y / 2 / 2 ^ i
halved y i =
    let more : suc i ≡ 1 + i = omega arith in
    ap (λ j. y / 2 ^ j) more ∙ sym (shr-shr y 1 i)

differs_above : (m x n chosen i : ℕ) → differs_here m x n chosen (suc i) ≡ differs_here (m / 2) (x / 2) (n / 2) (chosen / 2) i
differs_above m x n chosen i =
    ap₂ ◌&&◌
    (ap (λ y. y % 2 == 1) (halved chosen i))
    (ap₂ ◌==◌ (ap₂ bit_and (halved x i) (halved m i)) (ap₂ bit_and (ap (λ y. bit_xor y 1) (halved n i)) (halved m i)))

lowest_differs : (m x n chosen : ℕ) → differs_here m x n chosen 0 ≡ ((chosen % 2 == 1) && agree m x (bit_xor n 1))
lowest_differs m x n chosen =
    ap₂ ◌&&◌
    (ap (λ y. y % 2 == 1) (div-one chosen))
    (ap₂ ◌==◌ (ap₂ bit_and (div-one x) (div-one m)) (ap₂ bit_and (ap (λ y. bit_xor y 1) (div-one n)) (div-one m)))

one_more : (w m x n chosen : ℕ) → first_differs (suc w) m x n chosen
    ≡ (first_differs w (m / 2) (x / 2) (n / 2) (chosen / 2) || ((chosen % 2 == 1) && agree m x (bit_xor n 1)))
one_more w m x n chosen =
    any_falling (differs_here m x n chosen) w
    ∙ ap₂ ◌||◌ (ap (λ p. list_any p (falling w)) (λ i j. differs_above m x n chosen j i)) (lowest_differs m x n chosen)

-- ---- numbers by their lowest bit

abbrev bit : Bool → ℕ
bit true = 1
bit false = 0

abbrev odd : ℕ → Bool
odd n = n % 2 == 1

lowest : (n : ℕ) → n % 2 ≡ bit (odd n)
lowest n = elim (cases_eq (n % 2) 1) [
  | inl e ↦ e ∙ sym (ap bit (eq-eqb (n % 2) 1 e))
  | inr other ↦ (let even : n % 2 ≡ 0 = omega arith in even ∙ sym (ap bit (ne_eqb (n % 2) 1 other)))
]

-- `and` by the halves
halves : (a b : ℕ) → bit_and a b ≡ bit_and (a / 2) (b / 2) * 2 + bit_and (bit (odd a)) (bit (odd b))
halves a b =
    sym (div-add-mod' (bit_and a b) 2)
    ∙ ap₂ (λ p q. p * 2 + q) (and_shr a b 1) (and_mod a b 1 ∙ ap₂ bit_and (lowest a) (lowest b))

-- the same of a number with its lowest bit opposite
opposite_halves : (n m : ℕ) → bit_and (bit_xor n 1) m ≡ bit_and (n / 2) (m / 2) * 2 + bit_and (bit_xor (bit (odd n)) 1) (bit (odd m))
opposite_halves n m =
    sym (div-add-mod' (bit_and (bit_xor n 1) m) 2)
    ∙ ap₂ (λ p q. p * 2 + q)
    (and_shr (bit_xor n 1) m 1 ∙ ap (λ y. bit_and y (m / 2)) (xor_shr n 1 1 ∙ xor_comm (n / 2) 0))
    (and_mod (bit_xor n 1) m 1 ∙ ap₂ bit_and (xor_mod n 1 1 ∙ ap (λ y. bit_xor y 1) (lowest n)) (lowest m))

-- the tests of the lowest bit, from those of the halves: p is the mask's bit, q the number's, r the other's
module _ (X Y : ℕ) where
  differ_digit : (p q r : Bool) → (not (X == Y) || ((bit p == 1) && (X * 2 + bit_and (bit q) (bit p) == Y * 2 + bit_and (bit_xor (bit r) 1) (bit p)))) ≡ not (X * 2 + bit_and (bit q) (bit p) == Y * 2 + bit_and (bit r) (bit p))
  differ_digit true true true = grind (arith, nat_tests)
  differ_digit true true false = grind (arith, nat_tests)
  differ_digit true false true = grind (arith, nat_tests)
  differ_digit true false false = grind (arith, nat_tests)
  differ_digit false true true = grind (arith, nat_tests)
  differ_digit false true false = grind (arith, nat_tests)
  differ_digit false false true = grind (arith, nat_tests)
  differ_digit false false false = grind (arith, nat_tests)

  below_digit : (p q r : Bool) → (nat_lt X Y || ((bit_and (bit p) (bit r) == 1) && (X * 2 + bit_and (bit q) (bit p) == Y * 2 + bit_and (bit_xor (bit r) 1) (bit p)))) ≡ nat_lt (X * 2 + bit_and (bit q) (bit p)) (Y * 2 + bit_and (bit r) (bit p))
  below_digit true true true = grind (arith, nat_tests)
  below_digit true true false = grind (arith, nat_tests)
  below_digit true false true = grind (arith, nat_tests)
  below_digit true false false = grind (arith, nat_tests)
  below_digit false true true = grind (arith, nat_tests)
  below_digit false true false = grind (arith, nat_tests)
  below_digit false false true = grind (arith, nat_tests)
  below_digit false false false = grind (arith, nat_tests)

  above_digit : (p q r : Bool) → (nat_lt Y X || ((bit_xor (bit p) (bit_and (bit p) (bit r)) == 1) && (X * 2 + bit_and (bit q) (bit p) == Y * 2 + bit_and (bit_xor (bit r) 1) (bit p)))) ≡ nat_lt (Y * 2 + bit_and (bit r) (bit p)) (X * 2 + bit_and (bit q) (bit p))
  above_digit true true true = grind (arith, nat_tests)
  above_digit true true false = grind (arith, nat_tests)
  above_digit true false true = grind (arith, nat_tests)
  above_digit true false false = grind (arith, nat_tests)
  above_digit false true true = grind (arith, nat_tests)
  above_digit false true false = grind (arith, nat_tests)
  above_digit false false true = grind (arith, nat_tests)
  above_digit false false false = grind (arith, nat_tests)

-- ---- all bits

half_fits : (w m : ℕ) → m < 2 ^ suc w → m / 2 < 2 ^ w
half_fits w m fits = shr_below m w 1 (rw add-one fits)

no_bits : (m : ℕ) → m < 2 ^ 0 → m ≡ 0
no_bits m fits = omega (arith, fits)

-- among all bits of the mask: the numbers differ in its bits
pub differ : (w m x n : ℕ) → m < 2 ^ w → first_differs w m x n m ≡ not (agree m x n)
differ zero m x n fits = rw (no_bits m fits, and_zero_r x, and_zero_r n) refl
differ (suc w) m x n fits =
    one_more w m x n m
    ∙ ap₂ ◌||◌ (differ w (m / 2) (x / 2) (n / 2) (half_fits w m fits))
    (ap₂ ◌&&◌ (ap (λ y. y == 1) (lowest m)) (ap₂ ◌==◌ (halves x m) (opposite_halves n m)))
    ∙ differ_digit (bit_and (x / 2) (m / 2)) (bit_and (n / 2) (m / 2)) (odd m) (odd x) (odd n)
    ∙ sym (ap not (ap₂ ◌==◌ (halves x m) (halves n m)))

-- among the ones of the other: the number is below it
pub below : (w m x n : ℕ) → m < 2 ^ w → first_differs w m x n (bit_and m n) ≡ nat_lt (bit_and x m) (bit_and n m)
below zero m x n fits = rw (no_bits m fits, and_zero_r x, and_zero_r n) refl
below (suc w) m x n fits =
    one_more w m x n (bit_and m n)
    ∙ ap₂ ◌||◌ (ap (first_differs w (m / 2) (x / 2) (n / 2)) (and_shr m n 1) ∙ below w (m / 2) (x / 2) (n / 2) (half_fits w m fits))
    (ap₂ ◌&&◌ (ap (λ y. y == 1) (and_mod m n 1 ∙ ap₂ bit_and (lowest m) (lowest n))) (ap₂ ◌==◌ (halves x m) (opposite_halves n m)))
    ∙ below_digit (bit_and (x / 2) (m / 2)) (bit_and (n / 2) (m / 2)) (odd m) (odd x) (odd n)
    ∙ sym (ap₂ nat_lt (halves x m) (halves n m))

-- among its zeros: the number is above it
pub above : (w m x n : ℕ) → m < 2 ^ w → first_differs w m x n (bit_xor m (bit_and m n)) ≡ nat_lt (bit_and n m) (bit_and x m)
above zero m x n fits = rw (no_bits m fits, and_zero_r x, and_zero_r n) refl
above (suc w) m x n fits =
    let chosen = bit_xor m (bit_and m n) in
    let half : chosen / 2 ≡ bit_xor (m / 2) (bit_and (m / 2) (n / 2)) = xor_shr m (bit_and m n) 1 ∙ ap (bit_xor (m / 2)) (and_shr m n 1) in
    let digit : chosen % 2 ≡ bit_xor (bit (odd m)) (bit_and (bit (odd m)) (bit (odd n))) =
    xor_mod m (bit_and m n) 1 ∙ ap₂ bit_xor (lowest m) (and_mod m n 1 ∙ ap₂ bit_and (lowest m) (lowest n)) in
    one_more w m x n chosen
    ∙ ap₂ ◌||◌ (ap (first_differs w (m / 2) (x / 2) (n / 2)) half ∙ above w (m / 2) (x / 2) (n / 2) (half_fits w m fits))
    (ap₂ ◌&&◌ (ap (λ y. y == 1) digit) (ap₂ ◌==◌ (halves x m) (opposite_halves n m)))
    ∙ above_digit (bit_and (x / 2) (m / 2)) (bit_and (n / 2) (m / 2)) (odd m) (odd x) (odd n)
    ∙ sym (ap₂ nat_lt (halves n m) (halves x m))

-- ---- the bits that are left, from the highest

pub falling_next : (n : ℕ) → 0 < n → falling n ≡ (n - 1) ∷ falling (n - 1)
falling_next zero some = absurd (omega (arith, some))
falling_next (suc n) some = let same : suc n - 1 ≡ n = omega arith in rw same refl
