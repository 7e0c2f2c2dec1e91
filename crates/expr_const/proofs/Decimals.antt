-- What a decimal tells of its digits and its length.
use Rattle.std.proofs.Common.{◌≡◌, ℕ, suc, ◌+◌, ◌-◌, ◌*◌, ◌^◌, ◌<◌, ◌≤◌, true, false, eqb, List, [], ◌∷◌, length, Some, inl, inr, refl, subst, arith}
use Rattle.std.specs.Char.{is_digit, digit_value}
use Rattle.std.specs.List.{list_all}
use Rattle.std.specs.Str.Parse.{digits_value, digits_value_after}
use Rattle.std.proofs.Math.Nat.{pow-succ', pow-le-pow_right, mul-le-mul_right}
use Rattle.std.proofs.lemmas.Bool.{cases_lt, lt-ltb, le-ltb, ltb-true, eqb-true, eqb-false, and_parts, or_cases, not-true}
use Rattle.std.proofs.lemmas.Bool.Decides.{nat_tests}
use Rattle.std.proofs.lemmas.Option.{same_Some}
use Rattle.nv_base.specs.Number.{digits_number, has_no_leading_zero, decimal_of}
use Rattle.expr_const.proofs.Choices.{guarded}

-- decimal digits stand in a row
pub decimal_digit : (c : ℕ) → digit_value c < 10 → (48 ≤ c) × (c ≤ 57) × (digit_value c ≡ c - 48)
decimal_digit c h = elim (cases_lt c 48) as (λ _. (48 ≤ c) × (c ≤ 57) × (digit_value c ≡ c - 48)) [
  | inl lt ↦ absurd (omega (arith, rw (lt-ltb c 48 lt) at h))
  | inr ge ↦ elim (cases_lt c 58) as (λ _. (48 ≤ c) × (c ≤ 57) × (digit_value c ≡ c - 48)) [
    | inl lt ↦ (ge, omega arith, rw (le-ltb c 48 ge, lt-ltb c 58 lt) refl)
    | inr far ↦ absurd (grind (arith, nat_tests, h))
  ]
]

-- more digits make a number greater by their powers
one_more : (n d p q m : ℕ) → q ≡ 10 * p → (n * 10 + d) * p ≤ m → n * q ≤ m
one_more n d p q m is le = rw is (omega arith)

led : (n p m : ℕ) → 1 ≤ n → (0 * 10 + n) * p ≤ m → p ≤ m
led n p m one le = omega (arith, mul-le-mul_right {m = 1} {n = n} p one)

at_least : (n : ℕ) (cs : List ℕ) → n * 10 ^ length cs ≤ digits_value_after 10 n cs
at_least n [] = omega arith
at_least n (c ∷ cs) = one_more n (digit_value c) (10 ^ length cs) (10 ^ length (c ∷ cs)) _ (pow-succ' 10 (length cs)) (at_least (n * 10 + digit_value c) cs)

-- what a decimal is
pub decimal_parts : (text : List ℕ) (v : ℕ) → decimal_of text ≡ Some v → (has_no_leading_zero text ≡ true) × (list_all (λ c. is_digit c 10) text ≡ true) × (digits_value 10 text ≡ v) × (v < 2 ^ 128)
decimal_parts text v e =
    let outer = guarded (has_no_leading_zero text) (digits_number 10 text) v e in
    let inner = guarded _ (Some (digits_value 10 text)) v outer.1 in
    let tests = and_parts _ _ inner.0 in
    let same = same_Some (digits_value 10 text) v inner.1 in
    (outer.0, tests.0, same, rw (← same) (ltb-true _ _ tests.1))

no_zero_first : (c d : ℕ) (ds : List ℕ) → has_no_leading_zero (c ∷ d ∷ ds) ≡ true → eqb c 48 ≡ false
no_zero_first c d ds h = elim (or_cases _ _ h) [
  | inl one ↦ absurd (two_is_one (eqb-true (suc (suc (length ds))) 1 one))
  | inr more ↦ not-true _ (and_parts _ _ more).1
]
  where
    two_is_one : {n : ℕ} → suc (suc n) ≡ 1 → ⊥
    two_is_one e = omega arith

beyond : (v p q : ℕ) → p ≤ q → q ≤ v → v < p → ⊥
beyond v p q le more small = omega arith

-- how many digits a decimal below a power of ten has
pub decimal_length : (k : ℕ) (text : List ℕ) (v : ℕ) → decimal_of text ≡ Some v → v < 10 ^ k → 0 < k → (0 < length text) × (length text ≤ k)
decimal_length k [] v e small some = absurd cc
decimal_length k (c ∷ []) v e small some = (omega arith, omega arith)
decimal_length k (c ∷ d ∷ ds) v e small some =
    let parts = decimal_parts (c ∷ d ∷ ds) v e in
    let digit = decimal_digit c (ltb-true _ _ (and_parts _ _ parts.1).0) in
    let other = eqb-false c 48 (no_zero_first c d ds parts.0) in
    let lead : 1 ≤ digit_value c = above c digit other in
    (omega arith, short (digit_value c) lead parts.2)
  where
    above : (c : ℕ) → (48 ≤ c) × (c ≤ 57) × (digit_value c ≡ c - 48) → (c ≡ 48 → ⊥) → 1 ≤ digit_value c
    above c digit other = rw (digit.2) (omega (arith, other))

    short : (n : ℕ) → 1 ≤ n → digits_value_after 10 (0 * 10 + n) (d ∷ ds) ≡ v → suc (suc (length ds)) ≤ k
    short n lead is = elim (cases_lt k (suc (suc (length ds)))) [
      | inl lt ↦ absurd (beyond v (10 ^ k) (10 ^ length (d ∷ ds)) (pow-le-pow_right {n = 10} (omega arith) {i = k} {j = length (d ∷ ds)} (omega arith)) (led n (10 ^ length (d ∷ ds)) v lead (subst (λ (m : ℕ). (0 * 10 + n) * 10 ^ length (d ∷ ds) ≤ m) is (at_least (0 * 10 + n) (d ∷ ds)))) small)
      | inr ge ↦ ge
    ]
