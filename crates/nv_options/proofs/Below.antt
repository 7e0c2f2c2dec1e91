-- What is so of each number below a bound.
use Rattle.std.proofs.Common.{◌≡◌, ℕ, zero, suc, ◌+◌, ◌-◌, ◌<◌, ◌≤◌, Bool, true, false, ◌&&◌, eqb, arith, subst, sym, refl}
use Rattle.std.proofs.lemmas.Bool.{and_parts, eqb-true, eqb-false}

-- it is so of each number below this one
abbrev pub all_below : ℕ → (ℕ → Bool) → Bool
all_below zero is = true
all_below (suc k) is = is k && all_below k is

pub at_below : (k : ℕ) (is : ℕ → Bool) → all_below k is ≡ true → (n : ℕ) → n < k → is n ≡ true
at_below zero is all n within = absurd (omega (arith, within))
at_below (suc k) is all n within = by (at_below k is (and_parts _ _ all).1 n) (eqb n k) refl
  where
    by : (n < k → is n ≡ true) → (b : Bool) → eqb n k ≡ b → is n ≡ true
    by below true same = subst (λ m. is m ≡ true) (sym (eqb-true _ _ same)) (and_parts _ _ all).0
    by below false apart = below (omega (arith, within, eqb-false _ _ apart))

-- it is so of each number from 1 to 64
pub from_one : (is : ℕ → Bool) → all_below 64 (λ k. is (k + 1)) ≡ true → (n : ℕ) → 1 ≤ n → n ≤ 64 → is n ≡ true
from_one is all n low high = subst (λ m. is m ≡ true) (omega (arith, low)) (at_below 64 (λ k. is (k + 1)) all (n - 1) (omega (arith, low, high)))
