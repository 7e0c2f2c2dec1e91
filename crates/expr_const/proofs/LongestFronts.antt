-- The longest front of a text that is a constant.
use Rattle.std.proofs.Common.{◌≡◌, ℕ, suc, zero, ◌<◌, ◌≤◌, List, take, Some, None, inl, inr, refl, ◌∙◌, arith}
use Rattle.std.proofs.lemmas.Bool.{cases_lt}
use Rattle.expr_core.specs.declared.constant.Const.{Const}
use Rattle.expr_const.specs.Constant.{constant_of, longest}

pub shorter : (m : ℕ) (text : List ℕ) → constant_of (take (suc m) text) ≡ None → longest (suc m) text ≡ longest m text
shorter m text e = rw e refl

pub here : (m : ℕ) (text : List ℕ) (c : Const) → constant_of (take (suc m) text) ≡ Some c → longest (suc m) text ≡ Some (c, suc m)
here m text c e = rw e refl

-- no front longer than m, and at most n, is a constant
abbrev pub NoneBetween : ℕ → ℕ → List ℕ → Type 0
NoneBetween m n text = (k : ℕ) → m < k → k ≤ n → constant_of (take k text) ≡ None

pub cut : (m n : ℕ) (text : List ℕ) → m ≤ n → NoneBetween m n text → longest n text ≡ longest m text
cut m zero text le none = let same : m ≡ 0 = omega arith in rw same refl
cut m (suc n) text le none = elim (cases_lt m (suc n)) as (λ _. longest (suc n) text ≡ longest m text) [
  | inl lt ↦ shorter n text (none (suc n) lt (omega arith)) ∙ cut m n text (omega arith) (λ k low high. none k low (omega arith))
  | inr ge ↦ let same : m ≡ suc n = omega arith in rw same refl
]
