-- Trees that have a text, and how many levels it opens.
use Rattle.std.specs.Prelude.{ℕ, ◌+◌, Bool, max, if◌then◌else◌}
use Rattle.expr_core.specs.Formula.{Formula, Formulas}
use Rattle.expr_core.specs.Formula.Formula.{Leaf, Not, And, Or}
use Rattle.expr_core.specs.Formula.Formulas.{Nil, Cons}
use Rattle.expr_core.specs.Text.{Writing, is_joined, needs_parentheses}

-- two or more
abbrev pub AreTwo : {A : Type 0} → Formulas A → Type 0
AreTwo Nil = ⊥
AreTwo (Cons f Nil) = ⊥
AreTwo (Cons f (Cons g fs)) = Unit {0}

abbrev mutual
  -- each atom is of this kind, and each operator joins two or more
  pub IsWellFormed : {A : Type 0} → (A → Type 0) → Formula A → Type 0
  IsWellFormed Is (Leaf a) = Is a
  IsWellFormed Is (Not f) = IsWellFormed Is f
  IsWellFormed Is (And fs) = AreTwo fs × AreWellFormed Is fs
  IsWellFormed Is (Or fs) = AreTwo fs × AreWellFormed Is fs

  pub AreWellFormed : {A : Type 0} → (A → Type 0) → Formulas A → Type 0
  AreWellFormed Is Nil = Unit {0}
  AreWellFormed Is (Cons f fs) = IsWellFormed Is f × AreWellFormed Is fs

-- one more, where there are parentheses
abbrev pub one_if : Bool → ℕ
one_if parentheses = if parentheses then 1 else 0

abbrev mutual
  -- how many levels the canonical text opens where most are open: each `!` and each `(` opens one
  pub levels_of : {A : Type 0} → Writing A → Formula A → ℕ
  levels_of w (Leaf a) = 0
  levels_of w (Not f) = 1 + (one_if (needs_parentheses w f) + levels_of w f)
  levels_of w (And fs) = levels_among w fs
  levels_of w (Or fs) = levels_among w fs

  pub levels_among : {A : Type 0} → Writing A → Formulas A → ℕ
  levels_among w Nil = 0
  levels_among w (Cons f fs) = max (one_if (is_joined f) + levels_of w f) (levels_among w fs)
