-- When two matches are equal by `==`.
use Rattle.std.specs.Prelude.{Bool, false, true, ◌&&◌}
use Rattle.expr_core.specs.Formula.{Formula, Formulas}
use Rattle.expr_core.specs.Formula.Formula.{Leaf, Not, And, Or}
use Rattle.expr_core.specs.Formula.Formulas.{Nil, Cons}

-- formulas of one shape, whose atoms are equal by this test in their order
abbrev mutual
  pub formula_eq : {A : Type 0} → (A → A → Bool) → Formula A → Formula A → Bool
  formula_eq eq (Leaf a) (Leaf b) = eq a b
  formula_eq eq (Not f) (Not g) = formula_eq eq f g
  formula_eq eq (And fs) (And gs) = formulas_eq eq fs gs
  formula_eq eq (Or fs) (Or gs) = formulas_eq eq fs gs
  formula_eq eq _ _ = false

  -- as many formulas, equal in their order
  pub formulas_eq : {A : Type 0} → (A → A → Bool) → Formulas A → Formulas A → Bool
  formulas_eq eq Nil Nil = true
  formulas_eq eq (Cons f fs) (Cons g gs) = formula_eq eq f g && formulas_eq eq fs gs
  formulas_eq eq _ _ = false
