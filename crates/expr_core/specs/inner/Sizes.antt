-- No formula of a list is larger than all of them.
use Rattle.std.specs.Prelude.{◌+◌, ◌≤◌, List, [], ◌∷◌}
use Rattle.std.proofs.Common.{arith}
use denote.Param.Weighed.{most}
use Rattle.expr_core.specs.Formula.{Formula, formulas}
use Rattle.expr_core.specs.inner.FormulaCode.{formula_size, formulas_size}

pub most_le : {A : Type 0} (fs : List (Formula A)) → most (λ f. formula_size f + 1) fs ≤ formulas_size (formulas fs) + 1
most_le [] = omega arith
most_le (f ∷ fs) = omega (arith, most_le fs)
