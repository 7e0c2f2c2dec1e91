use Rattle.std.proofs.Common.{◌+◌, ◌*◌}
use Rattle.expr_core.specs.Formula.{formulas}
use Rattle.expr_core.specs.inner.FormulaCode.{formula_size, formulas_size}
use Rattle.expr_check.proofs.Operands.{Left}
use Rattle.expr_check.proofs.checker.+check.Given as goal

abbrev pub decreases-check : goal.decreases-check
decreases-check l = 2 * formula_size l.expr.now

abbrev pub decreases-check_all : goal.decreases-check_all
decreases-check_all l = 2 * formulas_size (formulas l.operands.now) + 1

abbrev pub invariant-check_all-loop-operand : goal.invariant-check_all-loop-operand
invariant-check_all-loop-operand l = Left l.role l.operands l.checked l.operand-index
