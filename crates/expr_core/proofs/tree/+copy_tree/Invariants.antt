use Rattle.std.proofs.Common.{◌≡◌, ◌+◌, ◌*◌, take}
use Rattle.expr_core.specs.Formula.{formulas}
use Rattle.expr_core.specs.inner.FormulaCode.{formula_size, formulas_size}
use Rattle.expr_core.proofs.tree.+copy_tree.Given as goal

abbrev pub decreases-copy_tree : goal.decreases-copy_tree
decreases-copy_tree g l = 2 * formula_size l.tree.now

abbrev pub decreases-copy_operands : goal.decreases-copy_operands
decreases-copy_operands g l = 2 * formulas_size (formulas l.operands.now) + 1

-- the copies are those of the operands so far
abbrev pub invariant-copy_operands-loop-operand : goal.invariant-copy_operands-loop-operand
invariant-copy_operands-loop-operand g l = l.copied ≡ take l.operand-index l.operands
