use Rattle.std.proofs.Common.{◌+◌, ◌*◌}
use Rattle.expr_core.specs.Formula.{formulas}
use Rattle.expr_core.specs.inner.FormulaCode.{formula_size, formulas_size}
use Rattle.nv_warn.proofs.names.+add_tree.Given as goal

abbrev pub decreases-add_tree : goal.decreases-add_tree
decreases-add_tree l = 2 * formula_size l.tree.now

abbrev pub decreases-add_operands : goal.decreases-add_operands
decreases-add_operands l = 2 * formulas_size (formulas l.operands.now) + 1
