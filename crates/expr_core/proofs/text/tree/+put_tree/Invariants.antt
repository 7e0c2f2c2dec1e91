use Rattle.std.proofs.Common.{◌≡◌, ◌+◌, ◌*◌, ◌++◌, [], drop}
use Rattle.nv_base.specs.Growth.{GrowsAtEnd}
use Rattle.expr_core.specs.Formula.{formulas}
use Rattle.expr_core.specs.Text.{operands_text}
use Rattle.expr_core.specs.inner.FormulaCode.{formula_size, formulas_size}
use Rattle.expr_core.proofs.text.tree.+put_tree.Given as goal

abbrev pub decreases-put_tree : goal.decreases-put_tree
decreases-put_tree g l = 3 * formula_size l.tree.now

abbrev pub decreases-put_enclosed : goal.decreases-put_enclosed
decreases-put_enclosed g l = 3 * formula_size l.operand.now + 1

abbrev pub decreases-put_operands : goal.decreases-put_operands
decreases-put_operands g l = 3 * formulas_size (formulas l.operands.now) + 2

-- with the text of the operands that are left, what is there is the whole
abbrev pub invariant-put_operands-loop-operand : goal.invariant-put_operands-loop-operand
invariant-put_operands-loop-operand g l = record {
  grown : GrowsAtEnd l.fn.out.items l.out.items;
  whole : l.out.items ++ operands_text g.A.TreeAtom.writing l.front l.operator (formulas (drop l.operand-index l.operands)) ≡ l.fn.out.items ++ operands_text g.A.TreeAtom.writing [] l.operator (formulas l.operands);
}
