use Rattle.std.proofs.Common.{ap, arith}
use Rattle.expr_core.specs.inner.FormulaCode.{formula_size}
use Rattle.expr_core.proofs.Pairs.{one_falls}
use Rattle.nv_warn.proofs.names.+add_tree.Goals as goal

pub add_tree-add_tree-requires : goal.add_tree-add_tree-requires
add_tree-add_tree-requires t c =
    let is = rw (c.in-Not.is) at c.tree.view_is in
    (omega (arith, ap formula_size c.deref.ensures, ap formula_size is, c.decreases), tt)

pub add_tree-add_operands-requires : goal.add_tree-add_operands-requires
add_tree-add_operands-requires t c =
    let is = rw (c.in-And.is) at c.tree.view_is in
    (rw c.deref-in-And.ensures.value (omega (arith, ap formula_size is, c.decreases)), tt)

pub add_tree-add_operands-requires-in-Or : goal.add_tree-add_operands-requires-in-Or
add_tree-add_operands-requires-in-Or t c =
    let is = rw (c.in-Or.is) at c.tree.view_is in
    (rw c.deref-in-Or.ensures.value (omega (arith, ap formula_size is, c.decreases)), tt)

pub add_operands-add_tree-requires : goal.add_operands-add_tree-requires
add_operands-add_tree-requires t c = (omega (arith, one_falls c.args.operands.now _ _ c.loop-operand-test.true c.operand-item.is, c.decreases), tt)
