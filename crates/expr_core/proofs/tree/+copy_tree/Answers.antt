use Rattle.std.proofs.Common.{ap, refl, arith}
use Rattle.std.proofs.lemmas.List.{take_more}
use Rattle.expr_core.specs.inner.FormulaCode.{formula_size}
use Rattle.expr_core.proofs.Pairs.{one_falls}
use Rattle.expr_core.proofs.tree.+copy_tree.Goals as goal
use Rattle.expr_core.proofs.tree.+copy_tree.Goals.{copy_tree-in-Atom+in_ok-copy_atom-in-Atom, copy_tree-in-Not+in_ok-copy_tree-in-Not+in_ok-new-in-Not, copy_tree-in-And+in_ok-copy_operands-in-And, copy_tree-in-Or+in_ok-copy_operands-in-Or}

pub copy_operands-copy_tree-requires : goal.copy_operands-copy_tree-requires
copy_operands-copy_tree-requires g t c = λ κs lives. (omega (arith, one_falls c.args.operands.now _ _ c.loop-operand-test.true c.operand-item.is, c.decreases), lives)

pub copy_operands-loop-operand-preserved : goal.copy_operands-loop-operand-preserved
copy_operands-loop-operand-preserved g t c =
    let more = take_more c.args.operands.now c.loop-operand.operand-index c.operand-item.result c.loop-operand-test.true in
    rw (c.in_ok-push.ensures.ok, c.in_ok-copy_tree.ensures, c.loop-operand.invariant, more, ← c.operand-item.is) refl

pub copy_tree-copy_tree-requires : goal.copy_tree-copy_tree-requires
copy_tree-copy_tree-requires g t c =
    let is = rw (c.in-Not.is) at c.tree.view_is in
    λ κs lives. (omega (arith, ap formula_size c.deref.ensures, ap formula_size is, c.decreases), lives)

pub copy_tree-copy_operands-requires : goal.copy_tree-copy_operands-requires
copy_tree-copy_operands-requires g t c =
    let is = rw (c.in-And.is) at c.tree.view_is in
    λ κs lives. (rw c.deref-in-And.ensures.value (omega (arith, ap formula_size is, c.decreases)), lives)

pub copy_tree-copy_operands-requires-in-Or : goal.copy_tree-copy_operands-requires-in-Or
copy_tree-copy_operands-requires-in-Or g t c =
    let is = rw (c.in-Or.is) at c.tree.view_is in
    λ κs lives. (rw c.deref-in-Or.ensures.value (omega (arith, ap formula_size is, c.decreases)), lives)

pub copy_tree-returns : goal.copy_tree-returns
copy_tree-returns g t c = elim c.match-tree.branch [
  | copy_tree-in-Atom+in_ok-copy_atom-in-Atom w ↦
      rw (w.node-is, w.in_ok-copy_atom-in-Atom.ensures) (rw (w.in-Atom.is) at c.tree.view_is)
  | copy_tree-in-Not+in_ok-copy_tree-in-Not+in_ok-new-in-Not w ↦
      rw (w.node-is, w.in_ok-new-in-Not.ensures.ok, w.in_ok-copy_tree-in-Not.ensures, w.deref.ensures) (rw (w.in-Not.is) at c.tree.view_is)
  | copy_tree-in-And+in_ok-copy_operands-in-And w ↦
      rw (w.node-is, w.in_ok-copy_operands-in-And.ensures, w.deref-in-And.ensures.value) (rw (w.in-And.is) at c.tree.view_is)
  | copy_tree-in-Or+in_ok-copy_operands-in-Or w ↦
      rw (w.node-is, w.in_ok-copy_operands-in-Or.ensures, w.deref-in-Or.ensures.value) (rw (w.in-Or.is) at c.tree.view_is)
]
