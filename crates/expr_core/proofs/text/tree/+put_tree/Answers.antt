use Rattle.std.proofs.Common.{append_assoc, arith}
use Rattle.std.proofs.lemmas.List.{append-nil}
use Rattle.nv_base.proofs.Growth.{grows_on, grows_more, grown_more, on_err}
use Rattle.expr_core.proofs.Lists.{operand_appended, grown_kept}
use Rattle.expr_core.proofs.Pairs.{one_falls}
use Rattle.expr_core.proofs.text.tree.+put_tree.Goals as goal

pub put_enclosed-returns-in_err-push-clause-err : goal.put_enclosed-returns-in_err-push-clause-err
put_enclosed-returns-in_err-push-clause-err g t c = on_err _ _ (grown_kept _ _ _ _ c.in_ok-extend_from_slice.ensures.items c.in_err-push.ensures.items)

pub put_enclosed-returns-in_err-put_tree-clause-err : goal.put_enclosed-returns-in_err-put_tree-clause-err
put_enclosed-returns-in_err-put_tree-clause-err g t c = on_err _ _ (grown_more _ _ _ _ c.in_ok-extend_from_slice.ensures.items (grown_more _ _ _ _ c.in_ok-push.ensures.items c.in_err-put_tree.ensures.err))

pub put_enclosed-returns-in_err-push-2-clause-err : goal.put_enclosed-returns-in_err-push-2-clause-err
put_enclosed-returns-in_err-push-2-clause-err g t c = on_err _ _ (grown_more _ _ _ _ c.in_ok-extend_from_slice.ensures.items (grown_more _ _ _ _ c.in_ok-push.ensures.items (grown_kept _ _ _ _ c.in_ok-put_tree.ensures.ok c.in_err-push-2.ensures.items)))

pub put_enclosed-returns-in_err-put_tree-2-clause-err : goal.put_enclosed-returns-in_err-put_tree-2-clause-err
put_enclosed-returns-in_err-put_tree-2-clause-err g t c = on_err _ _ (grown_more _ _ _ _ c.in_ok-extend_from_slice.ensures.items c.in_err-put_tree-2.ensures.err)

pub put_enclosed-returns-in_ok-push-2-clause-ok : goal.put_enclosed-returns-in_ok-push-2-clause-ok
put_enclosed-returns-in_ok-push-2-clause-ok g t c = rw (c.if-parentheses.true, c.in_ok-push-2.ensures.items, c.in_ok-put_tree.ensures.ok, c.in_ok-push.ensures.items, c.in_ok-extend_from_slice.ensures.items) (simp append_assoc)

pub put_enclosed-returns-in_ok-put_tree-2-clause-ok : goal.put_enclosed-returns-in_ok-put_tree-2-clause-ok
put_enclosed-returns-in_ok-put_tree-2-clause-ok g t c = rw (c.if-parentheses.false, c.in_ok-put_tree-2.ensures.ok, c.in_ok-extend_from_slice.ensures.items) (simp (append_assoc, append-nil))

pub put_operands-put_enclosed-requires : goal.put_operands-put_enclosed-requires
put_operands-put_enclosed-requires g t c = λ κs lives. (omega (arith, one_falls c.args.operands.now _ _ c.loop-operand-test.true c.operand-item.is, c.decreases), lives)

pub put_operands-returns-in_err-put_enclosed-clause-err : goal.put_operands-returns-in_err-put_enclosed-clause-err
put_operands-returns-in_err-put_enclosed-clause-err g t c = on_err _ _ (grows_more _ _ _ c.loop-operand.invariant.grown c.in_err-put_enclosed.ensures.err)

pub put_operands-loop-operand-preserved : goal.put_operands-loop-operand-preserved
put_operands-loop-operand-preserved g t c = record {
  grown = grows_on _ _ _ _ c.loop-operand.invariant.grown (rw append_assoc at c.in_ok-put_enclosed.ensures.ok);
  whole = operand_appended g.A.TreeAtom.writing _ _ _ _ _ _ _ _ _ c.loop-operand-test.true c.operand-item.is c.is_joined.ensures c.in_ok-put_enclosed.ensures.ok c.loop-operand.invariant.whole;
}

pub put_tree-returns-in-Atom-clause-ok : goal.put_tree-returns-in-Atom-clause-ok
put_tree-returns-in-Atom-clause-ok g t c = rw (← rw (c.in-Atom.is) at c.tree.view_is) c.put.ensures.ok

pub put_tree-returns-in-And-clause-ok : goal.put_tree-returns-in-And-clause-ok
put_tree-returns-in-And-clause-ok g t c = rw (← rw (c.in-And.is) at c.tree.view_is) (rw c.deref-in-And.ensures.value at c.put_operands.ensures.ok)

pub put_tree-returns-in-Or-clause-ok : goal.put_tree-returns-in-Or-clause-ok
put_tree-returns-in-Or-clause-ok g t c = rw (← rw (c.in-Or.is) at c.tree.view_is) (rw c.deref-in-Or.ensures.value at c.put_operands-in-Or.ensures.ok)
