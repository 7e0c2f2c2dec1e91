use Rattle.std.proofs.Common.{ap, refl, sym, ◌∙◌, arith}
use Rattle.expr_core.specs.inner.FormulaCode.{formula_size}
use Rattle.expr_core.proofs.Pairs.{one_falls}
use Rattle.expr_check.specs.Check.{checked}
use Rattle.expr_check.proofs.Operands.{goes_on, ends, fails, fault_stays}
use Rattle.expr_check.proofs.checker.+check.Goals as goal
use Rattle.expr_check.proofs.checker.+check.Goals.{check-in-Atom+in_ok-check_atom-in-Atom, check-in-Not+in_ok-check-in-Not+in_ok-negation-in-Not, check-in-And+in_ok-check_all-in-And, check-in-Or+in_ok-check_all-in-Or}

pub check_all-check-requires : goal.check_all-check-requires
check_all-check-requires t c = (omega (arith, one_falls c.args.operands.now _ _ c.loop-operand-test.true c.operand-item.is, c.decreases), tt)

pub check_all-loop-operand-preserved : goal.check_all-loop-operand-preserved
check_all-loop-operand-preserved t c =
    let passed = ap (λ f. checked c.args.role f) (sym c.operand-item.is) ∙ c.in_ok-check.ensures.typed in
    rw (c.in_ok-push.ensures.ok) (goes_on c.args.role c.args.operands.now c.loop-operand.checked c.loop-operand.operand-index _ _ c.loop-operand-test.true c.loop-operand.invariant passed)

pub check_all-returns-clause-typed : goal.check_all-returns-clause-typed
check_all-returns-clause-typed t c =
    rw (c.into_items.ensures) (ends c.args.role c.args.operands.now c.loop-operand.checked c.loop-operand.operand-index (omega (arith, c.loop-operand-test.false)) c.loop-operand.invariant)

pub check_all-returns-in_err-check-clause-fault : goal.check_all-returns-in_err-check-clause-fault
check_all-returns-in_err-check-clause-fault t c = fault_stays _ _ _ c.from_residual.ensures.1 (λ other.
    let failed = ap (λ f. checked c.args.role f) (sym c.operand-item.is) ∙ c.in_err-check.ensures.fault other in
    fails c.args.role c.args.operands.now c.loop-operand.checked c.loop-operand.operand-index _ _ c.loop-operand-test.true c.loop-operand.invariant failed)

pub check-returns-in_err-check_atom-in-Atom-clause-fault : goal.check-returns-in_err-check_atom-in-Atom-clause-fault
check-returns-in_err-check_atom-in-Atom-clause-fault t c = fault_stays _ _ _ c.from_residual.ensures.1 (λ other.
    rw (← c.expr.view_is, c.in-Atom.is, c.in_err-check_atom-in-Atom.ensures.fault other) refl)

pub check-returns-in_err-check-in-Not-clause-fault : goal.check-returns-in_err-check-in-Not-clause-fault
check-returns-in_err-check-in-Not-clause-fault t c = fault_stays _ _ _ c.from_residual-in_err-check-in-Not.ensures.1 (λ other.
    rw (← c.expr.view_is, c.in-Not.is, ← c.deref.ensures, c.in_err-check-in-Not.ensures.fault other) refl)

pub check-returns-in_err-check_all-in-And-clause-fault : goal.check-returns-in_err-check_all-in-And-clause-fault
check-returns-in_err-check_all-in-And-clause-fault t c = fault_stays _ _ _ c.from_residual-in_err-check_all-in-And.ensures.1 (λ other.
    rw (← c.expr.view_is, c.in-And.is, ← c.deref-in-And.ensures.value, c.in_err-check_all-in-And.ensures.fault other) refl)

pub check-returns-in_err-check_all-in-Or-clause-fault : goal.check-returns-in_err-check_all-in-Or-clause-fault
check-returns-in_err-check_all-in-Or-clause-fault t c = fault_stays _ _ _ c.from_residual-in_err-check_all-in-Or.ensures.1 (λ other.
    rw (← c.expr.view_is, c.in-Or.is, ← c.deref-in-Or.ensures.value, c.in_err-check_all-in-Or.ensures.fault other) refl)

pub check-check-requires : goal.check-check-requires
check-check-requires t c =
    let is = rw (c.in-Not.is) at c.expr.view_is in
    (omega (arith, ap formula_size c.deref.ensures, ap formula_size is, c.decreases), tt)

pub check-check_all-requires : goal.check-check_all-requires
check-check_all-requires t c =
    let is = rw (c.in-And.is) at c.expr.view_is in
    (rw c.deref-in-And.ensures.value (omega (arith, ap formula_size is, c.decreases)), tt)

pub check-check_all-requires-in-Or : goal.check-check_all-requires-in-Or
check-check_all-requires-in-Or t c =
    let is = rw (c.in-Or.is) at c.expr.view_is in
    (rw c.deref-in-Or.ensures.value (omega (arith, ap formula_size is, c.decreases)), tt)

pub check-returns-clause-typed : goal.check-returns-clause-typed
check-returns-clause-typed t c = elim c.match-expr.branch [
  | check-in-Atom+in_ok-check_atom-in-Atom w ↦
      rw (← c.expr.view_is, w.in-Atom.is, w.in_ok-check_atom-in-Atom.ensures.atom, w.result-is, w.atom.ensures) refl
  | check-in-Not+in_ok-check-in-Not+in_ok-negation-in-Not w ↦
      rw (← c.expr.view_is, w.in-Not.is, ← w.deref.ensures, w.in_ok-check-in-Not.ensures.typed, w.result-is, w.in_ok-negation-in-Not.ensures) refl
  | check-in-And+in_ok-check_all-in-And w ↦
      rw (← c.expr.view_is, w.in-And.is, ← w.deref-in-And.ensures.value, w.in_ok-check_all-in-And.ensures.typed, w.result-is) refl
  | check-in-Or+in_ok-check_all-in-Or w ↦
      rw (← c.expr.view_is, w.in-Or.is, ← w.deref-in-Or.ensures.value, w.in_ok-check_all-in-Or.ensures.typed, w.result-is) refl
]
