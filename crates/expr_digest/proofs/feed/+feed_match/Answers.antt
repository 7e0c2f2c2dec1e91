use Rattle.std.proofs.Common.{ap, refl, ◌∙◌, arith}
use Rattle.expr_core.specs.inner.FormulaCode.{formula_size}
use Rattle.expr_core.proofs.Pairs.{one_falls}
use Rattle.expr_digest.specs.Digest.{number_fed}
use Rattle.expr_digest.proofs.Left.{operands_more, operands_all}
use Rattle.expr_digest.proofs.feed.+feed_match.Goals as goal

pub feed_match-feed_match-requires : goal.feed_match-feed_match-requires
feed_match-feed_match-requires t c =
    let is = rw (c.in-Not.is) at c.matching.view_is in
    (omega (arith, ap formula_size c.deref.ensures, ap formula_size is, c.decreases), tt)

pub feed_match-feed_operands-requires : goal.feed_match-feed_operands-requires
feed_match-feed_operands-requires t c =
    let is = rw (c.in-And.is) at c.matching.view_is in
    (rw c.deref-in-And.ensures.value (omega (arith, ap formula_size is, c.decreases)), tt)

pub feed_match-feed_operands-requires-in-Or : goal.feed_match-feed_operands-requires-in-Or
feed_match-feed_operands-requires-in-Or t c =
    let is = rw (c.in-Or.is) at c.matching.view_is in
    (rw c.deref-in-Or.ensures.value (omega (arith, ap formula_size is, c.decreases)), tt)

pub feed_operands-feed_match-requires : goal.feed_operands-feed_match-requires
feed_operands-feed_match-requires t c = (omega (arith, one_falls c.args.operands.now _ _ c.loop-operand-test.true c.operand-item.is, c.decreases), tt)

pub feed_operands-loop-operand-init : goal.feed_operands-loop-operand-init
feed_operands-loop-operand-init t c = rw c.feed_number.ensures refl

pub feed_operands-loop-operand-preserved : goal.feed_operands-loop-operand-preserved
feed_operands-loop-operand-preserved t c =
    rw c.feed_match.ensures (operands_more (number_fed c.args.state.now c.args.kind) _ c.args.operands.now _ _ c.loop-operand-test.true c.operand-item.is c.loop-operand.invariant)

pub feed_operands-returns : goal.feed_operands-returns
feed_operands-returns t c =
    c.feed_number-2.ensures ∙ ap (λ s. number_fed s 7) (operands_all (number_fed c.args.state.now c.args.kind) _ c.args.operands.now _ (omega (arith, c.loop-operand-test.false)) c.loop-operand.invariant)
