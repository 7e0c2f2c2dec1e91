use Rattle.std.proofs.Common.{ap, sym, ◌∙◌, arith}
use Rattle.std.proofs.lemmas.Bool.{not-true, not-false}
use Rattle.expr_core.specs.inner.FormulaCode.{formula_size}
use Rattle.expr_core.proofs.Pairs.{one_falls}
use Rattle.expr_eval.proofs.Operands.{same_from_test, other_from_test, and_goes_on, and_stops, and_ends, or_goes_on, or_stops, or_ends}
use Rattle.expr_eval.specs.inner.Wanted.{meant}
use Rattle.expr_eval.proofs.meaning.+meant.Goals as goal

pub is_match_meant-returns-after-loop-operand : goal.is_match_meant-returns-after-loop-operand
is_match_meant-returns-after-loop-operand g t c =
    rw (← c.typed.view_is, c.in-And.is, ← c.deref-operand-items.ensures.value) (and_ends _ _ c.args.wanted _ _ (omega (arith, c.loop-operand-test.false)) c.loop-operand.invariant)

pub is_match_meant-returns-after-loop-operand-2 : goal.is_match_meant-returns-after-loop-operand-2
is_match_meant-returns-after-loop-operand-2 g t c =
    rw (← c.typed.view_is, c.in-Or.is, ← c.deref-operand-items-in-Or.ensures.value) (or_ends _ _ c.args.wanted _ _ (omega (arith, c.loop-operand-2-test.false)) c.loop-operand-2.invariant)

pub is_match_meant-is_operand_meant-requires-in-loop-operand : goal.is_match_meant-is_operand_meant-requires-in-loop-operand
is_match_meant-is_operand_meant-requires-in-loop-operand g t c =
    let is = rw (c.in-And.is, ← c.deref-operand-items.ensures.value) at c.typed.view_is in
    λ κs lives. (omega (arith, one_falls c.deref-operand-items.result.now _ _ c.loop-operand-test.true c.operand-item.is, ap formula_size is, c.decreases), lives)

pub is_match_meant-loop-operand-preserved : goal.is_match_meant-loop-operand-preserved
is_match_meant-loop-operand-preserved g t c =
    and_goes_on (g.E.Env.lookup c.args.env.now) c.args.packet.now c.args.wanted _ _ _ c.loop-operand-test.true c.loop-operand.invariant (ap (meant c.args.wanted (g.E.Env.lookup c.args.env.now) c.args.packet.now) (sym c.operand-item.is) ∙ sym c.is_operand_meant-in-loop-operand.ensures ∙ same_from_test _ _ (not-false _ c.if-is_operand_meant-wanted.false))

pub is_match_meant-returns-then-is_operand_meant-wanted : goal.is_match_meant-returns-then-is_operand_meant-wanted
is_match_meant-returns-then-is_operand_meant-wanted g t c =
    rw (← c.typed.view_is, c.in-And.is, ← c.deref-operand-items.ensures.value) (and_stops (g.E.Env.lookup c.args.env.now) c.args.packet.now c.args.wanted _ _ _ c.loop-operand-test.true c.loop-operand.invariant (ap (meant c.args.wanted (g.E.Env.lookup c.args.env.now) c.args.packet.now) (sym c.operand-item.is) ∙ sym c.is_operand_meant-in-loop-operand.ensures ∙ other_from_test _ _ (not-true _ c.if-is_operand_meant-wanted.true)))

pub is_match_meant-is_operand_meant-requires-in-loop-operand-2 : goal.is_match_meant-is_operand_meant-requires-in-loop-operand-2
is_match_meant-is_operand_meant-requires-in-loop-operand-2 g t c =
    let is = rw (c.in-Or.is, ← c.deref-operand-items-in-Or.ensures.value) at c.typed.view_is in
    λ κs lives. (omega (arith, one_falls c.deref-operand-items-in-Or.result.now _ _ c.loop-operand-2-test.true c.operand-item-in-loop-operand-2.is, ap formula_size is, c.decreases), lives)

pub is_match_meant-loop-operand-2-preserved : goal.is_match_meant-loop-operand-2-preserved
is_match_meant-loop-operand-2-preserved g t c =
    or_goes_on (g.E.Env.lookup c.args.env.now) c.args.packet.now c.args.wanted _ _ _ c.loop-operand-2-test.true c.loop-operand-2.invariant (ap (meant c.args.wanted (g.E.Env.lookup c.args.env.now) c.args.packet.now) (sym c.operand-item-in-loop-operand-2.is) ∙ sym c.is_operand_meant-in-loop-operand-2.ensures ∙ other_from_test _ _ c.if-is_operand_meant-wanted-2.false)

pub is_match_meant-returns-then-is_operand_meant-wanted-2 : goal.is_match_meant-returns-then-is_operand_meant-wanted-2
is_match_meant-returns-then-is_operand_meant-wanted-2 g t c =
    rw (← c.typed.view_is, c.in-Or.is, ← c.deref-operand-items-in-Or.ensures.value) (or_stops (g.E.Env.lookup c.args.env.now) c.args.packet.now c.args.wanted _ _ _ c.loop-operand-2-test.true c.loop-operand-2.invariant (ap (meant c.args.wanted (g.E.Env.lookup c.args.env.now) c.args.packet.now) (sym c.operand-item-in-loop-operand-2.is) ∙ sym c.is_operand_meant-in-loop-operand-2.ensures ∙ same_from_test _ _ c.if-is_operand_meant-wanted-2.true))
