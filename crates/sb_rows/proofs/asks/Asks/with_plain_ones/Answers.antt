use Rattle.std.proofs.Common.{ap, sym, ◌∙◌}
use Rattle.expr_core.specs.Formula.{formulas}
use Rattle.sb_rows.specs.inner.Plain.{plain_asked, plain_ones_asked, plain}
use Rattle.sb_rows.proofs.Asked.{operand_adds}
use Rattle.sb_rows.proofs.Asking.{plain_ones_end, plain_ones_next}
use Rattle.sb_rows.proofs.asks.Asks.with_plain_ones.Goals as goal

pub loop-operand-preserved : goal.loop-operand-preserved
loop-operand-preserved c =
    let operands = c.args.operands.now in
    let at = c.loop-operand.operand-index in
    let asked = c.with_plain-asks.ensures in
    record {
      adds = operand_adds operands at c.operand-item.result _ _ _ c.loop-operand-test.true (rw (sym c.operand-item.is) asked.adds) c.loop-operand.invariant.adds;
      told = plain_ones_next operands at c.operand-item.result (plain c.loop-operand.asks) (plain c.with_plain-asks.result) (plain_ones_asked (formulas operands) (plain c.args.self)) c.loop-operand-test.true
          (asked.told ∙ ap (λ f. plain_asked f (plain c.loop-operand.asks)) c.operand-item.is) c.loop-operand.invariant.told;
    }

pub returns-clause-told : goal.returns-clause-told
returns-clause-told c =
    plain_ones_end c.args.operands.now c.loop-operand.operand-index (plain c.loop-operand.asks) (plain_ones_asked (formulas c.args.operands.now) (plain c.args.self)) c.loop-operand-test.false c.loop-operand.invariant.told

pub returns-clause-adds : goal.returns-clause-adds
returns-clause-adds c = c.loop-operand.invariant.adds
