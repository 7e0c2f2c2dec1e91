use Rattle.std.proofs.Common.{ap, sym, ◌∙◌}
use Rattle.expr_core.specs.Formula.{formulas}
use Rattle.sb_rows.specs.inner.Plain.{operand_asked, operands_asked, plain}
use Rattle.sb_rows.proofs.Asked.{operand_adds}
use Rattle.sb_rows.proofs.Asking.{operands_end, operands_next}
use Rattle.sb_rows.proofs.asks.Asks.with_operands.Goals as goal

pub loop-operand-preserved : goal.loop-operand-preserved
loop-operand-preserved c =
    let operands = c.args.operands.now in
    let at = c.loop-operand.operand-index in
    let asked = c.with_operand-asks.ensures in
    record {
      adds = operand_adds operands at c.operand-item.result _ _ _ c.loop-operand-test.true (rw (sym c.operand-item.is) asked.adds) c.loop-operand.invariant.adds;
      told = operands_next operands at c.operand-item.result (plain c.loop-operand.asks) (plain c.with_operand-asks.result) (operands_asked (formulas operands) (plain c.args.self)) c.loop-operand-test.true
          (asked.told ∙ ap (λ f. operand_asked f (plain c.loop-operand.asks)) c.operand-item.is) c.loop-operand.invariant.told;
    }

pub returns-clause-told : goal.returns-clause-told
returns-clause-told c =
    operands_end c.args.operands.now c.loop-operand.operand-index (plain c.loop-operand.asks) (operands_asked (formulas c.args.operands.now) (plain c.args.self)) c.loop-operand-test.false c.loop-operand.invariant.told

pub returns-clause-adds : goal.returns-clause-adds
returns-clause-adds c = c.loop-operand.invariant.adds
