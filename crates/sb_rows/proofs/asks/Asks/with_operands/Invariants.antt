use Rattle.std.proofs.Common.{◌≡◌, drop}
use Rattle.expr_core.specs.Formula.{formulas}
use Rattle.expr_core.specs.Formula.Formula.{And}
use Rattle.sb_rows.specs.inner.Asks.{Adds}
use Rattle.sb_rows.specs.inner.Plain.{operands_asked, plain}
use Rattle.sb_rows.proofs.asks.Asks.with_operands.Given as goal

-- the conjunction asks for what is asked so far, and with the other operands this is what it asks
abbrev pub invariant-loop-operand : goal.invariant-loop-operand
invariant-loop-operand l = record {
  adds : Adds (And (formulas l.operands)) l.fn.self l.asks;
  told : operands_asked (formulas (drop l.operand-index l.operands)) (plain l.asks) ≡ operands_asked (formulas l.operands) (plain l.fn.self);
}
