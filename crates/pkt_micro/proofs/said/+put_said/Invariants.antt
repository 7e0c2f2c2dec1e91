use Rattle.std.proofs.Common.{◌+◌, ◌*◌}
use Rattle.expr_core.specs.Formula.{formulas}
use Rattle.expr_core.specs.inner.FormulaCode.{formula_size, formulas_size}
use Rattle.pkt_micro.proofs.Lists.{SaidLeft}
use Rattle.pkt_micro.proofs.said.+put_said.Given as goal

abbrev pub decreases-put_said : goal.decreases-put_said
decreases-put_said l = 2 * formula_size l.typed.now

abbrev pub decreases-put_all_said : goal.decreases-put_all_said
decreases-put_all_said l = 2 * formulas_size (formulas l.operands.now) + 1

abbrev pub invariant-put_all_said-loop-operand : goal.invariant-put_all_said-loop-operand
invariant-put_all_said-loop-operand l = SaidLeft l.fn.list l.operands l.list l.operand-index
