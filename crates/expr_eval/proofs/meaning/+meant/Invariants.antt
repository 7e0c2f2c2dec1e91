use Rattle.std.proofs.Common.{◌+◌, ◌*◌}
use Rattle.expr_core.specs.inner.FormulaCode.{formula_size}
use Rattle.expr_eval.proofs.Operands.{AndLeft, OrLeft}
use Rattle.expr_eval.proofs.meaning.+meant.Given as goal

abbrev pub decreases-is_match_meant : goal.decreases-is_match_meant
decreases-is_match_meant g l = 2 * formula_size l.typed.now

abbrev pub decreases-is_operand_meant : goal.decreases-is_operand_meant
decreases-is_operand_meant g l = 2 * formula_size l.operand.now + 1

abbrev pub invariant-is_match_meant-loop-operand : goal.invariant-is_match_meant-loop-operand
invariant-is_match_meant-loop-operand g l = AndLeft l.wanted (g.E.Env.lookup l.env) l.packet l.operand-items l.operand-index

abbrev pub invariant-is_match_meant-loop-operand-2 : goal.invariant-is_match_meant-loop-operand-2
invariant-is_match_meant-loop-operand-2 g l = OrLeft l.wanted (g.E.Env.lookup l.env) l.packet l.operand-items l.operand-index
