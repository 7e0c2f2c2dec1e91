use Rattle.std.proofs.Common.{◌+◌, ◌*◌}
use Rattle.expr_core.specs.Formula.{formulas}
use Rattle.expr_core.specs.inner.FormulaCode.{formula_size, formulas_size}
use Rattle.expr_digest.specs.Digest.{number_fed}
use Rattle.expr_digest.proofs.Left.{OperandsLeft}
use Rattle.expr_digest.proofs.feed.+feed_match.Given as goal

abbrev pub decreases-feed_match : goal.decreases-feed_match
decreases-feed_match l = 2 * formula_size l.matching.now

abbrev pub decreases-feed_operands : goal.decreases-feed_operands
decreases-feed_operands l = 2 * formulas_size (formulas l.operands.now) + 1

abbrev pub invariant-feed_operands-loop-operand : goal.invariant-feed_operands-loop-operand
invariant-feed_operands-loop-operand l = OperandsLeft (number_fed l.fn.state l.kind) l.state l.operands l.operand-index
