use Rattle.std.proofs.Common.{length, ◌+◌, ◌*◌}
use Rattle.expr_parse.specs.Grammar.{levels, unit}
use Rattle.expr_parse.proofs.Chains.{SoFar}
use Rattle.expr_parse.proofs.formula.+formula.Given as goal

-- each level is read by the functions above those that it is made of
abbrev pub decreases-negated : goal.decreases-negated
decreases-negated l = 6 * l.levels

abbrev pub decreases-enclosed : goal.decreases-enclosed
decreases-enclosed l = 6 * l.levels

abbrev pub decreases-operand : goal.decreases-operand
decreases-operand l = 6 * l.levels + 1

abbrev pub decreases-unit : goal.decreases-unit
decreases-unit l = 6 * l.levels + 2

abbrev pub decreases-chain : goal.decreases-chain
decreases-chain l = 6 * l.levels + 3

abbrev pub decreases-whole : goal.decreases-whole
decreases-whole l = 6 * l.levels + 4

abbrev pub invariant-chain-loop-rest : goal.invariant-chain-loop-rest
invariant-chain-loop-rest l = SoFar (unit l.end (levels l.end l.levels)) l.operator l.fn.first l.tokens l.units.items l.left

abbrev pub decreases-chain-loop-rest : goal.decreases-chain-loop-rest
decreases-chain-loop-rest l = length l.left
