use Rattle.std.proofs.Common.{length}
use Rattle.expr_parse.proofs.Chains.{SetSoFar}
use Rattle.expr_parse.proofs.right.set.Given as goal

abbrev pub invariant-loop-rest : goal.invariant-loop-rest
invariant-loop-rest l = SetSoFar l.end l.tokens l.items l.left

abbrev pub decreases-loop-rest : goal.decreases-loop-rest
decreases-loop-rest l = length l.left
