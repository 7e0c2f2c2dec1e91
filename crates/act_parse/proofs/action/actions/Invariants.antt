use Rattle.std.proofs.Common.{length}
use Rattle.act_parse.proofs.Loops.{ActionsSoFar}
use Rattle.act_parse.proofs.action.actions.Given as goal

abbrev pub invariant-loop-alloc : goal.invariant-loop-alloc
invariant-loop-alloc l = ActionsSoFar l.text l.actions l.left

abbrev pub decreases-loop-alloc : goal.decreases-loop-alloc
decreases-loop-alloc l = length l.left
