use Rattle.std.proofs.Common.{length}
use Rattle.act_parse.proofs.Loops.{StepsSoFar}
use Rattle.act_parse.proofs.action.all_steps.Given as goal

abbrev pub invariant-loop-alloc : goal.invariant-loop-alloc
invariant-loop-alloc l = StepsSoFar l.text l.steps l.left

abbrev pub decreases-loop-alloc : goal.decreases-loop-alloc
decreases-loop-alloc l = length l.left
