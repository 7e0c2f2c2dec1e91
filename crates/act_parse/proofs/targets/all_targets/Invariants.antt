use Rattle.std.proofs.Common.{length}
use Rattle.act_parse.proofs.Loops.{TargetsSoFar}
use Rattle.act_parse.proofs.targets.all_targets.Given as goal

abbrev pub invariant-loop-rest : goal.invariant-loop-rest
invariant-loop-rest l = TargetsSoFar l.text l.has_port l.targets l.left

abbrev pub decreases-loop-rest : goal.decreases-loop-rest
decreases-loop-rest l = length l.left
