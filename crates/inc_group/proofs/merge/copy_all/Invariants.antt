use Rattle.std.proofs.Common.{◌≡◌, ◌++◌, length}
use Rattle.inc_group.proofs.merge.copy_all.Given as goal

-- what is copied, with what is left, is all
abbrev pub invariant-loop-first : goal.invariant-loop-first
invariant-loop-first g l = l.members ++ l.rest ≡ l.fn.members ++ l.fn.rest

abbrev pub decreases-loop-first : goal.decreases-loop-first
decreases-loop-first g l = length l.rest
