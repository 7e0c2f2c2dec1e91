use Rattle.std.proofs.Common.{◌≡◌, vec_len, take}
use Rattle.ct_state.specs.Work.{unlearnt}
use Rattle.ct_state.proofs.work.forget.Given as goal

-- with those that are left, the neighbours are those of the beginning
abbrev pub invariant-loop-old : goal.invariant-loop-old
invariant-loop-old l = unlearnt l.olds.items l.nbrs ≡ unlearnt l.fn.olds.items (take l.fn.known l.fn.nbrs)

abbrev pub decreases-loop-old : goal.decreases-loop-old
decreases-loop-old l = vec_len l.olds
