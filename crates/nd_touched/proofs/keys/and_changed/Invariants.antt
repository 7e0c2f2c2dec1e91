use Rattle.std.proofs.Common.{◌≡◌, ◌++◌, take, map}
use Rattle.nd_touched.proofs.keys.and_changed.Given as goal

-- the keys, and those of the changes so far
abbrev pub invariant-loop-change : goal.invariant-loop-change
invariant-loop-change g l = l.all.items ≡ l.keys ++ map (λ e. e.0) (take l.change-index l.changed)
