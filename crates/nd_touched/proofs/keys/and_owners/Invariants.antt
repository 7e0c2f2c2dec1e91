use Rattle.std.proofs.Common.{◌≡◌, ◌++◌, take, map}
use Rattle.nd_touched.proofs.keys.and_owners.Given as goal

-- the keys, and the first of the pairs so far
abbrev pub invariant-loop-pair : goal.invariant-loop-pair
invariant-loop-pair l = l.all.items ≡ l.keys ++ map (λ e. e.0) (take l.pair-index l.pairs)
