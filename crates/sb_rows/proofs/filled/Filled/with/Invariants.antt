use Rattle.std.proofs.Common.{◌≡◌, ◌++◌, map}
use Rattle.std.specs.Map.Iter.{deref}
use Rattle.sb_rows.proofs.filled.Filled.with.Given as goal

-- the others so far follow the first ones
abbrev pub invariant-loop-place : goal.invariant-loop-place
invariant-loop-place l = l.places.items ≡ l.self ++ map deref l.yielded
