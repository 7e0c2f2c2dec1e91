use Rattle.std.proofs.Common.{◌≡◌, map}
use Rattle.std.specs.Map.Iter.{deref_pair}
use Rattle.inc_table.proofs.owned.Owned.copy.Given as goal

-- what is gone through is copied
abbrev pub invariant-loop-key : goal.invariant-loop-key
invariant-loop-key g l = l.copied.items ≡ map deref_pair l.yielded
