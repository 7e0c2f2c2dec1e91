use Rattle.std.proofs.Common.{◌≡◌, map}
use Rattle.std.specs.Map.Iter.{deref_pair}
use Rattle.inc_table.specs.Delta.{puts_of}
use Rattle.inc_table.proofs.owned.Owned.puts.Given as goal

-- what is gone through is put
abbrev pub invariant-loop-key : goal.invariant-loop-key
invariant-loop-key g l = l.delta ≡ puts_of (map deref_pair l.yielded)
