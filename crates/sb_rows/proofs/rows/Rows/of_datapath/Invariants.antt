use Rattle.std.proofs.Common.{◌≡◌, map}
use Rattle.std.specs.Map.Iter.{deref_pair}
use Rattle.sb_rows.specs.inner.Store.{flat}
use Rattle.sb_rows.proofs.rows.Rows.of_datapath.Given as goal

-- the rows of the tables that were gone through are listed
abbrev pub invariant-loop-table : goal.invariant-loop-table
invariant-loop-table l = map (λ r. r.now) l.rows.items ≡ flat (map deref_pair l.yielded)
