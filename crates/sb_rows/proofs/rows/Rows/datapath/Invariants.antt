use Rattle.std.proofs.Common.{map}
use Rattle.std.specs.Map.Iter.{deref_pair}
use Rattle.sb_rows.proofs.OfDatapath.{ArePutIn}
use Rattle.sb_rows.proofs.rows.Rows.datapath.Given as goal

-- the tables that were gone through are at the places of their stages
abbrev pub invariant-loop-key : goal.invariant-loop-key
invariant-loop-key l = ArePutIn l.first (map deref_pair l.yielded) l.tables
