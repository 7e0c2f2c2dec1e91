use Rattle.std.proofs.Common.{◌++◌, map}
use Rattle.std.specs.Map.Iter.{deref_pair}
use Rattle.nv_map.specs.Map.{KeysRise}
use Rattle.inc_table.specs.Delta.{IsAbove, IsApplied}
use Rattle.inc_group.proofs.merge.merge.Given as goal

-- What is copied, with what is left, has the changes so far applied, and what is copied is not above them.
abbrev pub invariant-loop-key : goal.invariant-loop-key
invariant-loop-key g l = record {
  applied : IsApplied g.K.Ord.cmp (map deref_pair l.yielded) l.old (l.members ++ l.rest);
  rise : KeysRise g.K.Ord.cmp (l.members ++ l.rest);
  above : (k : g.row.K.Denot) → IsAbove g.K.Ord.cmp k (map deref_pair l.yielded) → IsAbove g.K.Ord.cmp k l.members;
}
