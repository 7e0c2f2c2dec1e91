use Rattle.std.proofs.Common.{map}
use Rattle.std.specs.Map.Iter.{deref_pair}
use Rattle.nv_map.specs.Map.{KeysRise}
use Rattle.inc_table.specs.Delta.{IsAbove, IsDifference}
use Rattle.inc_group.specs.Group.{same_members}
use Rattle.inc_group.specs.inner.Moves.{AreWhole, IsRegrouped}
use Rattle.inc_group.proofs.grouping.regroup.Given as goal

-- The groups so far are changed, and what changed is told.
abbrev pub invariant-loop-group : goal.invariant-loop-group
invariant-loop-group g l = record {
  table : IsRegrouped g.A.Ord.cmp g.K.Ord.cmp (map deref_pair l.yielded) l.fn.table l.table;
  whole : AreWhole g.A.Ord.cmp g.K.Ord.cmp l.table;
  rise : KeysRise g.A.Ord.cmp l.table;
  told : IsDifference g.A.Ord.cmp (same_members g.K.PartialEq.eq g.V.PartialEq.eq) l.fn.table l.table l.changed;
  rises : KeysRise g.A.Ord.cmp l.changed;
  above : (k : g.row.A.Denot) → IsAbove g.A.Ord.cmp k (map deref_pair l.yielded) → IsAbove g.A.Ord.cmp k l.changed;
}
