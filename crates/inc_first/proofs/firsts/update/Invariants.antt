use Rattle.std.proofs.Common.{map}
use Rattle.std.specs.Map.Iter.{deref_pair}
use Rattle.nv_map.specs.Map.{KeysRise}
use Rattle.inc_table.specs.Delta.{IsAbove, IsDifference}
use Rattle.inc_first.specs.inner.Marks.{IsUpdated, MarksRise}
use Rattle.inc_first.proofs.firsts.update.Given as goal

-- The groups so far have their first members, and what changed is told.
abbrev pub invariant-loop-group : goal.invariant-loop-group
invariant-loop-group g l = record {
  table : IsUpdated g.A.Ord.cmp l.marks (map deref_pair l.yielded) l.fn.table l.table;
  marks : MarksRise g.K.Ord.cmp g.A.Ord.cmp (map deref_pair l.yielded) l.marks;
  rise : KeysRise g.A.Ord.cmp l.table;
  changed : IsDifference g.A.Ord.cmp g.K.PartialEq.eq l.fn.table l.table l.changed;
  told : KeysRise g.A.Ord.cmp l.changed;
  above : (k : g.row.A.Denot) → IsAbove g.A.Ord.cmp k (map deref_pair l.yielded) → IsAbove g.A.Ord.cmp k l.changed;
}
