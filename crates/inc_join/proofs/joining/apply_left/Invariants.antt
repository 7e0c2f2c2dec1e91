use Rattle.std.proofs.Common.{◌≡◌}
use Rattle.nv_map.specs.Map.{KeysRise}
use Rattle.inc_table.specs.Delta.{IsAbove, IsApplied, IsDifference}
use Rattle.inc_join.specs.Join.{joined, lefts_of, same_joined}
use Rattle.inc_join.specs.inner.Index.{IsIndexed}
use Rattle.inc_join.proofs.joining.apply_left.Given as goal

-- The left values have the changes so far applied, the table and the index are theirs, and what changed in the table is told.
abbrev pub invariant-loop-key : goal.invariant-loop-key
invariant-loop-key g l = record {
  left : IsApplied g.L.LeftKey.Ord.cmp l.yielded (lefts_of l.fn.table) (lefts_of l.table);
  table : l.table ≡ joined g.L.RightKey.Ord.cmp g.L.Link.link_of (lefts_of l.table) l.rights;
  rise : KeysRise g.L.LeftKey.Ord.cmp l.table;
  indexed : IsIndexed g.L.LeftKey.Ord.cmp g.L.RightKey.Ord.cmp g.L.Link.link_of l.table l.index;
  told : IsDifference g.L.LeftKey.Ord.cmp (same_joined g.L.Left.PartialEq.eq g.L.Right.PartialEq.eq) l.fn.table l.table l.changed;
  above : (k : g.row.L-LeftKey.Denot) → IsAbove g.L.LeftKey.Ord.cmp k l.yielded → IsAbove g.L.LeftKey.Ord.cmp k l.changed;
}
