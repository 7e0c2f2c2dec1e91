use Rattle.std.proofs.Common.{map}
use Rattle.std.specs.Map.Iter.{deref_pair}
use Rattle.nv_map.specs.Map.{KeysRise}
use Rattle.inc_table.specs.Delta.{IsAbove, IsDifference}
use Rattle.inc_join.specs.Join.{same_joined, with_right}
use Rattle.inc_join.specs.inner.Index.{IsRejoined}
use Rattle.inc_join.proofs.joining.rejoin.Given as goal

-- The left values at the keys so far are joined anew, and what changed is told.
abbrev pub invariant-loop-key : goal.invariant-loop-key
invariant-loop-key g l = record {
  table : IsRejoined g.L.LeftKey.Ord.cmp (with_right g.L.RightKey.Ord.cmp g.L.Link.link_of l.rights) (map deref_pair l.yielded) l.fn.table l.table;
  rise : KeysRise g.L.LeftKey.Ord.cmp l.table;
  told : IsDifference g.L.LeftKey.Ord.cmp (same_joined g.L.Left.PartialEq.eq g.L.Right.PartialEq.eq) l.fn.table l.table l.changed;
  above : (k : g.row.L-LeftKey.Denot) → IsAbove g.L.LeftKey.Ord.cmp k (map deref_pair l.yielded) → IsAbove g.L.LeftKey.Ord.cmp k l.changed;
}
