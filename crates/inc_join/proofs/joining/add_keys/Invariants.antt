use Rattle.std.proofs.Common.{map}
use Rattle.std.specs.Map.Iter.{deref_pair}
use Rattle.inc_join.specs.inner.Index.{Covers}
use Rattle.inc_join.proofs.joining.add_keys.Given as goal

-- the keys so far are added
abbrev pub invariant-loop-key : goal.invariant-loop-key
invariant-loop-key g l = record {
  kept : Covers g.K.Ord.cmp l.fn.touched l.touched;
  covered : Covers g.K.Ord.cmp (map deref_pair l.yielded) l.touched;
}
