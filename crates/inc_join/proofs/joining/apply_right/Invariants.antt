use Rattle.std.specs.List.{AllByRecursion}
use Rattle.std.specs.Map.{keys_of}
use Rattle.inc_table.specs.Delta.{IsApplied}
use Rattle.inc_join.specs.inner.Index.{IsTouched}
use Rattle.inc_join.proofs.joining.apply_right.Given as goal

-- The right values have the changes so far applied, and the left keys that name what changed are touched.
abbrev pub invariant-loop-key : goal.invariant-loop-key
invariant-loop-key g l = record {
  right : IsApplied g.L.RightKey.Ord.cmp l.yielded l.fn.rights l.rights;
  touched : AllByRecursion (IsTouched g.L.LeftKey.Ord.cmp g.L.RightKey.Ord.cmp l.index l.touched) (keys_of l.yielded);
}
