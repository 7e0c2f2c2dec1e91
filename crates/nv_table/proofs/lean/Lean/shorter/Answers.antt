use Rattle.std.proofs.Common.{refl}
use Rattle.nv_map.proofs.Rising.{rise_none}
use Rattle.nv_table.specs.inner.Index.{mark_cmp}
use Rattle.nv_table.proofs.lean.Lean.shorter.Goals as goal

pub invariant_of-result : goal.invariant_of-result
invariant_of-result g c = record { marks_rise = rw c.new.ensures (rise_none (Unit {0}) (mark_cmp g.R.Tag.Ord.cmp)); marked = rw c.new.ensures (λ mark. refl) }
