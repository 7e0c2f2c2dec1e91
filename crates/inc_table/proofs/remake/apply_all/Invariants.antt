use Rattle.inc_table.specs.Delta.{IsApplied}
use Rattle.inc_table.proofs.remake.apply_all.Given as goal

-- the changes so far are applied
abbrev pub invariant-loop-key : goal.invariant-loop-key
invariant-loop-key g l = IsApplied g.K.Ord.cmp l.yielded l.fn.entries l.entries
