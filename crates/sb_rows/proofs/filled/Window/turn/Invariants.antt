use Rattle.std.proofs.Common.{◌-◌}
use Rattle.sb_rows.specs.inner.Filled.{IsTurnBetween}
use Rattle.sb_rows.proofs.filled.Window.turn.Given as goal

-- lower buckets end between the two
abbrev pub invariant-loop-low : goal.invariant-loop-low
invariant-loop-low l = IsTurnBetween l.places l.bucket l.low l.high

abbrev pub decreases-loop-low : goal.decreases-loop-low
decreases-loop-low l = l.high - l.low
