use Rattle.std.proofs.Common.{◌-◌}
use Rattle.sb_rows.proofs.PlacedTurn.{IsSought}
use Rattle.sb_rows.proofs.table.turning_place.Given as goal

-- the place is among those between
abbrev pub invariant-loop-low : goal.invariant-loop-low
invariant-loop-low l = IsSought l.row l.rows.entries l.low l.high

abbrev pub decreases-loop-low : goal.decreases-loop-low
decreases-loop-low l = l.high - l.low
