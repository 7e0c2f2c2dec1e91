use Rattle.sb_rows.proofs.PlacedAll.{AreRising}
use Rattle.sb_rows.proofs.table.Table.of.Given as goal

-- the rows so far are at rising places
abbrev pub invariant-loop-row : goal.invariant-loop-row
invariant-loop-row l = AreRising l.placed.items l.last l.yielded
