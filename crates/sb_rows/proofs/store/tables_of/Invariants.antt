use Rattle.sb_rows.proofs.Made.{SoFar}
use Rattle.sb_rows.proofs.store.tables_of.Given as goal

-- the rows so far are in tables, or of the table at hand
abbrev pub invariant-loop-row : goal.invariant-loop-row
invariant-loop-row l = SoFar l.tables.items l.rows.items l.key l.row-iterator.rest.items l.fn.sorted.items
