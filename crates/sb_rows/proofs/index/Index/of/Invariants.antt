use Rattle.sb_rows.proofs.ToldRows.{AreFiled}
use Rattle.sb_rows.proofs.index.Index.of.Given as goal

-- what was told so far is filed
abbrev pub invariant-loop-row : goal.invariant-loop-row
invariant-loop-row l = AreFiled l.yielded l.shapes.items l.own l.filled.items
