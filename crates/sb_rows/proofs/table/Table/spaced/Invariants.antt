use Rattle.std.proofs.Common.{◌≡◌, ◌++◌}
use Rattle.sb_rows.proofs.table.Table.spaced.Given as goal

-- the rows that are left go after those that are copied
abbrev pub invariant-loop-stored : goal.invariant-loop-stored
invariant-loop-stored l = l.copied.items ++ l.stored-iterator ≡ l.self
