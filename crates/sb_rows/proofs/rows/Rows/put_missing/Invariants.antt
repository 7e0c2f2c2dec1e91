use Rattle.std.proofs.Common.{take, ◌⊎◌}
use Rattle.std.specs.Prelude.{Contains}
use Rattle.sb_model.specs.declared.row.Row.{Row}
use Rattle.sb_rows.proofs.rows.Rows.put_missing.Given as goal

-- the rows that the list has so far are there, with the old ones and no others
abbrev pub invariant-loop-stored : goal.invariant-loop-stored
invariant-loop-stored l = record {
  put : (r : Row) → Contains (take l.stored-index l.rows) r → Contains l.self r;
  kept : (r : Row) → Contains l.fn.self r → Contains l.self r;
  known : (r : Row) → Contains l.self r → Contains l.fn.self r ⊎ Contains l.rows r;
}
