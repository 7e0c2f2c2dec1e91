use Rattle.std.proofs.Common.{take}
use Rattle.std.specs.Prelude.{Contains, ◌↔◌}
use Rattle.sb_model.specs.declared.row.Row.{Row}
use Rattle.sb_rows.proofs.rows.Rows.take_all.Given as goal

-- the rows that the list has so far are gone, and no others
abbrev pub invariant-loop-stored : goal.invariant-loop-stored
invariant-loop-stored l = (r : Row) → Contains l.self r ↔ (Contains l.fn.self r × (Contains (take l.stored-index l.rows) r → ⊥))
