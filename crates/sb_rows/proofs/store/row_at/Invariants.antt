use Rattle.std.proofs.Common.{◌≡◌}
use Rattle.std.specs.Prelude.{slice_get}
use Rattle.sb_rows.specs.inner.Store.{flat}
use Rattle.sb_rows.proofs.Made.{all_of}
use Rattle.sb_rows.proofs.store.row_at.Given as goal

-- the row is among those that are left, after so many of these
abbrev pub invariant-loop-table : goal.invariant-loop-table
invariant-loop-table l = slice_get (all_of l.table-iterator) l.left ≡ slice_get (flat l.tables.entries) l.at
