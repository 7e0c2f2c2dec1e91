-- The place of a row among rows.
use Rattle.std.specs.Prelude.{◌≡◌, ℕ, ◌<◌, List, length}
use Rattle.std.specs.List.{slice_index_or}
use Rattle.sb_model.specs.declared.row.Row.{Row}

-- the row is at this place
abbrev pub IsAt : Row → List Row → ℕ → Type 0
IsAt row rows at = (at < length rows) × (slice_index_or rows at row ≡ row)
