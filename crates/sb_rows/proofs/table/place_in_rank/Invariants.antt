use Rattle.std.proofs.Common.{ℕ, ◌↔◌}
use Rattle.std.specs.List.{Contains}
use Rattle.sb_rows.proofs.table.place_in_rank.Given as goal

-- where the row is, it is among those that are left
abbrev pub invariant-loop-place : goal.invariant-loop-place
invariant-loop-place l = (at : ℕ) → Contains l.place-iterator (at, l.row) ↔ Contains l.rows.entries (at, l.row)
