use Rattle.std.proofs.Common.{◌≡◌, ℕ, ◌<◌, get_or}
use Rattle.std.specs.Prelude.{Contains}
use Rattle.sb_rows.proofs.index.Index.place_in_filled.Given as goal

-- the row is at none of the places so far
abbrev pub invariant-loop-there : goal.invariant-loop-there
invariant-loop-there l = (k p : ℕ) → k < l.there-index → get_or l.there-items k (l.bucket, p) ≡ (l.bucket, p) → Contains l.rows.entries (p, l.row) → ⊥
