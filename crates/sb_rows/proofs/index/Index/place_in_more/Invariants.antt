use Rattle.std.proofs.Common.{ℕ, map}
use Rattle.std.specs.Map.Iter.{deref}
use Rattle.std.specs.Prelude.{Contains}
use Rattle.sb_rows.proofs.index.Index.place_in_more.Given as goal

-- the row is at none of the places so far
abbrev pub invariant-loop-there : goal.invariant-loop-there
invariant-loop-there l = (p : ℕ) → Contains (map deref l.yielded) (l.bucket, p) → Contains l.rows.entries (p, l.row) → ⊥
