use Rattle.std.proofs.Common.{◌≡◌, ◌++◌, map, take}
use Rattle.std.specs.List.{flat_map}
use Rattle.sb_rows.specs.Listing.{rows_in, row_text}
use Rattle.sb_rows.proofs.listing.put_rows.Given as goal

-- the lines of the rows so far come after what was there
abbrev pub invariant-loop-row : goal.invariant-loop-row
invariant-loop-row l = l.out.items ≡ l.fn.out.items ++ flat_map row_text (rows_in l.pipeline (take l.row-index (map (λ r. r.now) l.rows)))
