use Rattle.std.proofs.Common.{◌≡◌, ◌≤◌, ◌<◌, ◌-◌, true, false, length}
use Rattle.std.specs.List.{AllWithin}
use Rattle.std.specs.Ordering.{is_le}
use Rattle.sb_rows.specs.Row.{row_cmp}
use Rattle.sb_rows.proofs.by_text.place_among.Given as goal

-- the rows before the one are not after the new one, and those from the other on are
abbrev pub invariant-loop-low : goal.invariant-loop-low
invariant-loop-low l = record {
  order : l.low ≤ l.high;
  bound : l.high ≤ length l.rows;
  middle : l.low < l.high → (l.low ≤ l.middle) × (l.middle < l.high);
  before : AllWithin (λ y. is_le (row_cmp y l.row) ≡ true) l.rows 0 l.low;
  after : AllWithin (λ y. is_le (row_cmp y l.row) ≡ false) l.rows l.high (length l.rows);
}

abbrev pub decreases-loop-low : goal.decreases-loop-low
decreases-loop-low l = l.high - l.low
