use Rattle.std.proofs.Common.{◌≡◌, []}
use Rattle.sb_rows.specs.Row.{put_rows}
use Rattle.sb_rows.proofs.new_rows.in_row_order.Given as goal

-- the rows so far are put
abbrev pub invariant-loop-row : goal.invariant-loop-row
invariant-loop-row l = l.ordered.items ≡ put_rows [] l.yielded
