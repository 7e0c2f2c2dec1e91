use Rattle.std.proofs.Common.{[], arith}
use Rattle.sb_rows.specs.Row.{put_rows}
use Rattle.sb_rows.proofs.AllAtOnce.{put_rows_ordered, put_rows_move, put_members, apart_moves}
use Rattle.sb_rows.proofs.laws.rows_that_are_put_are_in_order.Goals as goal

pub returns : goal.returns
returns c = record {
  ordered = λ rows. put_rows_ordered rows [] (λ k d le lt. absurd (omega arith));
  members = put_members;
  apart = λ rows. apart_moves rows (put_rows [] rows) (put_rows_move rows []);
}
