use Rattle.std.proofs.Common.{[], sym, subst}
use Rattle.sb_rows.specs.Row.{IsInRowOrder}
use Rattle.sb_rows.proofs.AllAtOnce.{put_rows_ordered}
use Rattle.sb_rows.proofs.KeysFirst.{none_in_order}
use Rattle.sb_rows.proofs.new_rows.in_row_order.Goals as goal

pub put_in_place-requires : goal.put_in_place-requires
put_in_place-requires c = subst IsInRowOrder (sym c.loop-row.invariant) (put_rows_ordered c.loop-row.yielded [] none_in_order)
