use Rattle.nv_table.proofs.Undone.{none_left}
use Rattle.nv_table.proofs.table.Table.exchange.Goals as goal

pub put-requires : goal.put-requires
put-requires g c = rw (c.take-old.ensures.records, c.number.ensures, c.record.ensures) (none_left g.R.Record.number _ _ c.take-old.ensures.rise)
