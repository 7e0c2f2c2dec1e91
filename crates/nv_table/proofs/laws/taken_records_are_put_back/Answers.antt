use Rattle.nv_table.proofs.Undone.{taken_back}
use Rattle.nv_table.proofs.laws.taken_records_are_put_back.Goals as goal

pub returns : goal.returns
returns g c = taken_back g.R.Record.number
