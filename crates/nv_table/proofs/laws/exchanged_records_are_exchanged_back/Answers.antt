use Rattle.nv_table.proofs.Undone.{exchanged_found, exchanged_back}
use Rattle.nv_table.proofs.laws.exchanged_records_are_exchanged_back.Goals as goal

pub returns : goal.returns
returns g c = record { «record» = exchanged_found g.R.Record.number; records = exchanged_back g.R.Record.number }
