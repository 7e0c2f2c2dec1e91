use Rattle.nv_table.proofs.Found.{own_record}
use Rattle.nv_table.proofs.Undone.{found_number}
use Rattle.nv_table.proofs.laws.found_records_have_the_number.Goals as goal

pub returns : goal.returns
returns g c = record { own = own_record g.R.Record.number; number = found_number g.R.Record.number }
