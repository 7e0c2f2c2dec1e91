use Rattle.nv_table.proofs.Found.{found_there, found_least, none_passes}
use Rattle.nv_table.proofs.laws.the_record_found_is_the_least.Goals as goal

pub returns : goal.returns
returns g c = record { there = found_there; least = found_least g.R.Record.number; none = none_passes }
