use Rattle.nv_table.proofs.Undone.{found_with, found_without}
use Rattle.nv_table.proofs.laws.edits_keep_the_records_of_other_numbers.Goals as goal

pub returns : goal.returns
returns g c = record { put = found_with g.R.Record.number; taken = found_without g.R.Record.number }
