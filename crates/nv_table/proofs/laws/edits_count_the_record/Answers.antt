use Rattle.nv_table.proofs.Undone.{length_with, sum_with, length_without, sum_without}
use Rattle.nv_table.proofs.laws.edits_count_the_record.Goals as goal

pub returns : goal.returns
returns g c = record { put = length_with g.R.Record.number; put_sum = sum_with g.R.Record.number; taken = length_without g.R.Record.number; taken_sum = sum_without g.R.Record.number }
