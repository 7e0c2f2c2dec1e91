use Rattle.nv_table.proofs.Undone.{put_last}
use Rattle.nv_table.proofs.laws.records_of_new_numbers_go_last.Goals as goal

pub returns : goal.returns
returns g c = put_last g.R.Record.number
