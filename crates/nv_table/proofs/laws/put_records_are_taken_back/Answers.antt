use Rattle.nv_table.proofs.Undone.{put_back, is_found}
use Rattle.nv_table.proofs.laws.put_records_are_taken_back.Goals as goal

pub returns : goal.returns
returns g c = record { «record» = is_found g.R.Record.number; records = put_back g.R.Record.number }
