use Rattle.nv_table.proofs.Members.{member_with, member_without}
use Rattle.nv_table.proofs.laws.edits_keep_the_other_records.Goals as goal

pub returns : goal.returns
returns g c = record { put = member_with g.R.Record.number; taken = member_without g.R.Record.number }
