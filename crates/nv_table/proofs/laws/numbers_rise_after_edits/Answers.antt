use Rattle.nv_table.proofs.Undone.{rise_with, rise_without, rise_exchanged}
use Rattle.nv_table.proofs.laws.numbers_rise_after_edits.Goals as goal

pub returns : goal.returns
returns g c = record { put = rise_with g.R.Record.number; taken = rise_without g.R.Record.number; exchanged = rise_exchanged g.R.Record.number }
