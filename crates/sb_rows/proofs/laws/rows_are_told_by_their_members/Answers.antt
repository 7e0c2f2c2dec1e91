use Rattle.sb_rows.proofs.AllAtOnce.{told_by_members}
use Rattle.sb_rows.proofs.laws.rows_are_told_by_their_members.Goals as goal

pub returns : goal.returns
returns c = told_by_members
