use Rattle.tr_walk.proofs.Finds.{find}
use Rattle.tr_walk.proofs.laws.rows_find_what_they_read.Goals as goal

pub returns : goal.returns
returns c = find
