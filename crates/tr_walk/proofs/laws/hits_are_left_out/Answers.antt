use Rattle.tr_walk.proofs.Hits.{left_out}
use Rattle.tr_walk.proofs.laws.hits_are_left_out.Goals as goal

pub returns : goal.returns
returns c = left_out
