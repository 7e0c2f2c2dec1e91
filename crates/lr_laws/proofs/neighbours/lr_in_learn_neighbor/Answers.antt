use Rattle.lr_laws.proofs.Learning.{learns}
use Rattle.lr_laws.proofs.neighbours.lr_in_learn_neighbor.Goals as goal

pub returns : goal.returns
returns c = learns
