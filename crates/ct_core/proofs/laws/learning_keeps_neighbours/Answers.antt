use Rattle.ct_core.proofs.Learnt.{keeps_learnt, keeps_without}
use Rattle.ct_core.proofs.laws.learning_keeps_neighbours.Goals as goal

pub returns : goal.returns
returns c = record { learnt = keeps_learnt; without = keeps_without }
