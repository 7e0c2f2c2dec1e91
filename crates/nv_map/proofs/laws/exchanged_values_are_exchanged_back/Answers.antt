use Rattle.nv_map.proofs.Undone.{exchanged_back}
use Rattle.nv_map.proofs.laws.exchanged_values_are_exchanged_back.Goals as goal

pub returns : goal.returns
returns g c = exchanged_back g.met.K.Ord.total
