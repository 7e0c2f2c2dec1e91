use Rattle.nv_map.proofs.Undone.{taken_put_back}
use Rattle.nv_map.proofs.laws.taken_entries_are_put_back.Goals as goal

pub returns : goal.returns
returns g c = taken_put_back g.met.K.Ord.total
