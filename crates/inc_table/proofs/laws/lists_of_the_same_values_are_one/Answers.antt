use Rattle.nv_map.proofs.Values.{exact_order}
use Rattle.inc_table.proofs.Applied.{same_lists}
use Rattle.inc_table.proofs.laws.lists_of_the_same_values_are_one.Goals as goal

pub returns : goal.returns
returns g c = same_lists g.met.K.Ord.total (exact_order g.K.PartialEq.eq g.K.Ord.cmp g.met.K.Ord.matches_eq g.met.K.Kept.exact)
