use Rattle.nv_map.proofs.Values.{exact_order}
use Rattle.inc_first.proofs.Ordered.{one_table}
use Rattle.inc_first.proofs.laws.inputs_have_one_table_of_firsts.Goals as goal

pub returns : goal.returns
returns g c = one_table g.met.G.Group.Ord.total (exact_order g.G.Group.PartialEq.eq g.G.Group.Ord.cmp g.met.G.Group.Ord.matches_eq g.met.G.Group.Kept.exact) g.G.Groups.groups_of
