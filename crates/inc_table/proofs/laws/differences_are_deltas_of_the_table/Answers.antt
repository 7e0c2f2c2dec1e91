use Rattle.inc_table.proofs.Following.{difference_alters, difference_applied}
use Rattle.inc_table.proofs.laws.differences_are_deltas_of_the_table.Goals as goal

pub returns : goal.returns
returns g c = record {
  applied = difference_applied g.met.K.Ord.total g.V.PartialEq.eq g.met.V.Kept.exact;
  alters = difference_alters g.met.K.Ord.total g.V.PartialEq.eq;
}
