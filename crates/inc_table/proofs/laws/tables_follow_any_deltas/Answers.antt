use Rattle.inc_table.proofs.Following.{follows_inputs, follows_table}
use Rattle.inc_table.proofs.laws.tables_follow_any_deltas.Goals as goal

pub returns : goal.returns
returns g c = record {
  table = follows_table g.M.Key.Ord.cmp g.M.Maker.out_of;
  inputs = follows_inputs g.M.Key.Ord.cmp g.M.Maker.out_of;
}
