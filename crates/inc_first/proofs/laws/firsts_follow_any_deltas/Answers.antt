use Rattle.inc_first.proofs.Following.{follows_inputs, follows_table}
use Rattle.inc_first.proofs.laws.firsts_follow_any_deltas.Goals as goal

pub returns : goal.returns
returns g c = record {
  table = follows_table g.G.Key.Ord.cmp g.G.Group.Ord.cmp g.G.Groups.groups_of;
  inputs = follows_inputs g.G.Key.Ord.cmp g.G.Group.Ord.cmp g.G.Groups.groups_of;
}
