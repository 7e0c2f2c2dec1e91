use Rattle.inc_join.proofs.Following.{follows_left, follows_right, follows_table}
use Rattle.inc_join.proofs.laws.joins_follow_any_deltas.Goals as goal

pub returns : goal.returns
returns g c = record {
  table = follows_table g.L.LeftKey.Ord.cmp g.L.RightKey.Ord.cmp g.L.Link.link_of;
  left = follows_left g.L.LeftKey.Ord.cmp g.L.RightKey.Ord.cmp g.L.Link.link_of;
  right = follows_right g.L.LeftKey.Ord.cmp g.L.RightKey.Ord.cmp g.L.Link.link_of;
}
