use Rattle.nv_map.proofs.Members.{member_value, value_member}
use Rattle.nv_map.proofs.Values.{exact_order}
use Rattle.nv_map.proofs.laws.entries_are_values_at_keys.Goals as goal

pub returns : goal.returns
returns g c = λ k v l r. (member_value g.met.K.Ord.total l (k, v) r, value_member g.met.K.Ord.total (exact_order g.K.PartialEq.eq g.K.Ord.cmp g.met.K.Ord.matches_eq g.met.K.Kept.exact) l k v)
