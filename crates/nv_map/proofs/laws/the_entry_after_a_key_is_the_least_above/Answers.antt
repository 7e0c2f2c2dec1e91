use Rattle.nv_map.proofs.Members.{after_is, none_is_after}
use Rattle.nv_map.proofs.laws.the_entry_after_a_key_is_the_least_above.Goals as goal

pub returns : goal.returns
returns g c = record {
  there = λ k e l r f. let it = after_is g.met.K.Ord.total k l e r f in (it.0, it.1);
  least = λ k e y l r f. (after_is g.met.K.Ord.total k l e r f).2 y;
  none = λ k y l f m. none_is_after g.met.K.Ord.total k l y f m;
}
