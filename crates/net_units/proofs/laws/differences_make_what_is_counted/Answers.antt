use Rattle.nv_map.proofs.Values.{exact_order}
use Rattle.net_units.proofs.Counting.{counts_alike, counts_of_difference}
use Rattle.net_units.proofs.laws.differences_make_what_is_counted.Goals as goal

pub returns : goal.returns
returns g c =
    let exact = exact_order g.K.PartialEq.eq g.K.Ord.cmp g.met.K.Ord.matches_eq g.met.K.Kept.exact in
    record { made = counts_of_difference g.met.K.Ord.total exact g.I.PartialEq.eq; alike = counts_alike g.met.K.Ord.total exact g.I.PartialEq.eq }
