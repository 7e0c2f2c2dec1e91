use Rattle.nv_map.proofs.Members.{member_with_entry, member_without_key, member_with_value}
use Rattle.nv_map.proofs.Values.{exact_order}
use Rattle.nv_map.proofs.laws.changes_keep_the_other_entries.Goals as goal

pub returns : goal.returns
returns g c = let exact = exact_order g.K.PartialEq.eq g.K.Ord.cmp g.met.K.Ord.matches_eq g.met.K.Kept.exact in
    record {
      put = member_with_entry g.met.K.Ord.total exact;
      taken = member_without_key g.met.K.Ord.total exact;
      exchanged = member_with_value g.met.K.Ord.total exact;
    }
