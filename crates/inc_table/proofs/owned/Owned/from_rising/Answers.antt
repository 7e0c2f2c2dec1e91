use Rattle.std.proofs.Common.{Ok, arith}
use Rattle.std.proofs.lemmas.Iterator.Adapters.{YieldsList-from_vec, fact_from_collect}
use Rattle.std.specs.BTreeMap.{IsFromIterResult}
use Rattle.nv_map.proofs.Values.{exact_order}
use Rattle.inc_table.proofs.Collected.{collected}
use Rattle.inc_table.proofs.owned.Owned.from_rising.Goals as goal

pub returns : goal.returns
returns g c =
    let all = fact_from_collect {E = Unit {0}} (IsFromIterResult g.K.Ord.cmp) (Ok c.in_ok-collect.field-0) c.in_ok-collect.ensures.ran (YieldsList-from_vec c.args.entries.items c.into_iter.ensures.rest (omega arith)) in
    collected g.met.K.Ord.total (exact_order g.K.PartialEq.eq g.K.Ord.cmp g.met.K.Ord.matches_eq g.met.K.Kept.exact) c.args.entries.items c.in_ok-collect.field-0 c.requires all
