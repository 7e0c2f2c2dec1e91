use Rattle.std.proofs.Common.{subst}
use Rattle.nv_map.proofs.Rising.{rise_none}
use Rattle.nv_map.proofs.Values.{exact_order}
use Rattle.inc_group.proofs.Put.{all_put}
use Rattle.inc_first.specs.First.{HasFirsts}
use Rattle.inc_first.proofs.Ordered.{firsts_none, marked_empty}
use Rattle.inc_first.proofs.node.FirstNode.rebuild.Goals as goal

pub apply-requires-clause-rise : goal.apply-requires-clause-rise
apply-requires-clause-rise g c = rw c.new.ensures (rise_none g.row.G-Value.Denot g.G.Key.Ord.cmp)

pub apply-requires-clause-marked : goal.apply-requires-clause-marked
apply-requires-clause-marked g c = marked_empty g.G.Key.Ord.cmp g.G.Group.Ord.cmp g.G.Groups.groups_of c.new.result c.new-2.result c.new.ensures c.new-2.ensures

pub apply-requires-clause-firsts : goal.apply-requires-clause-firsts
apply-requires-clause-firsts g c = firsts_none g.G.Group.Ord.cmp g.G.Groups.groups_of c.new.result c.new-3.result c.new.ensures c.new-3.ensures

pub returns-clause-inputs : goal.returns-clause-inputs
returns-clause-inputs g c =
    all_put g.G.Key.Ord.cmp g.met.G.Key.Ord.total (exact_order g.G.Key.PartialEq.eq g.G.Key.Ord.cmp g.met.G.Key.Ord.matches_eq g.met.G.Key.Kept.exact) c.args.inputs.now c.new.result c.apply.new.inputs c.in_ok-delta.delta c.puts.ensures.rise c.in_ok-apply.ensures.rise c.new.ensures c.in_ok-delta.ensures.puts c.in_ok-apply.ensures.inputs

pub returns-clause-table : goal.returns-clause-table
returns-clause-table g c =
    let same = all_put g.G.Key.Ord.cmp g.met.G.Key.Ord.total (exact_order g.G.Key.PartialEq.eq g.G.Key.Ord.cmp g.met.G.Key.Ord.matches_eq g.met.G.Key.Kept.exact) c.args.inputs.now c.new.result c.apply.new.inputs c.in_ok-delta.delta c.puts.ensures.rise c.in_ok-apply.ensures.rise c.new.ensures c.in_ok-delta.ensures.puts c.in_ok-apply.ensures.inputs in
    subst (λ l. HasFirsts g.G.Group.Ord.cmp g.G.Groups.groups_of l c.apply.new.table) same c.in_ok-apply.ensures.firsts
