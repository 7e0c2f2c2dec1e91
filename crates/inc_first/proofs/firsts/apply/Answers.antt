use Rattle.nv_map.proofs.Values.{exact_order}
use Rattle.inc_first.proofs.Ordered.{still_first}
use Rattle.inc_first.proofs.firsts.apply.Goals as goal

pub returns-clause-firsts : goal.returns-clause-firsts
returns-clause-firsts g c =
    still_first g.met.G.Key.Ord.total (exact_order g.G.Key.PartialEq.eq g.G.Key.Ord.cmp g.met.G.Key.Ord.matches_eq g.met.G.Key.Kept.exact) g.G.Group.Ord.cmp g.G.Groups.groups_of c.args.inputs.now c.apply_to_inputs.new.inputs c.args.marks.now c.apply_to_inputs.new.marks c.in_ok-touched.touched c.args.table.now c.update.new.table
    c.requires.rise c.in_ok-touched.ensures.rise c.requires.marked c.in_ok-touched.ensures.marked c.in_ok-touched.ensures.others c.in_ok-changed.ensures.table c.in_ok-changed.ensures.marks c.in_ok-changed.ensures.rise c.requires.firsts
