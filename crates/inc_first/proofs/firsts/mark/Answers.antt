use Rattle.inc_first.proofs.Marked.{marked_more, marked_none, touched_more, touched_none}
use Rattle.inc_first.proofs.firsts.mark.Goals as goal

pub loop-group-init : goal.loop-group-init
loop-group-init g c = record {
  marked = marked_none g.met.A.Ord.total g.K.Ord.cmp (c.args.key.now, c.args.change.now) c.args.marks.now;
  touched = touched_none g.met.A.Ord.total c.args.touched.now;
}

pub loop-group-preserved : goal.loop-group-preserved
loop-group-preserved g c = record {
  marked = marked_more g.met.A.Ord.total g.K.Ord.cmp c.args.groups.now c.loop-group.group-index c.group-item.result (c.args.key.now, c.args.change.now) c.args.marks.now c.loop-group.marks c.mark_in.new.marks c.loop-group-test.true c.group-item.is c.loop-group.invariant.marked c.in_ok-mark_in.ensures;
  touched = touched_more g.met.A.Ord.total c.args.groups.now c.loop-group.group-index c.group-item.result c.args.touched.now c.loop-group.touched c.set.new.self c.loop-group-test.true c.group-item.is c.loop-group.invariant.touched c.in_ok-set.ensures.ok;
}
