use Rattle.std.proofs.Common.{sym, ◌∙◌}
use Rattle.act_parse.specs.inner.Wanted.{begins}
use Rattle.act_parse.proofs.Reach.{so_far_more, so_far_stops}
use Rattle.act_parse.proofs.wanted.reach.Goals as goal

pub returns-then-not-branch-clause-value : goal.returns-then-not-branch-clause-value
returns-then-not-branch-clause-value c = so_far_stops (begins c.args.wanted) c.args.text.now c.loop-len.len c.loop-len-test.true (sym c.in_ok-begins.ensures ∙ c.if-not-branch.true) c.loop-len.invariant

pub loop-len-preserved : goal.loop-len-preserved
loop-len-preserved c = so_far_more (begins c.args.wanted) c.args.text.now c.loop-len.len c.loop-len-test.true (sym c.in_ok-begins.ensures ∙ c.if-not-branch.false) c.loop-len.invariant
