use Rattle.std.proofs.Common.{◌∙◌}
use Rattle.nb_change.proofs.ListedNumbers.{of_switches, in_switch, left_smaller, left_rise, left_same, all_left}
use Rattle.nb_change.proofs.balancer_removals.leave_switches.Goals as goal

pub loop-switch-smaller : goal.loop-switch-smaller
loop-switch-smaller c =
    left_smaller in_switch c.args.lb of_switches c.loop-switch.work.records c.unlist_on_switch.new.self.records c.in-Some.switch.now c.in-Some.ensures c.loop-switch.invariant.rise
    c.in_ok-unlist_on_switch.ensures.ok

pub loop-switch-preserved : goal.loop-switch-preserved
loop-switch-preserved c = record {
  rise = left_rise in_switch c.args.lb of_switches c.loop-switch.work.records c.unlist_on_switch.new.self.records c.in-Some.switch.now c.in-Some.ensures c.loop-switch.invariant.rise
      c.in_ok-unlist_on_switch.ensures.ok;
  same = left_same in_switch c.args.lb of_switches c.loop-switch.work.records c.unlist_on_switch.new.self.records c.in-Some.switch.now c.in-Some.ensures c.loop-switch.invariant.rise
      c.in_ok-unlist_on_switch.ensures.ok ∙ c.loop-switch.invariant.same;
  back = c.in_ok-unlist_on_switch.ensures.back ∙ c.loop-switch.invariant.back;
}

pub returns-clause-ok : goal.returns-clause-ok
returns-clause-ok c = all_left in_switch c.args.lb of_switches c.loop-switch.work.records c.in_default.ensures ∙ c.loop-switch.invariant.same
