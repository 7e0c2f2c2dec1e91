use Rattle.std.proofs.Common.{◌∙◌}
use Rattle.nb_change.proofs.ListedNumbers.{of_groups, in_group, left_smaller, left_rise, left_same, all_left}
use Rattle.nb_change.proofs.switch_removals.leave_groups.Goals as goal

pub loop-group-smaller : goal.loop-group-smaller
loop-group-smaller c =
    left_smaller in_group c.args.port of_groups c.loop-group.work.records c.unlist_in_group.new.self.records c.in-Some.group.now c.in-Some.ensures c.loop-group.invariant.rise
    c.in_ok-unlist_in_group.ensures.ok

pub loop-group-preserved : goal.loop-group-preserved
loop-group-preserved c = record {
  rise = left_rise in_group c.args.port of_groups c.loop-group.work.records c.unlist_in_group.new.self.records c.in-Some.group.now c.in-Some.ensures c.loop-group.invariant.rise
      c.in_ok-unlist_in_group.ensures.ok;
  same = left_same in_group c.args.port of_groups c.loop-group.work.records c.unlist_in_group.new.self.records c.in-Some.group.now c.in-Some.ensures c.loop-group.invariant.rise
      c.in_ok-unlist_in_group.ensures.ok ∙ c.loop-group.invariant.same;
  back = c.in_ok-unlist_in_group.ensures.back ∙ c.loop-group.invariant.back;
}

pub returns-clause-ok : goal.returns-clause-ok
returns-clause-ok c = all_left in_group c.args.port of_groups c.loop-group.work.records c.in_default.ensures ∙ c.loop-group.invariant.same
