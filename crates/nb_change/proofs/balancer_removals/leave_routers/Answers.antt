use Rattle.std.proofs.Common.{◌∙◌}
use Rattle.nb_change.proofs.ListedNumbers.{of_routers, in_router, left_smaller, left_rise, left_same, all_left}
use Rattle.nb_change.proofs.balancer_removals.leave_routers.Goals as goal

pub loop-router-smaller : goal.loop-router-smaller
loop-router-smaller c =
    left_smaller in_router c.args.lb of_routers c.loop-router.work.records c.unlist_on_router.new.self.records c.in-Some.router.now c.in-Some.ensures c.loop-router.invariant.rise
    c.in_ok-unlist_on_router.ensures.ok

pub loop-router-preserved : goal.loop-router-preserved
loop-router-preserved c = record {
  rise = left_rise in_router c.args.lb of_routers c.loop-router.work.records c.unlist_on_router.new.self.records c.in-Some.router.now c.in-Some.ensures c.loop-router.invariant.rise
      c.in_ok-unlist_on_router.ensures.ok;
  same = left_same in_router c.args.lb of_routers c.loop-router.work.records c.unlist_on_router.new.self.records c.in-Some.router.now c.in-Some.ensures c.loop-router.invariant.rise
      c.in_ok-unlist_on_router.ensures.ok ∙ c.loop-router.invariant.same;
  back = c.in_ok-unlist_on_router.ensures.back ∙ c.loop-router.invariant.back;
}

pub returns-clause-ok : goal.returns-clause-ok
returns-clause-ok c = all_left in_router c.args.lb of_routers c.loop-router.work.records c.in_default.ensures ∙ c.loop-router.invariant.same
