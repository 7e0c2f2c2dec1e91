use Rattle.std.proofs.Common.{◌≡◌, length, map}
use Rattle.std.specs.Prelude.{filter}
use Rattle.nb_model.specs.Belongs.{is_among}
use Rattle.nv_table.specs.Table.{NumbersRise}
use Rattle.nb_store.specs.Undo.{back_steps}
use Rattle.nb_change.specs.inner.Balancers.{router_leaves}
use Rattle.nb_change.proofs.balancer_removals.leave_routers.Given as goal

-- the load balancer would leave the routers that there are now as it would have left those before
abbrev pub invariant-loop-router : goal.invariant-loop-router
invariant-loop-router l = record {
  rise : NumbersRise (λ x. x.id) l.work.records.routers;
  same : record l.work.records { routers = map (router_leaves l.lb) l.work.records.routers } ≡ record l.fn.work.records { routers = map (router_leaves l.lb) l.fn.work.records.routers };
  back : back_steps l.work.steps.items l.work.records ≡ back_steps l.fn.work.steps.items l.fn.work.records;
}

-- the routers that still have the load balancer
abbrev pub decreases-loop-router : goal.decreases-loop-router
decreases-loop-router l = length (filter (λ x. is_among l.lb x.lbs) l.work.records.routers)
