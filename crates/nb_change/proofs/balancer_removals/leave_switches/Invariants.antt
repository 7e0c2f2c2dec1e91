use Rattle.std.proofs.Common.{◌≡◌, length, map}
use Rattle.std.specs.Prelude.{filter}
use Rattle.nb_model.specs.Belongs.{is_among}
use Rattle.nv_table.specs.Table.{NumbersRise}
use Rattle.nb_store.specs.Undo.{back_steps}
use Rattle.nb_change.specs.inner.Balancers.{switch_leaves}
use Rattle.nb_change.proofs.balancer_removals.leave_switches.Given as goal

-- the load balancer would leave the switches that there are now as it would have left those before
abbrev pub invariant-loop-switch : goal.invariant-loop-switch
invariant-loop-switch l = record {
  rise : NumbersRise (λ x. x.id) l.work.records.switches;
  same : record l.work.records { switches = map (switch_leaves l.lb) l.work.records.switches } ≡ record l.fn.work.records { switches = map (switch_leaves l.lb) l.fn.work.records.switches };
  back : back_steps l.work.steps.items l.work.records ≡ back_steps l.fn.work.steps.items l.fn.work.records;
}

-- the switches that still have the load balancer
abbrev pub decreases-loop-switch : goal.decreases-loop-switch
decreases-loop-switch l = length (filter (λ x. is_among l.lb x.lbs) l.work.records.switches)
