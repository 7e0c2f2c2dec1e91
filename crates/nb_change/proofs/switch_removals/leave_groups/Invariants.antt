use Rattle.std.proofs.Common.{◌≡◌, length}
use Rattle.std.specs.Prelude.{filter}
use Rattle.nb_model.specs.Belongs.{is_among}
use Rattle.nv_table.specs.Table.{NumbersRise}
use Rattle.nb_store.specs.Undo.{back_steps}
use Rattle.nb_change.specs.inner.Leaving.{leaving}
use Rattle.nb_change.proofs.switch_removals.leave_groups.Given as goal

-- the port would leave the groups that there are now as it would have left those before
abbrev pub invariant-loop-group : goal.invariant-loop-group
invariant-loop-group l = record {
  rise : NumbersRise (λ x. x.id) l.work.records.groups;
  same : record l.work.records { groups = leaving l.port l.work.records.groups } ≡ record l.fn.work.records { groups = leaving l.port l.fn.work.records.groups };
  back : back_steps l.work.steps.items l.work.records ≡ back_steps l.fn.work.steps.items l.fn.work.records;
}

-- the groups that still list the port
abbrev pub decreases-loop-group : goal.decreases-loop-group
decreases-loop-group l = length (filter (λ g. is_among l.port g.ports) l.work.records.groups)
