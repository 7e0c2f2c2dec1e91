use Rattle.std.proofs.Common.{◌≡◌}
use Rattle.nb_model.specs.Effect.{without_ports}
use Rattle.nb_model.specs.Network.{same}
use Rattle.nv_table.specs.Table.{NumbersRise}
use Rattle.nb_store.specs.Undo.{back_steps}
use Rattle.nb_change.proofs.large_groups.leave_large_groups.Given as goal

-- without the switch's ports the network is now what it would have been before
abbrev pub invariant-loop-group : goal.invariant-loop-group
invariant-loop-group l = record {
  same : without_ports (λ port. same l.switch port.switch) l.work.records ≡ without_ports (λ port. same l.switch port.switch) l.fn.work.records;
  ports : NumbersRise (λ x. x.id) l.work.records.ports;
  groups : NumbersRise (λ x. x.id) l.work.records.groups;
  back : back_steps l.work.steps.items l.work.records ≡ back_steps l.fn.work.steps.items l.fn.work.records;
}
