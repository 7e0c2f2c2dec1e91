use Rattle.std.proofs.Common.{◌≡◌, length}
use Rattle.nb_model.specs.Effect.{without_ports}
use Rattle.nb_model.specs.Network.{same}
use Rattle.nv_table.specs.Table.{NumbersRise}
use Rattle.nb_store.specs.Undo.{back_steps}
use Rattle.nb_change.proofs.switch_removals.remove_each_port_on.Given as goal

-- without the switch's ports the network is now what it would have been before
abbrev pub invariant-loop-port : goal.invariant-loop-port
invariant-loop-port l = record {
  ports : NumbersRise (λ x. x.id) l.work.records.ports;
  groups : NumbersRise (λ x. x.id) l.work.records.groups;
  same : without_ports (λ port. same l.switch port.switch) l.work.records ≡ without_ports (λ port. same l.switch port.switch) l.fn.work.records;
  back : back_steps l.work.steps.items l.work.records ≡ back_steps l.fn.work.steps.items l.fn.work.records;
}

abbrev pub decreases-loop-port : goal.decreases-loop-port
decreases-loop-port l = length l.work.records.ports
