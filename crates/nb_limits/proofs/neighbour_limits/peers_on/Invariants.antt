use Rattle.std.proofs.Common.{◌≡◌, ◌+◌, length}
use Rattle.nb_records.specs.declared.switch.Port.{Port}
use Rattle.nb_model.specs.Amounts.{total}
use Rattle.nb_model.specs.Network.{same}
use Rattle.nb_limits.specs.inner.Across.{peered, peers_on}
use Rattle.nb_limits.proofs.Rest.{rest}
use Rattle.nb_limits.proofs.neighbour_limits.peers_on.Given as goal

-- those so far, with those of the ports of the switch that are left, are all
abbrev pub invariant-loop-port : goal.invariant-loop-port
invariant-loop-port l = l.count + total (peered l.records) (rest (λ (port : Port). port.id) (λ port. same l.switch port.switch) l.after l.records.ports) ≡ peers_on l.records l.switch

abbrev pub decreases-loop-port : goal.decreases-loop-port
decreases-loop-port l = length (rest (λ (port : Port). port.id) (λ port. same l.switch port.switch) l.after l.records.ports)
