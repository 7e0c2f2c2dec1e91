use Rattle.std.proofs.Common.{length}
use Rattle.std.specs.Prelude.{filter}
use Rattle.nb_records.specs.declared.switch.Port.{Port}
use Rattle.nb_model.specs.Amounts.{total}
use Rattle.nb_model.specs.Network.{same}
use Rattle.nb_limits.specs.inner.Across.{known_at}
use Rattle.nb_limits.proofs.Rest.{rest}
use Rattle.nb_limits.proofs.Sums.{IsSumSoFar}
use Rattle.nb_limits.proofs.neighbour_limits.neighbours_on.Given as goal

-- the sum so far, of those ports of the switch that have been looked at
abbrev pub invariant-loop-port : goal.invariant-loop-port
invariant-loop-port l =
    IsSumSoFar (known_at l.records l.peers) l.bound l.sum (rest (λ (port : Port). port.id) (λ port. same l.switch port.switch) l.after l.records.ports)
    (total (known_at l.records l.peers) (filter (λ port. same l.switch port.switch) l.records.ports))

abbrev pub decreases-loop-port : goal.decreases-loop-port
decreases-loop-port l = length (rest (λ (port : Port). port.id) (λ port. same l.switch port.switch) l.after l.records.ports)
