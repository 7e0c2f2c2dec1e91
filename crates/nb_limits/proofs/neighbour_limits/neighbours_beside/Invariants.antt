use Rattle.std.proofs.Common.{length}
use Rattle.std.specs.Prelude.{filter}
use Rattle.nb_records.specs.declared.switch.Port.{Port}
use Rattle.nb_model.specs.Amounts.{total}
use Rattle.nb_model.specs.Network.{same}
use Rattle.nb_limits.proofs.Beside.{pairs_at}
use Rattle.nb_limits.proofs.Rest.{rest}
use Rattle.nb_limits.proofs.Sums.{IsSumSoFar}
use Rattle.nb_limits.proofs.neighbour_limits.neighbours_beside.Given as goal

-- the sum so far, of those ports of the switch that have been looked at
abbrev pub invariant-loop-port : goal.invariant-loop-port
invariant-loop-port l =
    IsSumSoFar (pairs_at l.records l.peer) l.bound l.sum (rest (λ (port : Port). port.id) (λ port. same l.peer.switch port.switch) l.after l.records.ports)
    (total (pairs_at l.records l.peer) (filter (λ port. same l.peer.switch port.switch) l.records.ports))

abbrev pub decreases-loop-port : goal.decreases-loop-port
decreases-loop-port l = length (rest (λ (port : Port). port.id) (λ port. same l.peer.switch port.switch) l.after l.records.ports)
