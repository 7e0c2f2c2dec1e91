use Rattle.std.proofs.Common.{length, true}
use Rattle.nb_records.specs.declared.switch.Switch.{Switch}
use Rattle.nb_model.specs.Amounts.{total}
use Rattle.nb_limits.specs.inner.Across.{neighbours_on}
use Rattle.nb_limits.proofs.Rest.{rest}
use Rattle.nb_limits.proofs.Sums.{IsSumSoFar}
use Rattle.nb_limits.proofs.neighbour_limits.neighbours.Given as goal

-- the sum so far, of those switches that have been looked at
abbrev pub invariant-loop-after : goal.invariant-loop-after
invariant-loop-after l =
    IsSumSoFar (λ switch. neighbours_on l.records switch.id) l.bound l.sum (rest (λ (switch : Switch). switch.id) (λ switch. true) l.after l.records.switches)
    (total (λ switch. neighbours_on l.records switch.id) l.records.switches)

abbrev pub decreases-loop-after : goal.decreases-loop-after
decreases-loop-after l = length (rest (λ (switch : Switch). switch.id) (λ switch. true) l.after l.records.switches)
