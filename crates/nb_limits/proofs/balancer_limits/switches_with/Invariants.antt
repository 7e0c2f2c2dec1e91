use Rattle.std.proofs.Common.{length}
use Rattle.std.specs.Prelude.{filter}
use Rattle.nb_records.specs.declared.switch.Switch.{Switch}
use Rattle.nb_model.specs.Amounts.{total}
use Rattle.nb_model.specs.Belongs.{is_among}
use Rattle.nb_limits.proofs.Rest.{rest}
use Rattle.nb_limits.proofs.Sums.{IsSumSoFar}
use Rattle.nb_limits.proofs.balancer_limits.switches_with.Given as goal

-- the sum so far, of those switches that have been looked at
abbrev pub invariant-loop-switch : goal.invariant-loop-switch
invariant-loop-switch l =
    IsSumSoFar (λ _. l.each) l.bound l.sum (rest (λ (switch : Switch). switch.id) (λ switch. is_among l.lb switch.lbs) l.after l.records.switches)
    (total (λ _. l.each) (filter (λ switch. is_among l.lb switch.lbs) l.records.switches))

abbrev pub decreases-loop-switch : goal.decreases-loop-switch
decreases-loop-switch l = length (rest (λ (switch : Switch). switch.id) (λ switch. is_among l.lb switch.lbs) l.after l.records.switches)
