use Rattle.std.proofs.Common.{length, true}
use Rattle.nb_records.specs.declared.balancer.Lb.{Lb}
use Rattle.nb_model.specs.Amounts.{total}
use Rattle.nb_limits.proofs.Rest.{rest}
use Rattle.nb_limits.proofs.Sums.{IsSumSoFar}
use Rattle.nb_limits.specs.inner.Attached.{attached_vips}
use Rattle.nb_limits.proofs.balancer_limits.vip_datapaths.Given as goal

-- the sum so far, of those load balancers that have been looked at
abbrev pub invariant-loop-after : goal.invariant-loop-after
invariant-loop-after l = IsSumSoFar (attached_vips l.records) l.bound l.sum (rest (λ (lb : Lb). lb.id) (λ lb. true) l.after l.records.lbs) (total (attached_vips l.records) l.records.lbs)

abbrev pub decreases-loop-after : goal.decreases-loop-after
decreases-loop-after l = length (rest (λ (lb : Lb). lb.id) (λ lb. true) l.after l.records.lbs)
