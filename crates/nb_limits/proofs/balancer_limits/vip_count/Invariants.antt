use Rattle.std.proofs.Common.{◌≡◌, max, length, true}
use Rattle.nb_records.specs.declared.balancer.Lb.{Lb}
use Rattle.nb_model.specs.Amounts.{greatest}
use Rattle.nb_limits.proofs.Rest.{rest}
use Rattle.nb_limits.proofs.balancer_limits.vip_count.Given as goal

-- the most so far, with those that are left
abbrev pub invariant-loop-after : goal.invariant-loop-after
invariant-loop-after l = max l.most (greatest (λ lb. length lb.vips) (rest (λ (lb : Lb). lb.id) (λ lb. true) l.after l.records.lbs)) ≡ greatest (λ lb. length lb.vips) l.records.lbs

abbrev pub decreases-loop-after : goal.decreases-loop-after
decreases-loop-after l = length (rest (λ (lb : Lb). lb.id) (λ lb. true) l.after l.records.lbs)
