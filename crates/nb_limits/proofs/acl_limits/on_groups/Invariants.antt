use Rattle.std.proofs.Common.{length, true}
use Rattle.nb_records.specs.declared.sets.Group.{Group}
use Rattle.nb_limits.specs.inner.Weights.{on_group, on_groups}
use Rattle.nb_limits.proofs.Rest.{rest}
use Rattle.nb_limits.proofs.Sums.{IsSumSoFar}
use Rattle.nb_limits.proofs.acl_limits.on_groups.Given as goal

-- the sum so far, of those that have been looked at
abbrev pub invariant-loop-after : goal.invariant-loop-after
invariant-loop-after l = IsSumSoFar (on_group l.measure l.records) l.bound l.sum (rest (λ (group : Group). group.id) (λ group. true) l.after l.records.groups) (on_groups l.measure l.records)

abbrev pub decreases-loop-after : goal.decreases-loop-after
decreases-loop-after l = length (rest (λ (group : Group). group.id) (λ group. true) l.after l.records.groups)
