use Rattle.std.proofs.Common.{length, true}
use Rattle.nb_records.specs.declared.acl.Acl.{Acl}
use Rattle.nb_limits.specs.inner.Weights.{on_switch, on_switches}
use Rattle.nb_limits.proofs.Rest.{rest}
use Rattle.nb_limits.proofs.Sums.{IsSumSoFar}
use Rattle.nb_limits.proofs.acl_limits.on_switches.Given as goal

-- the sum so far, of those that have been looked at
abbrev pub invariant-loop-after : goal.invariant-loop-after
invariant-loop-after l = IsSumSoFar (on_switch l.measure l.records) l.bound l.sum (rest (λ (acl : Acl). acl.id) (λ acl. true) l.after l.records.acls) (on_switches l.measure l.records)

abbrev pub decreases-loop-after : goal.decreases-loop-after
decreases-loop-after l = length (rest (λ (acl : Acl). acl.id) (λ acl. true) l.after l.records.acls)
