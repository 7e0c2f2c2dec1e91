use Rattle.std.proofs.Common.{◌*◌, length}
use Rattle.nb_records.specs.declared.acl.Acl.{Acl}
use Rattle.nb_model.specs.Network.{same}
use Rattle.nb_limits.specs.inner.Weights.{weight, of_owner}
use Rattle.nb_limits.proofs.Rest.{rest}
use Rattle.nb_limits.proofs.Sums.{IsSumSoFar}
use Rattle.nb_limits.proofs.acl_limits.of_owner.Given as goal

-- the sum so far, of those ACLs of the owner that have been looked at
abbrev pub invariant-loop-acl : goal.invariant-loop-acl
invariant-loop-acl l =
    IsSumSoFar (λ acl. weight l.measure acl * l.times) l.bound l.sum (rest (λ (acl : Acl). acl.id) (λ acl. same l.owner acl.owner) l.after l.records.acls)
    (of_owner l.measure l.records l.owner l.times)

abbrev pub decreases-loop-acl : goal.decreases-loop-acl
decreases-loop-acl l = length (rest (λ (acl : Acl). acl.id) (λ acl. same l.owner acl.owner) l.after l.records.acls)
