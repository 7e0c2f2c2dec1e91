use Rattle.std.proofs.Common.{◌≡◌, length}
use Rattle.std.specs.List.{list_any}
use Rattle.nb_model.specs.Network.{same}
use Rattle.nb_model.specs.Applies.{is_related}
use Rattle.nd_full.specs.inner.Made.{has_related}
use Rattle.nv_table.proofs.Through.{these_after}
use Rattle.nd_full.proofs.inputs.has_related_acl.Given as goal

-- there is such an ACL where one of those that are left is such
abbrev pub invariant-loop-acl : goal.invariant-loop-acl
invariant-loop-acl l = list_any (λ acl. is_related acl.verdict) (these_after (λ x. x.id) (λ x. same l.owner x.owner) l.last l.records.acls) ≡ has_related l.records l.owner

abbrev pub decreases-loop-acl : goal.decreases-loop-acl
decreases-loop-acl l = length (these_after (λ x. x.id) (λ x. same l.owner x.owner) l.last l.records.acls)
