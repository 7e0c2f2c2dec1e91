use Rattle.std.proofs.Common.{◌≡◌, length}
use Rattle.std.specs.Prelude.{fold}
use Rattle.std.specs.Option.{option_copied}
use Rattle.nb_model.specs.Network.{same}
use Rattle.net_choice.specs.inner.Acls.{first_of, first_taking}
use Rattle.net_choice.proofs.Through.{left}
use Rattle.net_choice.proofs.acls.first_of.Given as goal

-- the first so far, and of the ACLs that are left
abbrev pub invariant-loop-acl : goal.invariant-loop-acl
invariant-loop-acl l =
    fold (first_taking l.records l.way l.packet) (option_copied l.best) (left (λ x. x.id) (λ x. same l.owner x.owner) l.last l.records.acls) ≡ first_of l.records l.way l.packet (option_copied l.fn.best) l.owner

abbrev pub decreases-loop-acl : goal.decreases-loop-acl
decreases-loop-acl l = length (left (λ x. x.id) (λ x. same l.owner x.owner) l.last l.records.acls)
