use Rattle.std.proofs.Common.{◌≡◌, length}
use Rattle.std.specs.Prelude.{fold}
use Rattle.std.specs.Option.{option_copied}
use Rattle.nb_model.specs.Belongs.{is_among}
use Rattle.net_choice.specs.inner.Acls.{first_of, first_with}
use Rattle.net_choice.proofs.Through.{left}
use Rattle.net_choice.proofs.acls.first_with.Given as goal

-- the first so far, and of the ACLs of the groups that are left
abbrev pub invariant-loop-group : goal.invariant-loop-group
invariant-loop-group l =
    fold (λ b group. first_of l.records l.way l.packet b group.id) (option_copied l.best) (left (λ x. x.id) (λ x. is_among l.port x.ports) l.last l.records.groups)
    ≡ first_with l.records l.way l.packet (option_copied l.fn.best) l.port

abbrev pub decreases-loop-group : goal.decreases-loop-group
decreases-loop-group l = length (left (λ x. x.id) (λ x. is_among l.port x.ports) l.last l.records.groups)
