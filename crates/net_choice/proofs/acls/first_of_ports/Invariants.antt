use Rattle.std.proofs.Common.{◌≡◌, length}
use Rattle.std.specs.Prelude.{fold}
use Rattle.std.specs.Option.{option_copied}
use Rattle.nb_model.specs.Network.{same}
use Rattle.net_choice.specs.inner.Acls.{first_on, first_with}
use Rattle.net_choice.proofs.Through.{left}
use Rattle.net_choice.proofs.acls.first_of_ports.Given as goal

-- the first so far, and of the ACLs of the groups of the ports that are left
abbrev pub invariant-loop-port : goal.invariant-loop-port
invariant-loop-port l =
    fold (λ b port. first_with l.records l.way l.packet b port.id) (option_copied l.best) (left (λ x. x.id) (λ x. same l.switch x.switch) l.last l.records.ports)
    ≡ first_on l.records l.way l.packet (option_copied l.fn.best) l.switch

abbrev pub decreases-loop-port : goal.decreases-loop-port
decreases-loop-port l = length (left (λ x. x.id) (λ x. same l.switch x.switch) l.last l.records.ports)
