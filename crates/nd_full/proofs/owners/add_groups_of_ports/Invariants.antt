use Rattle.std.proofs.Common.{◌≡◌, ◌++◌, length}
use Rattle.std.specs.List.{flat_map}
use Rattle.nb_model.specs.Network.{same}
use Rattle.nd_full.specs.inner.Owners.{groups_of_port, groups_on}
use Rattle.nv_table.proofs.Through.{these_after}
use Rattle.nd_full.proofs.owners.add_groups_of_ports.Given as goal

-- the numbers so far, and then those of the ports that are left, are all
abbrev pub invariant-loop-port : goal.invariant-loop-port
invariant-loop-port l =
    l.owners.items ++ flat_map (λ port. groups_of_port l.records port.id) (these_after (λ x. x.id) (λ x. same l.switch x.switch) l.last l.records.ports) ≡ l.fn.owners.items ++ groups_on l.records l.switch

abbrev pub decreases-loop-port : goal.decreases-loop-port
decreases-loop-port l = length (these_after (λ x. x.id) (λ x. same l.switch x.switch) l.last l.records.ports)
