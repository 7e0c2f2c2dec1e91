use Rattle.std.proofs.Common.{◌≡◌, ◌++◌, length}
use Rattle.std.specs.List.{flat_map}
use Rattle.nb_model.specs.Network.{same}
use Rattle.tr_walk.specs.inner.Sides.{numbers_in, ports_of}
use Rattle.nv_table.proofs.Through.{these_after}
use Rattle.tr_walk.proofs.ports.ports_of.Given as goal

-- the numbers so far, and then those of the ports that are left, are all
abbrev pub invariant-loop-port : goal.invariant-loop-port
invariant-loop-port l =
    l.ports.items ++ flat_map (numbers_in l.group) (these_after (λ x. x.id) (λ x. same l.switch x.switch) l.last l.records.ports) ≡ ports_of l.records l.switch l.group

abbrev pub decreases-loop-port : goal.decreases-loop-port
decreases-loop-port l = length (these_after (λ x. x.id) (λ x. same l.switch x.switch) l.last l.records.ports)
