use Rattle.std.proofs.Common.{◌≡◌, length}
use Rattle.std.specs.List.{list_any}
use Rattle.nb_records.specs.declared.switch.Port.{Port}
use Rattle.nb_model.specs.Network.{same}
use Rattle.nb_limits.specs.inner.NeighboursAfter.{has_follower, has_followers}
use Rattle.nb_limits.proofs.Rest.{rest}
use Rattle.nb_limits.proofs.neighbour_ceilings.has_followers.Given as goal

-- one is followed where one of those that are left is
abbrev pub invariant-loop-port : goal.invariant-loop-port
invariant-loop-port l = list_any (has_follower l.records) (rest (λ (port : Port). port.id) (λ port. same l.switch port.switch) l.after l.records.ports) ≡ has_followers l.records l.switch

abbrev pub decreases-loop-port : goal.decreases-loop-port
decreases-loop-port l = length (rest (λ (port : Port). port.id) (λ port. same l.switch port.switch) l.after l.records.ports)
