use Rattle.std.proofs.Common.{◌≡◌, ◌&&◌, take}
use Rattle.std.specs.List.{list_any}
use Rattle.nb_model.specs.Effect.{without}
use Rattle.nb_model.specs.Network.{same}
use Rattle.nb_change.proofs.large_groups.ports_elsewhere.Given as goal

-- those of the ports so far
abbrev pub invariant-loop-at : goal.invariant-loop-at
invariant-loop-at l = l.left.items ≡ without (λ number. list_any (λ port. same port.id number && same l.switch port.switch) l.records.ports) (take l.at l.ports)
