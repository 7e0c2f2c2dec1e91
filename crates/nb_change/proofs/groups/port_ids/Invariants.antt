use Rattle.std.proofs.Common.{◌≡◌, take}
use Rattle.nb_model.specs.Effect.{named_port_ids}
use Rattle.nb_change.specs.inner.Told.{IsTold}
use Rattle.nb_change.proofs.groups.port_ids.Given as goal

-- the numbers of the names so far
abbrev pub invariant-loop-name : goal.invariant-loop-name
invariant-loop-name l = record { listed : l.ids ≡ named_port_ids l.records (take l.name-index l.names); told : IsTold l.ids l.seen }
