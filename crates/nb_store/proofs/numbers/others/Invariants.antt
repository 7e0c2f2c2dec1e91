use Rattle.std.proofs.Common.{◌≡◌, take}
use Rattle.nb_model.specs.Effect.{without}
use Rattle.nb_model.specs.Network.{same}
use Rattle.nb_store.proofs.numbers.others.Given as goal

abbrev pub invariant-loop-other : goal.invariant-loop-other
invariant-loop-other l = l.left ≡ without (same l.number) (take l.other-index l.numbers)
