use Rattle.std.proofs.Common.{◌≡◌, take}
use Rattle.nb_model.specs.Effect.{without}
use Rattle.nb_model.specs.Network.{same}
use Rattle.nb_store.proofs.numbers.others_shared.Given as goal

abbrev pub invariant-loop-at : goal.invariant-loop-at
invariant-loop-at l = l.left ≡ without (same l.number) (take l.at l.numbers)
