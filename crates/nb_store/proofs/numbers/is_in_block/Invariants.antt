use Rattle.std.proofs.Common.{◌≡◌, take}
use Rattle.nb_model.specs.Belongs.{is_among}
use Rattle.nb_store.proofs.numbers.is_in_block.Given as goal

abbrev pub invariant-loop-other : goal.invariant-loop-other
invariant-loop-other l = l.is_found ≡ is_among l.number (take l.other-index l.block)
