use Rattle.std.proofs.Common.{◌≡◌, ◌++◌, take}
use Rattle.nb_records.specs.inner.Blocks.{joined}
use Rattle.nb_records.proofs.numbers.Numbers.share.Given as goal

abbrev pub invariant-loop-block : goal.invariant-loop-block
invariant-loop-block l = l.self ≡ l.fn.self ++ joined (take l.block-index l.blocks)
