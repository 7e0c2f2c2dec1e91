use Rattle.std.proofs.Common.{◌≡◌, ◌≤◌, ◌-◌, false, length, take}
use Rattle.nb_model.specs.Belongs.{is_among}
use Rattle.nb_store.proofs.numbers.before_block.Given as goal

abbrev pub invariant-loop-start : goal.invariant-loop-start
invariant-loop-start l = record { before : is_among l.number (take l.start l.numbers) ≡ false; within : l.start ≤ length l.numbers }

abbrev pub decreases-loop-start : goal.decreases-loop-start
decreases-loop-start l = length l.numbers - l.start
