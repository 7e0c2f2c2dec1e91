use Rattle.std.proofs.Common.{◌≡◌, ◌+◌, ◌++◌, [], ◌∷◌, length}
use Rattle.std.specs.List.{slice_split}
use Rattle.nb_words.specs.Commands.{command, is_between, numbered}
use Rattle.nb_words.proofs.command.commands_of.Given as goal

-- the commands of the words so far: those that are ended, and the one that is begun
abbrev pub invariant-loop-word : goal.invariant-loop-word
invariant-loop-word l = record {
  number : l.number ≡ length l.yielded + 1;
  begun : l.first + length l.command ≡ l.number;
  same : numbered 1 (slice_split is_between l.yielded) ≡ l.commands ++ command l.first l.command ∷ [];
}
