use Rattle.std.proofs.Common.{◌≡◌, drop}
use Rattle.nb_words.specs.Commands.{says_nothing}
use Rattle.nb_words.proofs.command.says_nothing.Given as goal

-- separators in front change nothing
abbrev pub invariant-loop-byte : goal.invariant-loop-byte
invariant-loop-byte l = says_nothing (drop l.byte-index l.line) ≡ says_nothing l.line
