use Rattle.std.proofs.Common.{◌≡◌, drop, true}
use Rattle.std.specs.List.{list_all}
use Rattle.nb_words.specs.Commands.{is_small}
use Rattle.ovn_lines.proofs.answer.read_each.Given as goal

-- the commands that are left are small
abbrev pub invariant-loop-command : goal.invariant-loop-command
invariant-loop-command l = list_all is_small (drop l.command-index l.commands) ≡ true
