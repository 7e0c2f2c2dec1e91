use Rattle.std.proofs.Common.{◌≡◌, [], drop, true}
use Rattle.std.specs.List.{list_all}
use Rattle.nb_words.specs.Commands.{is_small}
use Rattle.nb_cmds.specs.Lines.{edits}
use Rattle.nb_cmds.proofs.line.edits.Given as goal

-- the commands that are left are read after those before
abbrev pub invariant-loop-command : goal.invariant-loop-command
invariant-loop-command l = record {
  small : list_all is_small (drop l.command-index l.commands) ≡ true;
  same : edits l.list (drop l.command-index l.commands) ≡ edits [] l.commands;
}
