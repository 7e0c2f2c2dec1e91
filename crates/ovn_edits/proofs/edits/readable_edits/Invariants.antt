use Rattle.std.proofs.Common.{◌≡◌, drop, true}
use Rattle.std.specs.List.{AllByRecursion, list_all}
use Rattle.nb_model.specs.Readable.{IsReadable}
use Rattle.nb_words.specs.Commands.{is_small}
use Rattle.ovn_edits.proofs.edits.readable_edits.Given as goal

-- the commands that are left are small, and the edits so far are readable
abbrev pub invariant-loop-command : goal.invariant-loop-command
invariant-loop-command l = record {
  small : list_all is_small (drop l.command-index l.commands) ≡ true;
  readable : AllByRecursion IsReadable l.edits;
}
