use Rattle.std.proofs.Common.{◌≡◌, take, drop}
use Rattle.nb_edit.specs.Commands.{option_count}
use Rattle.nb_edit.proofs.command.read_words.Goals as goal

-- the options, and the words from the name on, are those of the command
pub returns-clause-refused : goal.returns-clause-refused
returns-clause-refused c =
    let options : c.split_at.result.0.now ≡ take (option_count c.args.words.now) c.args.words.now = cc in
    let others : c.split_at.result.1.now ≡ drop (option_count c.args.words.now) c.args.words.now = cc in
    rw (← options, ← others) c.said.ensures.refused
