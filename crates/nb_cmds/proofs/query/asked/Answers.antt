use Rattle.std.proofs.Common.{◌+◌, ◌-◌, drop, length, refl, ap}
use Rattle.std.proofs.lemmas.List.{take_rest}
use Rattle.std.proofs.lemmas.Result.{err_from_is_err_and}
use Rattle.nb_edit.specs.Commands.{option_count}
use Rattle.nb_read.specs.Then.{and_then}
use Rattle.nb_cmds.specs.Queries.{query_of}
use Rattle.nb_cmds.proofs.Known.{fault_first, read_as, refused_as}
use Rattle.nb_cmds.proofs.Small.{all_are_short, front_short, rest_is_short}
use Rattle.nb_cmds.proofs.query.asked.Goals as goal

pub query_of-requires-clause-short : goal.query_of-requires-clause-short
query_of-requires-clause-short c =
    let words = c.args.command.now.words in
    let options = c.option_count-options.result in
    rw c.as_slice-words.ensures (front_short (length words - options) (drop options words) (rest_is_short options words (all_are_short c.args.command.now c.requires)))

pub returns-in_err-no_other_option-clause-refused : goal.returns-in_err-no_other_option-clause-refused
returns-in_err-no_other_option-clause-refused c =
    let p = err_from_is_err_and c.from_residual.result c.from_residual.ensures.1 in
    rw (p.1, p.2) (fault_first _ _ _ _ refl c.in_err-no_other_option.ensures.refused)

pub returns-clause-read : goal.returns-clause-read
returns-clause-read c =
    let words = c.args.command.now.words in
    let options = option_count words in
    let same = ap (λ r. and_then r (λ none. query_of c.args.question options (c.args.command.now.first + options) (drop options words))) c.in_ok-no_other_option.ensures.read in
    read_as _ _ _ same (rw (take_rest, c.option_count-options.ensures.count, c.as_slice-words.ensures) at c.query_of.ensures.read)

pub returns-clause-refused : goal.returns-clause-refused
returns-clause-refused c =
    let words = c.args.command.now.words in
    let options = option_count words in
    let same = ap (λ r. and_then r (λ none. query_of c.args.question options (c.args.command.now.first + options) (drop options words))) c.in_ok-no_other_option.ensures.read in
    refused_as _ _ _ same (rw (take_rest, c.option_count-options.ensures.count, c.as_slice-words.ensures) at c.query_of.ensures.refused)
