use Rattle.std.proofs.Common.{ap, ◌∙◌}
use Rattle.std.specs.Prelude.{Ok}
use Rattle.std.proofs.lemmas.Result.{err_from_is_err_and}
use Rattle.nb_words.specs.Commands.{is_small}
use Rattle.nb_read.specs.Then.{and_then}
use Rattle.nb_cmds.specs.Lines.{said}
use Rattle.nb_cmds.specs.declared.line.Line.TheVariants as line
use Rattle.nb_cmds.proofs.Known.{fault_first, is_one, read_as, refused_as, said_of_more}
use Rattle.nb_cmds.proofs.Small.{only_passes}
use Rattle.nb_cmds.proofs.line.said.Goals as goal

pub alone-requires : goal.alone-requires
alone-requires c = only_passes is_small c.command-item.result (rw (is_one c.args.commands.now c.command-item.result c.in-len1.len_at_least c.in-len1.len_below c.command-item.is) at c.requires)

pub returns-in-len1-clause-read : goal.returns-in-len1-clause-read
returns-in-len1-clause-read c = read_as _ _ _ (ap said (is_one c.args.commands.now c.command-item.result c.in-len1.len_at_least c.in-len1.len_below c.command-item.is)) c.alone.ensures.read

pub returns-in-len1-clause-refused : goal.returns-in-len1-clause-refused
returns-in-len1-clause-refused c = refused_as _ _ _ (ap said (is_one c.args.commands.now c.command-item.result c.in-len1.len_at_least c.in-len1.len_below c.command-item.is)) c.alone.ensures.refused

pub returns-in_err-edits-in_default-clause-refused : goal.returns-in_err-edits-in_default-clause-refused
returns-in_err-edits-in_default-clause-refused c =
    let p = err_from_is_err_and c.from_residual.result c.from_residual.ensures.1 in
    rw (p.1, p.2) (fault_first _ _ _ _ (said_of_more c.args.commands.now c.in_default.len_at_least) c.in_err-edits-in_default.ensures.refused)

pub returns-in_ok-edits-in_default-clause-read : goal.returns-in_ok-edits-in_default-clause-read
returns-in_ok-edits-in_default-clause-read c =
    said_of_more c.args.commands.now c.in_default.len_at_least ∙ ap (λ made. and_then made (λ list. Ok (line.Edits list))) c.in_ok-edits-in_default.ensures.read
