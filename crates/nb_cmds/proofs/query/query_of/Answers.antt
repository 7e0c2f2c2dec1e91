use Rattle.std.proofs.Common.{◌-◌, drop, length, ap, ◌∙◌}
use Rattle.std.specs.Prelude.{Ok, Some}
use Rattle.std.proofs.lemmas.List.{take_rest}
use Rattle.std.proofs.lemmas.Result.{err_from_is_err_and}
use Rattle.nb_read.specs.Then.{and_then}
use Rattle.nb_cmds.specs.declared.query.Query.TheVariants.{FlowList}
use Rattle.nb_cmds.proofs.Known.{fault_first, list_of_two, read_as, refused_as, trace_of_rest}
use Rattle.nb_cmds.proofs.Small.{front_short, rest_is_short}
use Rattle.nb_cmds.proofs.query.query_of.Goals as goal

pub returns-in_err-name-in-FlowList-len2-clause-refused : goal.returns-in_err-name-in-FlowList-len2-clause-refused
returns-in_err-name-in-FlowList-len2-clause-refused c =
    let item = c.in-FlowList-len2 in
    let same = list_of_two c.args.question c.args.options c.args.number c.args.words.now _ item.is-0 item.len_at_least item.len_below c.datapath-item.is in
    let p = err_from_is_err_and c.from_residual.result c.from_residual.ensures.1 in
    rw (p.1, p.2) (fault_first _ _ _ _ same (rw c.as_slice.ensures at c.in_err-name-in-FlowList-len2.ensures.refused))

pub returns-in_ok-name-in-FlowList-len2-clause-read : goal.returns-in_ok-name-in-FlowList-len2-clause-read
returns-in_ok-name-in-FlowList-len2-clause-read c =
    let item = c.in-FlowList-len2 in
    let same = list_of_two c.args.question c.args.options c.args.number c.args.words.now _ item.is-0 item.len_at_least item.len_below c.datapath-item.is in
    same ∙ ap (λ name. and_then name (λ dp. Ok (FlowList (Some dp)))) (rw c.as_slice.ensures at c.in_ok-name-in-FlowList-len2.ensures.read)

pub trace-requires-clause-short : goal.trace-requires-clause-short
trace-requires-clause-short c = front_short (length c.args.words.now - 1) (drop 1 c.args.words.now) (rest_is_short 1 c.args.words.now c.requires.short)

pub returns-in-Trace-len1-up-clause-read : goal.returns-in-Trace-len1-up-clause-read
returns-in-Trace-len1-up-clause-read c =
    let same = trace_of_rest c.args.question c.args.options c.args.number c.args.words.now c.in-Trace-len1-up.is-0 c.in-Trace-len1-up.len_at_least in
    read_as _ _ _ same (rw take_rest at c.trace.ensures.read)

pub returns-in-Trace-len1-up-clause-refused : goal.returns-in-Trace-len1-up-clause-refused
returns-in-Trace-len1-up-clause-refused c =
    let same = trace_of_rest c.args.question c.args.options c.args.number c.args.words.now c.in-Trace-len1-up.is-0 c.in-Trace-len1-up.len_at_least in
    refused_as _ _ _ same (rw take_rest at c.trace.ensures.refused)
