use Rattle.nb_cmds.proofs.Known.{are_two, read_as, refused_as, traced_of_two}
use Rattle.nb_cmds.proofs.Small.{second_is_short}
use Rattle.nb_cmds.proofs.query.traced.Goals as goal

pub trace_of-requires : goal.trace_of-requires
trace_of-requires c =
    let two = are_two c.args.words.now c.datapath-item.result c.microflow-item.result c.in-len2.len_at_least c.in-len2.len_below c.datapath-item.is c.microflow-item.is in
    rw c.as_slice-in-len2.ensures (second_is_short c.datapath-item.result c.microflow-item.result (rw two at c.requires))

pub returns-in-len2-clause-read : goal.returns-in-len2-clause-read
returns-in-len2-clause-read c =
    let same = traced_of_two c.args.minimal c.args.number c.args.words.now _ _ c.in-len2.len_at_least c.in-len2.len_below c.datapath-item.is c.microflow-item.is in
    read_as _ _ _ same (rw (c.as_slice.ensures, c.as_slice-in-len2.ensures) at c.trace_of.ensures.read)

pub returns-in-len2-clause-refused : goal.returns-in-len2-clause-refused
returns-in-len2-clause-refused c =
    let same = traced_of_two c.args.minimal c.args.number c.args.words.now _ _ c.in-len2.len_at_least c.in-len2.len_below c.datapath-item.is c.microflow-item.is in
    refused_as _ _ _ same (rw (c.as_slice.ensures, c.as_slice-in-len2.ensures) at c.trace_of.ensures.refused)
