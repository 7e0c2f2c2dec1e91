use Rattle.std.proofs.Common.{Ok, sym, ap, ◌∙◌}
use Rattle.nb_cmds.specs.declared.line.Line.TheVariants.{Query}
use Rattle.nv_reply.specs.Reply.{answered, reply, reply_to, traced_port}
use Rattle.nv_lines.proofs.Whole.{left_alike}
use Rattle.nv_lines.proofs.line.answer_whole.Goals as goal

-- a trace leaves what it leaves, however it is told
pub returns-in-Ok-Query-Trace : goal.returns-in-Ok-Query-Trace
unfolding reply
returns-in-Ok-Query-Trace g c =
    let trace = c.in-Ok-Query-Trace in
    let session = c.args.session.now in
    record {
      after =
          c.in_ok-run_query-in-Ok-Query-Trace.ensures.after
          ∙ left_alike session trace.field-0-0-0 (traced_port session.network trace.dp trace.micro.inport) trace.micro.packet
          ∙ ap (λ said. (answered session said (reply_to session)).after) (sym (trace.ensures.read ∙ ap Ok (trace.field-0-is ∙ ap Query trace.field-0-0-is)));
    }
