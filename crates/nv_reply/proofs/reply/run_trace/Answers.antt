use Rattle.std.proofs.Common.{refl, sym, ap, ◌∙◌}
use Rattle.nv_reply.specs.Reply.{traced_port}
use Rattle.nv_reply.proofs.Tracing.{trace_answered}
use Rattle.nv_reply.proofs.reply.run_trace.Goals as goal

-- the events are those of the trace, from the port that was found
pub returns-in_ok-events-in-Ok-clause-answer : goal.returns-in_ok-events-in-Ok-clause-answer
returns-in_ok-events-in-Ok-clause-answer g c =
    let session = c.args.session.now in
    let micro = c.args.micro in (
      refl,
      trace_answered session c.args.minimal (traced_port session.network c.args.datapath micro.inport) c.in-Ok.port micro.packet c.in_ok-events-in-Ok.events.items
          (sym (ap (λ net. traced_port net c.args.datapath micro.inport) c.records.ensures.records) ∙ sym c.traced_port.ensures ∙ c.in-Ok.is)
          c.in_ok-events-in-Ok.ensures.events,
    )
