use Rattle.std.proofs.lemmas.Result.{err_from_is_err_and}
use Rattle.nv_reply.specs.declared.stop.Stop.TheVariants.{WriteFault}
use Rattle.nv_io.proofs.Writing.{wrote_after}
use Rattle.nv_reply.proofs.Stops.{stops_before, stops_after}
use Rattle.nv_input.proofs.server.Server.answer_trace.Goals as goal

-- `ok` is due after the lines
pub returns-in_err-put_trace-clause-stop : goal.returns-in_err-put_trace-clause-stop
returns-in_err-put_trace-clause-stop g c =
    let p = err_from_is_err_and c.from_residual.result c.from_residual.ensures.1 in
    rw (p.1, p.2) (stops_before _ _ _ _ c.in_err-put_trace.field-0.0 c.in_err-put_trace.ensures.stop)

pub returns-in_err-put_all-clause-stop : goal.returns-in_err-put_all-clause-stop
returns-in_err-put_all-clause-stop g c =
    let p = err_from_is_err_and c.from_residual-in_err-put_all.result c.from_residual-in_err-put_all.ensures.1 in
    rw (p.1, p.2) (stops_after _ _ _ _ _ _ _ WriteFault c.in_ok-put_trace.ensures.put c.in_err-put_all.ensures.err)

pub returns-clause-put : goal.returns-clause-put
returns-clause-put g c = wrote_after _ _ _ _ _ _ _ c.in_ok-put_trace.ensures.put c.in_ok-put_all.ensures.ok
