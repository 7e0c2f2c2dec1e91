use Rattle.std.proofs.Common.{ℕ, List, [], sym, subst, arith}
use Rattle.std.proofs.lemmas.List.{take_all}
use Rattle.std.proofs.lemmas.Result.{err_from_is_err_and}
use Rattle.nv_io.specs.Passed.{IsPrefix}
use Rattle.nv_io.specs.Writing.{Wrote, PutFailed}
use Rattle.nv_reply.specs.declared.stop.Stop.TheVariants.{WriteFault}
use Rattle.nv_reply.proofs.Pieces.{PutBut, put_none, events_memory, events_stop, events_next, events_end, events_end_stop}
use Rattle.nv_reply.proofs.events.put_events.Goals as goal

pub loop-event-init : goal.loop-event-init
loop-event-init g c = rw c.new-text.ensures.items (put_none g.K.Sink.put_gives g.K.Sink.state c.args.sink.now [])

-- no memory is left
pub returns-in_err-put_event-clause-stop : goal.returns-in_err-put_event-clause-stop
returns-in_err-put_event-clause-stop g c =
    let p = err_from_is_err_and c.from_residual.result c.from_residual.ensures.1 in
    rw (p.1, p.2)
    (events_memory g.K.Sink.put_gives g.K.Sink.state c.args.records.now c.args.events.now c.args.sink.now c.loop-event.sink c.loop-event.event-index c.loop-event.text.items c.loop-event.invariant)

pub returns-in_err-put_piece-clause-stop : goal.returns-in_err-put_piece-clause-stop
returns-in_err-put_piece-clause-stop g c =
    let p = err_from_is_err_and c.from_residual-in_err-put_piece.result c.from_residual-in_err-put_piece.ensures.1 in
    rw (p.1, p.2)
    (events_stop g.K.Sink.put_gives g.K.Sink.state c.args.records.now c.args.events.now c.args.sink.now c.loop-event.sink c.loop-event.event-index c.loop-event.text.items c.loop-event.invariant
    c.event-item.result c.loop-event-test.true c.event-item.is c.put_piece.new.sink c.in_err-put_piece.field-0.0
    (rw (sym c.in_ok-put_event.ensures) c.in_err-put_piece.ensures.stop))

pub loop-event-preserved : goal.loop-event-preserved
loop-event-preserved g c =
    events_next g.K.Sink.put_gives g.K.Sink.state c.args.records.now c.args.events.now c.args.sink.now c.loop-event.sink c.loop-event.event-index c.loop-event.text.items c.loop-event.invariant
    c.event-item.result c.loop-event-test.true c.event-item.is c.put_piece.new.sink c.put_piece.new.text.items
    (subst (λ due. PutBut g.K.Sink.put_gives g.K.Sink.state c.loop-event.sink c.put_piece.new.sink due c.put_piece.new.text.items) c.in_ok-put_event.ensures c.in_ok-put_piece.ensures.put)

pub returns-in_err-put_all-clause-stop : goal.returns-in_err-put_all-clause-stop
returns-in_err-put_all-clause-stop g c =
    let p = err_from_is_err_and c.from_residual-in_err-put_all.result c.from_residual-in_err-put_all.ensures.1 in
    rw (p.1, p.2)
    (events_end_stop g.K.Sink.put_gives g.K.Sink.state c.args.records.now c.args.events.now c.args.sink.now c.loop-event.sink c.loop-event.event-index c.loop-event.text.items c.loop-event.invariant
    (take_all c.loop-event.event-index c.args.events.now (omega (arith, c.loop-event-test.false))) c.put_all.new.sink WriteFault
    (subst (λ (text : List ℕ). (part : List ℕ) × IsPrefix part text × PutFailed g.K.Sink.put_gives g.K.Sink.state c.loop-event.sink c.put_all.new.sink part) c.deref.ensures.value c.in_err-put_all.ensures.err))

pub returns-clause-put : goal.returns-clause-put
returns-clause-put g c =
    events_end g.K.Sink.put_gives g.K.Sink.state c.args.records.now c.args.events.now c.args.sink.now c.loop-event.sink c.loop-event.event-index c.loop-event.text.items c.loop-event.invariant
    (take_all c.loop-event.event-index c.args.events.now (omega (arith, c.loop-event-test.false))) c.put_all.new.sink
    (subst (λ text. Wrote g.K.Sink.put_gives g.K.Sink.state c.loop-event.sink c.put_all.new.sink text) c.deref.ensures.value c.in_ok-put_all.ensures.ok)
