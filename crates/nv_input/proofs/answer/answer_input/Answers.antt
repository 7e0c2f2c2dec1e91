use Rattle.std.proofs.Common.{ap, ◌∙◌}
use Rattle.nv_input.specs.Opening.{opening_of}
use Rattle.nv_input.proofs.Ends.{stopped}
use Rattle.nv_input.proofs.Kept.{kept_first}
use Rattle.nv_input.proofs.answer.answer_input.Goals as goal

-- before the first line
pub converse-conversed-requires-clause-first : goal.converse-conversed-requires-clause-first
converse-conversed-requires-clause-first g c = rw (c.new-server.ensures.session, c.new-server.ensures.line, c.new-server.ensures.refused) (kept_first c.args.opening.session)

pub returns-in-Err : goal.returns-in-Err
returns-in-Err g c =
    rw c.of.ensures
    (stopped g.S.Source.take_gives g.S.Source.state g.K.Sink.put_gives g.K.Sink.state c.args.source.now c.args.sink.now c.converse-conversed.new.source c.converse-conversed.new.sink _ _ c.in-Err.stop
    (ap (λ t. opening_of t c.new-server.result.session) c.deref.ensures.value ∙ ap (λ s. opening_of c.args.opening.text.items s) c.new-server.ensures.session) c.in-Err.ensures.stopped)

pub returns-in-Ok : goal.returns-in-Ok
returns-in-Ok g c = rw (← c.deref.ensures.value, ← c.new-server.ensures.session, ← c.if-some_refused.true) c.in-Ok.ensures.finished

pub returns-in-Ok-2 : goal.returns-in-Ok-2
returns-in-Ok-2 g c = rw (← c.deref.ensures.value, ← c.new-server.ensures.session, ← c.if-some_refused.false) c.in-Ok.ensures.finished
