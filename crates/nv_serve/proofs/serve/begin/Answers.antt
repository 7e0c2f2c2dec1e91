use Rattle.nv_serve.proofs.Endings.{begun, not_opened}
use Rattle.nv_serve.proofs.Opened.{session_room}
use Rattle.nv_serve.specs.Output.{opening}
use Rattle.nv_serve.proofs.serve.begin.Goals as goal

pub answer_input-requires : goal.answer_input-requires
answer_input-requires g c = rw c.in-Ok.ensures.session (session_room c.args.options.hops c.args.options.generate c.requires)

pub returns-in-Ok : goal.returns-in-Ok
returns-in-Ok g c =
    begun g.S.Source.take_gives g.S.Source.state g.K.Sink.put_gives g.K.Sink.state c.args.source.now c.args.sink.now _ _ _ _ c.args.options.hops c.args.options.generate c.answer_input.result
    c.in-Ok.ensures.session c.in-Ok.ensures.text c.answer_input.ensures

pub returns-in-Err : goal.returns-in-Err
returns-in-Err g c =
    not_opened g.S.Source.take_gives g.S.Source.state g.K.Sink.put_gives g.K.Sink.state (opening c.args.options.hops c.args.options.generate) c.args.source.now c.args.sink.now
