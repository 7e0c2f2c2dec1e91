use Rattle.std.proofs.Common.{rules, map}
use Rattle.std.specs.String.{string_bytes}
use Rattle.nv_serve.proofs.Endings.{answered, refuses, no_memory}
use Rattle.nv_serve.proofs.Opened.{few_ports}
use Rattle.nv_serve.proofs.serve.serve.Goals as goal

pub begin-requires : goal.begin-requires
begin-requires g c = few_ports c.in-Ok.options.generate c.in-Ok.ensures.ports_within

pub returns-in-Ok-clause-ends : goal.returns-in-Ok-clause-ends
returns-in-Ok-clause-ends g c =
    answered g.S.Source.take_gives g.S.Source.state g.K.Sink.put_gives g.K.Sink.state (map string_bytes c.args.arguments.now) c.args.source.now c.args.sink.now _ _ _ _ _
    c.in-Ok.ensures.hops c.in-Ok.ensures.generate c.in-Ok.ensures.accepted (few_ports c.in-Ok.options.generate c.in-Ok.ensures.ports_within) c.begin.ensures

pub returns-in-Err-Refused-clause-ends : goal.returns-in-Err-Refused-clause-ends
returns-in-Err-Refused-clause-ends g c =
    (refuses g.S.Source.take_gives g.S.Source.state g.K.Sink.put_gives g.K.Sink.state (map string_bytes c.args.arguments.now) c.args.source.now c.args.sink.now _ c.refuse_arguments.result (search rules) c.refuse_arguments.ensures).0

pub returns-in-Err-Memory-clause-ends : goal.returns-in-Err-Memory-clause-ends
returns-in-Err-Memory-clause-ends g c =
    (no_memory g.S.Source.take_gives g.S.Source.state g.K.Sink.put_gives g.K.Sink.state (map string_bytes c.args.arguments.now) c.args.source.now c.args.sink.now).0
