use Rattle.nv_serve.proofs.Endings as endings
use Rattle.nv_serve.proofs.serve.run.Goals as goal

pub returns-clause-complete : goal.returns-clause-complete
returns-clause-complete g c = endings.complete g.S.Source.take_gives g.S.Source.state g.K.Sink.put_gives g.K.Sink.state _ c.args.source.now c.args.sink.now _ _ c.serve.result c.serve.ensures.ends
