use Rattle.nb_find.proofs.Alike.{no_binding_like}
use Rattle.nb_find.proofs.routes.binding_like.Goals as goal

pub returns-in-None : goal.returns-in-None
returns-in-None c = no_binding_like c.args.records.now c.args.port.now c.args.addr c.in-None.ensures
