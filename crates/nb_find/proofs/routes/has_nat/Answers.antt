use Rattle.nb_find.proofs.There.{no_nats}
use Rattle.nb_find.proofs.routes.has_nat.Goals as goal

pub returns-in-None : goal.returns-in-None
returns-in-None c = no_nats c.args.records.now c.args.router.now c.args.kind c.args.at c.in-None.ensures
