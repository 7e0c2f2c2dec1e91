use Rattle.nb_find.proofs.There.{no_routes}
use Rattle.nb_find.proofs.routes.has_route.Goals as goal

pub returns-in-None : goal.returns-in-None
returns-in-None c = no_routes c.args.records.now c.args.router.now c.args.prefix c.args.by c.in-None.ensures
