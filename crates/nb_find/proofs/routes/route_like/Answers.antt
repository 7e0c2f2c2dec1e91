use Rattle.nb_find.proofs.Alike.{no_route_like}
use Rattle.nb_find.proofs.routes.route_like.Goals as goal

pub returns-in-None : goal.returns-in-None
returns-in-None c = no_route_like c.args.records.now c.args.router.now c.args.prefix c.args.by c.in-None.ensures
