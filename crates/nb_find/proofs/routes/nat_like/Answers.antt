use Rattle.nb_find.proofs.Alike.{no_nat_like}
use Rattle.nb_find.proofs.routes.nat_like.Goals as goal

pub returns-in-None : goal.returns-in-None
returns-in-None c = no_nat_like c.args.records.now c.args.router.now c.args.kind c.args.external c.args.logical c.in-None.ensures
