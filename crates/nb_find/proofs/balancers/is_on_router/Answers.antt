use Rattle.std.proofs.Common.{sym}
use Rattle.std.specs.Str.{bytes_eq}
use Rattle.nb_records.specs.declared.router.Router.{Router}
use Rattle.nb_find.proofs.OnList.{found_there}
use Rattle.nb_find.proofs.balancers.is_on_router.Goals as goal

pub router_has-requires : goal.router_has-requires
router_has-requires c = found_there (λ (x : Router). bytes_eq x.name c.args.router.now) c.args.records.now.routers c.in-Some-Some.router.now (sym c.in-Some-Some.ensures')
