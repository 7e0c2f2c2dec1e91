use Rattle.std.proofs.Common.{None, Some}
use Rattle.nb_records.specs.declared.router.Router.{Router}
use Rattle.nd_touched.proofs.Stay.{found_gives}
use Rattle.nd_own.proofs.routers.RouterUnitsWanted.wanted.Goals as goal

pub returns-in-Some : goal.returns-in-Some
returns-in-Some c = found_gives (λ (x : Router). x.id) (λ x. tt) c.args.key.now c.args.self.now.records.now.routers _ (Some _) c.in-Some.ensures.record c.routers.ensures

pub returns-in-None : goal.returns-in-None
returns-in-None c = found_gives (λ (x : Router). x.id) (λ x. tt) c.args.key.now c.args.self.now.records.now.routers _ None c.in-None.ensures.record c.routers.ensures
