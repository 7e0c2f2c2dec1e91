use Rattle.std.proofs.Common.{refl}
use Rattle.nb_records.specs.declared.router.Router.{Router}
use Rattle.nb_store.specs.Touched.{router_label}
use Rattle.lr_units.specs.Units.{router_units}
use Rattle.net_units.specs.Keys.{by_number}
use Rattle.nd_touched.proofs.Fed.{fed_units}
use Rattle.nd_touched.proofs.Stay.{there_stays}
use Rattle.nd_own.proofs.routers.router_delta.Goals as goal

pub returns-clause-tells : goal.returns-clause-tells
returns-clause-tells c = λ old same has.
    c.in_ok-delta_of.ensures.tells (router_units c.args.records.now)
    (fed_units by_number c.args.touched.now.routers (router_units old) (router_units c.args.records.now) c.args.there.now _ has (λ key. refl)
    (λ n not. there_stays (λ (x : Router). x.id) _ (λ (x : Router). x.lbs) router_label old.routers c.args.records.now.routers n (same.routers n not)))
