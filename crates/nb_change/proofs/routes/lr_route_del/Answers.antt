use Rattle.std.proofs.Common.{◌∙◌}
use Rattle.std.proofs.lemmas.Result.{on_ok_weaker}
use Rattle.nb_records.specs.declared.router.Route.{Route}
use Rattle.nb_store.proofs.PlacedRecords.{rises}
use Rattle.nb_change.proofs.RouterEdits.{routes_deleted, no_routes_deleted}
use Rattle.nb_change.proofs.routes.lr_route_del.Goals as goal

pub returns-in-Some-clause-ok : goal.returns-in-Some-clause-ok
returns-in-Some-clause-ok c =
    on_ok_weaker c.remove_routes.result (λ e. e ∙ routes_deleted c.args.work.now.records c.args.router.now c.args.prefix c.args.if_exists c.args.by c.in-Some.number c.in-Some.ensures) c.remove_routes.ensures.ok

pub returns-in-None-clause-ok : goal.returns-in-None-clause-ok
returns-in-None-clause-ok c = no_routes_deleted c.args.work.now.records c.args.router.now c.args.prefix c.args.if_exists c.args.by c.in-None.ensures

pub remove_routes-requires : goal.remove_routes-requires
remove_routes-requires c = record { rise = rises (λ (x : Route). x.id) c.args.work.now.records.routes c.requires.sound.numbered.order.routes; apart = c.requires.sound.apart.routes }
