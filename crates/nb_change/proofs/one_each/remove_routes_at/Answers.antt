use Rattle.std.proofs.Common.{Some, ap, ◌∙◌, subst, sym, not}
use Rattle.std.proofs.lemmas.Result.{on_ok_weaker}
use Rattle.std.specs.Bool.{IsTrue}
use Rattle.nb_model.proofs.RecordLists.{apart_filter}
use Rattle.nb_model.specs.Belongs.{same_route}
use Rattle.nb_model.specs.Effect.{without}
use Rattle.nb_model.specs.Network.{Network}
use Rattle.nb_model.specs.Readable.{are_apart}
use Rattle.nb_records.specs.declared.router.Route.{Route}
use Rattle.nb_records.specs.declared.router.RouteBy.TheVariants.{Dst, Src}
use Rattle.nv_table.specs.Table.{NumbersRise}
use Rattle.nb_change.proofs.Goes.{rise_left}
use Rattle.nb_change.proofs.OneEach.{goes, both_routes}
use Rattle.nb_change.proofs.one_each.remove_routes_at.Goals as goal

pub remove_route-requires-in-None-2-clause-rise : goal.remove_route-requires-in-None-2-clause-rise
remove_route-requires-in-None-2-clause-rise c =
    subst (λ (net : Network). NumbersRise (λ (r : Route). r.id) net.routes) (sym c.in_ok-remove_route-in-None.ensures.ok)
    (rise_left (λ (r : Route). r.id) (goes c.args.router c.args.prefix (Some Dst)) c.args.work.now.records.routes c.requires.rise)

pub remove_route-requires-in-None-2-clause-apart : goal.remove_route-requires-in-None-2-clause-apart
remove_route-requires-in-None-2-clause-apart c =
    subst (λ (net : Network). IsTrue (are_apart same_route net.routes)) (sym c.in_ok-remove_route-in-None.ensures.ok)
    (apart_filter same_route (λ r. not (goes c.args.router c.args.prefix (Some Dst) r)) c.args.work.now.records.routes c.requires.apart)

pub returns-in_ok-remove_route-in-None-clause-ok : goal.returns-in_ok-remove_route-in-None-clause-ok
returns-in_ok-remove_route-in-None-clause-ok c =
    on_ok_weaker c.remove_route-in-None-2.result (λ e. e
    ∙ ap (λ (net : Network). record net { routes = without (goes c.args.router c.args.prefix (Some Src)) net.routes }) c.in_ok-remove_route-in-None.ensures.ok
    ∙ ap (λ all. record c.args.work.now.records { routes = all }) (both_routes c.args.router c.args.prefix c.args.by (sym c.in-None.is) c.args.work.now.records)) c.remove_route-in-None-2.ensures.ok
