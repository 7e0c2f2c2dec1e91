use Rattle.std.proofs.Common.{◌∙◌, ◌&&◌, Option, sym, ap}
use Rattle.std.specs.List.{list_any}
use Rattle.nb_records.specs.declared.router.RouteBy.{RouteBy}
use Rattle.nb_model.specs.Belongs.{same_block, same_policy}
use Rattle.nb_model.specs.Effect.{is_asked}
use Rattle.nb_model.specs.Network.{same}
use Rattle.nb_find.proofs.There.{first_policy, other_policy}
use Rattle.nb_find.proofs.routes.has_route_for.Goals as goal

pub returns-then-has_route_by : goal.returns-then-has_route_by
returns-then-has_route_by c =
    first_policy c.args.router c.args.prefix c.args.records.now.routes c.has_route_by-in-None.result c.has_route_by-in-None.ensures c.if-has_route_by.true
    ∙ ap (λ (by : Option RouteBy). list_any (λ route. same c.args.router route.router && (same_block c.args.prefix route.prefix && is_asked same_policy by route.by)) c.args.records.now.routes) (sym c.in-None.is)

pub returns-else-has_route_by : goal.returns-else-has_route_by
returns-else-has_route_by c =
    other_policy c.args.router c.args.prefix c.args.records.now.routes c.has_route_by-in-None.result c.has_route_by-else-has_route_by.result c.has_route_by-in-None.ensures c.if-has_route_by.false c.has_route_by-else-has_route_by.ensures
    ∙ ap (λ (by : Option RouteBy). list_any (λ route. same c.args.router route.router && (same_block c.args.prefix route.prefix && is_asked same_policy by route.by)) c.args.records.now.routes) (sym c.in-None.is)
