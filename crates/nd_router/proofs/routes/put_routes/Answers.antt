use Rattle.std.proofs.Common.{◌++◌, ap, ◌∙◌}
use Rattle.std.specs.List.{flat_map}
use Rattle.std.specs.Prelude.{Some}
use Rattle.nb_records.specs.declared.router.Route.{Route}
use Rattle.nb_model.specs.Network.{same}
use Rattle.nv_table.proofs.Through.{all_left, these_after, these_fewer, these_next, these_whole}
use Rattle.nd_router.specs.inner.Made.{route_rows, routes_of}
use Rattle.nd_inputs.proofs.Sound.{routes_rise}
use Rattle.nd_router.proofs.routes.put_routes.Goals as goal

pub loop-route-init : goal.loop-route-init
loop-route-init c = ap (λ left. c.args.rows.now ++ flat_map (route_rows c.args.records.now) left) (all_left (λ (x : Route). x.id) (routes_of c.args.records.now c.args.router))

pub loop-route-smaller : goal.loop-route-smaller
loop-route-smaller c = these_fewer (λ (x : Route). x.id) (λ (x : Route). same c.args.router x.router) c.loop-route.last c.args.records.now.routes c.in-Some.route.now (routes_rise c.args.records.now c.requires) c.in-Some.ensures

pub loop-route-preserved : goal.loop-route-preserved
loop-route-preserved c =
    ap (λ made. made ++ flat_map (route_rows c.args.records.now) (these_after (λ (x : Route). x.id) (λ (x : Route). same c.args.router x.router) (Some c.in-Some.route.now.id) c.args.records.now.routes)) c.in_ok-put_route.ensures
    ∙ these_next (λ (x : Route). x.id) (λ (x : Route). same c.args.router x.router) c.loop-route.last c.args.records.now.routes c.in-Some.route.now (routes_rise c.args.records.now c.requires) c.in-Some.ensures
    (route_rows c.args.records.now) c.loop-route.rows (c.args.rows.now ++ flat_map (route_rows c.args.records.now) (routes_of c.args.records.now c.args.router)) c.loop-route.invariant

pub returns : goal.returns
returns c =
    these_whole (λ (x : Route). x.id) (λ (x : Route). same c.args.router x.router) c.loop-route.last c.args.records.now.routes c.in_default.ensures
    (route_rows c.args.records.now) c.loop-route.rows (c.args.rows.now ++ flat_map (route_rows c.args.records.now) (routes_of c.args.records.now c.args.router)) c.loop-route.invariant
