use Rattle.std.proofs.Common.{◌≡◌, ◌++◌, length}
use Rattle.std.specs.List.{flat_map}
use Rattle.nb_model.specs.Network.{same}
use Rattle.nd_router.specs.inner.Made.{route_rows, routes_of}
use Rattle.nv_table.proofs.Through.{these_after}
use Rattle.nd_router.proofs.routes.put_routes.Given as goal

-- the rows so far, and then those of the routes that are left, are all
abbrev pub invariant-loop-route : goal.invariant-loop-route
invariant-loop-route l = l.rows ++ flat_map (route_rows l.records) (these_after (λ x. x.id) (λ x. same l.router x.router) l.last l.records.routes) ≡ l.fn.rows ++ flat_map (route_rows l.records) (routes_of l.records l.router)

abbrev pub decreases-loop-route : goal.decreases-loop-route
decreases-loop-route l = length (these_after (λ x. x.id) (λ x. same l.router x.router) l.last l.records.routes)
