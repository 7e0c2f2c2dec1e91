use Rattle.std.proofs.Common.{ap, ◌∙◌, rules}
use Rattle.std.proofs.lemmas.Result.{on_ok_weaker}
use Rattle.nv_table.specs.Table.{with_exchanged}
use Rattle.nb_model.specs.Network.{Network}
use Rattle.nb_records.specs.declared.router.Route.{Route}
use Rattle.nb_change.proofs.RouterEdits.{added_route}
use Rattle.nb_change.proofs.routes.lr_route_add.Goals as goal

pub returns-clause-ok : goal.returns-clause-ok
returns-clause-ok c =
    let new : Route = record { id = c.in_ok-id.id; router = c.in-Some.router; by = c.unwrap_or-by.result; prefix = c.args.prefix; nexthop = c.args.nexthop; port = c.args.port } in
    on_ok_weaker c.store_route.result (λ e. e
    ∙ ap (λ (net : Network). record net { routes = with_exchanged (λ x. x.id) new net.routes }) c.in_ok-id.ensures.ok
    ∙ added_route c.args.work.now.records c.requires.sound c.args.router.now c.args.prefix c.args.nexthop c.args.port c.args.by c.in-Some.router new (search rules)
    (λ i. record { id = c.in_ok-id.ensures.number i; router = c.in-Some.router; by = c.unwrap_or-by.ensures i; prefix = c.args.prefix; nexthop = c.args.nexthop; port = c.args.port })) c.store_route.ensures.ok
