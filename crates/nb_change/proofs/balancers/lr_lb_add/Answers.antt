use Rattle.std.proofs.Common.{◌∙◌}
use Rattle.std.proofs.lemmas.Result.{on_ok_weaker}
use Rattle.nb_model.specs.Network.{lb_id}
use Rattle.nb_change.proofs.BalancerEdits.{of_routers, attached, none_attached, no_lb_attached}
use Rattle.nb_change.proofs.balancers.lr_lb_add.Goals as goal

pub returns-in_default-clause-ok : goal.returns-in_default-clause-ok
returns-in_default-clause-ok c = let net = c.args.work.now.records in no_lb_attached (of_routers net c.requires.sound) c.args.router.now (lb_id net c.args.lb.now) c.in_default.ensures

pub returns-in_default-router_named-clause-ok : goal.returns-in_default-router_named-clause-ok
returns-in_default-router_named-clause-ok c =
    let net = c.args.work.now.records in
    none_attached (of_routers net c.requires.sound) c.args.router.now (lb_id net c.args.lb.now) c.in-Some.number c.in-Some.ensures c.in_default-router_named.ensures

pub returns-clause-ok : goal.returns-clause-ok
returns-clause-ok c =
    let net = c.args.work.now.records in
    on_ok_weaker c.list_on_router.result
    (λ e. e ∙ attached (of_routers net c.requires.sound) c.args.router.now (lb_id net c.args.lb.now) c.in-Some.number c.in-Some-router_named.old.now c.in-Some.ensures c.in-Some-router_named.ensures) c.list_on_router.ensures.ok
