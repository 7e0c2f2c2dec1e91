use Rattle.std.proofs.Common.{refl, ◌∙◌}
use Rattle.std.proofs.lemmas.Result.{on_ok_weaker}
use Rattle.nb_records.specs.declared.router.RouterPort.{RouterPort}
use Rattle.nb_change.proofs.RouterEdits.{changed_router_port, no_router_port}
use Rattle.nb_change.proofs.routers.lrp_set_enabled.Goals as goal

pub returns-in_default-clause-ok : goal.returns-in_default-clause-ok
returns-in_default-clause-ok c = no_router_port c.args.work.now.records c.requires.sound c.args.port (λ p. record p { enabled = c.args.enabled }) c.in_default.ensures

pub returns-clause-ok : goal.returns-clause-ok
returns-clause-ok c =
    let old : RouterPort = c.in-Some.old.now in
    let new : RouterPort = record { id = old.id; router = old.router; name = c.port.inside.0.items; mac = old.mac; nets = c.in_ok-copy.field-0; enabled = c.args.enabled } in
    on_ok_weaker c.store_router_port.result (λ e. e
    ∙ changed_router_port c.args.work.now.records c.requires.sound c.args.port (λ p. record p { enabled = c.args.enabled }) old new c.in-Some.ensures refl
    (λ is i. record { id = old.id; router = old.router; name = (c.port.view_is ∙ is) i; mac = old.mac; nets = c.in_ok-copy.ensures i; enabled = c.args.enabled }))
    c.store_router_port.ensures.ok
