use Rattle.std.proofs.Common.{ap, ◌∙◌, rules, true}
use Rattle.std.proofs.lemmas.Result.{on_ok_weaker}
use Rattle.nv_table.specs.Table.{with_exchanged}
use Rattle.nb_model.specs.Network.{Network}
use Rattle.nb_records.specs.declared.router.RouterPort.{RouterPort}
use Rattle.nb_change.proofs.RouterEdits.{added_router_port}
use Rattle.nb_change.proofs.routers.lrp_add.Goals as goal

pub returns-clause-ok : goal.returns-clause-ok
returns-clause-ok c =
    let new : RouterPort = record { id = c.in_ok-id.id; router = c.in-Some.router; name = c.args.port; mac = c.args.mac; nets = c.args.nets; enabled = true } in
    on_ok_weaker c.store_router_port.result (λ e. e
    ∙ ap (λ (net : Network). record net { router_ports = with_exchanged (λ x. x.id) new net.router_ports }) c.in_ok-id.ensures.ok
    ∙ added_router_port c.args.work.now.records c.requires.sound c.args.router.now c.args.port c.args.mac c.args.nets c.args.may_exist c.in-Some.router new (search rules)
    (λ i. record { id = c.in_ok-id.ensures.number i; router = c.in-Some.router; name = c.args.port; mac = c.args.mac; nets = c.args.nets; enabled = true }) (search rules)) c.store_router_port.ensures.ok
