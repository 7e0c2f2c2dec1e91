use Rattle.std.proofs.Common.{ap, ◌∙◌, rules}
use Rattle.std.proofs.lemmas.Result.{on_ok_weaker}
use Rattle.nv_table.specs.Table.{with_exchanged}
use Rattle.nb_model.specs.Network.{Network}
use Rattle.nb_records.specs.declared.router.Binding.{Binding}
use Rattle.nb_change.proofs.RouterEdits.{added_binding}
use Rattle.nb_change.proofs.routes.smb_add.Goals as goal

pub returns-clause-ok : goal.returns-clause-ok
returns-clause-ok c =
    let new : Binding = record { id = c.in_ok-id.id; port = c.in-Some.port; addr = c.args.addr; mac = c.args.mac } in
    on_ok_weaker c.store_binding.result (λ e. e
    ∙ ap (λ (net : Network). record net { bindings = with_exchanged (λ x. x.id) new net.bindings }) c.in_ok-id.ensures.ok
    ∙ added_binding c.args.work.now.records c.requires.sound c.args.port.now c.args.addr c.args.mac c.in-Some.port new (search rules)
    (λ i. record { id = c.in_ok-id.ensures.number i; port = c.in-Some.port; addr = c.args.addr; mac = c.args.mac })) c.store_binding.ensures.ok
