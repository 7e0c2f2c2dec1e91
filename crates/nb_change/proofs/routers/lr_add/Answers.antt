use Rattle.std.proofs.Common.{ap, ◌∙◌, rules}
use Rattle.std.proofs.lemmas.Result.{on_ok_weaker}
use Rattle.nv_table.specs.Table.{with_exchanged}
use Rattle.nb_model.specs.Network.{Network}
use Rattle.nb_records.specs.declared.router.Router.{Router}
use Rattle.nb_change.proofs.RouterEdits.{added_router}
use Rattle.nb_change.proofs.routers.lr_add.Goals as goal

pub returns-clause-ok : goal.returns-clause-ok
returns-clause-ok c =
    let new : Router = record { id = c.in_ok-id.id; name = c.args.name; lbs = c.new.result } in
    on_ok_weaker c.store_router.result (λ e. e
    ∙ ap (λ (net : Network). record net { routers = with_exchanged (λ x. x.id) new net.routers }) c.in_ok-id.ensures.ok
    ∙ added_router c.args.work.now.records c.requires.sound c.args.name c.args.may_exist new (λ i. record { id = c.in_ok-id.ensures.number i; name = c.args.name; lbs = c.new.ensures i }) (search rules)) c.store_router.ensures.ok
