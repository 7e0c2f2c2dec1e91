use Rattle.std.proofs.Common.{ap, ◌∙◌, rules}
use Rattle.std.proofs.lemmas.Result.{on_ok_weaker}
use Rattle.nv_table.specs.Table.{with_exchanged}
use Rattle.nb_model.specs.Network.{Network}
use Rattle.nb_records.specs.declared.router.Nat.{Nat}
use Rattle.nb_change.proofs.RouterEdits.{added_nat}
use Rattle.nb_change.proofs.routes.lr_nat_add.Goals as goal

pub returns-clause-ok : goal.returns-clause-ok
returns-clause-ok c =
    let new : Nat = record { id = c.in_ok-id.id; router = c.in-Some.router; kind = c.args.kind; external = c.args.external; logical = c.args.logical } in
    on_ok_weaker c.store_nat.result (λ e. e
    ∙ ap (λ (net : Network). record net { nats = with_exchanged (λ x. x.id) new net.nats }) c.in_ok-id.ensures.ok
    ∙ added_nat c.args.work.now.records c.requires.sound c.args.router.now c.args.kind c.args.external c.args.logical c.in-Some.router new (search rules)
    (λ i. record { id = c.in_ok-id.ensures.number i; router = c.in-Some.router; kind = c.args.kind; external = c.args.external; logical = c.args.logical })) c.store_nat.ensures.ok
