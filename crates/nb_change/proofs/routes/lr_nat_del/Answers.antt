use Rattle.std.proofs.Common.{◌∙◌}
use Rattle.std.proofs.lemmas.Result.{on_ok_weaker}
use Rattle.nb_records.specs.declared.router.Nat.{Nat}
use Rattle.nb_store.proofs.PlacedRecords.{rises}
use Rattle.nb_change.proofs.RouterEdits.{nats_deleted, no_nats_deleted}
use Rattle.nb_change.proofs.routes.lr_nat_del.Goals as goal

pub returns-in-Some-clause-ok : goal.returns-in-Some-clause-ok
returns-in-Some-clause-ok c =
    on_ok_weaker c.remove_nats.result (λ e. e ∙ nats_deleted c.args.work.now.records c.args.router.now c.args.kind c.args.at c.args.if_exists c.in-Some.number c.in-Some.ensures) c.remove_nats.ensures.ok

pub returns-in-None-clause-ok : goal.returns-in-None-clause-ok
returns-in-None-clause-ok c = no_nats_deleted c.args.work.now.records c.args.router.now c.args.kind c.args.at c.args.if_exists c.in-None.ensures

pub remove_nats-requires : goal.remove_nats-requires
remove_nats-requires c = record { rise = rises (λ (x : Nat). x.id) c.args.work.now.records.nats c.requires.sound.numbered.order.nats; apart = c.requires.sound.apart.nats }
