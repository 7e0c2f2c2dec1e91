use Rattle.std.proofs.Common.{◌∙◌}
use Rattle.std.proofs.lemmas.Result.{on_ok_weaker}
use Rattle.nb_store.proofs.PlacedRecords.{rises}
use Rattle.nb_records.specs.declared.router.Binding.{Binding}
use Rattle.nb_change.proofs.RouterRemovals.{port_deleted, no_port_deleted}
use Rattle.nb_change.proofs.routers.lrp_del.Goals as goal

pub returns-in-Some-clause-ok : goal.returns-in-Some-clause-ok
returns-in-Some-clause-ok c =
    on_ok_weaker c.remove_router_port.result (λ e. e ∙ port_deleted c.args.work.now.records c.requires.sound c.args.port.now c.args.if_exists c.in-Some.number c.in-Some.ensures) c.remove_router_port.ensures.ok

pub returns-in-None-clause-ok : goal.returns-in-None-clause-ok
returns-in-None-clause-ok c = no_port_deleted c.args.work.now.records c.requires.sound c.args.port.now c.args.if_exists c.in-None.ensures

pub remove_router_port-requires : goal.remove_router_port-requires
remove_router_port-requires c = record { rise = rises (λ (x : Binding). x.id) c.args.work.now.records.bindings c.requires.sound.numbered.order.bindings }
