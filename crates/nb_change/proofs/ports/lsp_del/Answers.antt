use Rattle.std.proofs.Common.{◌∙◌}
use Rattle.std.proofs.lemmas.Result.{on_ok_weaker}
use Rattle.nb_records.specs.declared.sets.Group.{Group}
use Rattle.nb_store.proofs.PlacedRecords.{rises}
use Rattle.nb_change.proofs.Deleted.{port_deleted, no_port_deleted}
use Rattle.nb_change.proofs.ports.lsp_del.Goals as goal

pub returns-in-Some-clause-ok : goal.returns-in-Some-clause-ok
returns-in-Some-clause-ok c =
    on_ok_weaker c.remove_port.result (λ e. e ∙ port_deleted c.args.work.now.records c.requires.sound c.args.port.now c.args.if_exists c.in-Some.number c.in-Some.ensures) c.remove_port.ensures.ok

pub returns-in-None-clause-ok : goal.returns-in-None-clause-ok
returns-in-None-clause-ok c = no_port_deleted c.args.work.now.records c.requires.sound c.args.port.now c.args.if_exists c.in-None.ensures

pub remove_port-requires : goal.remove_port-requires
remove_port-requires c = record { rise = rises (λ (x : Group). x.id) c.args.work.now.records.groups c.requires.sound.numbered.order.groups }
