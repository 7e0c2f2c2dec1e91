use Rattle.std.proofs.Common.{ap, ◌∙◌}
use Rattle.std.proofs.lemmas.Result.{on_ok_weaker}
use Rattle.nb_records.specs.declared.acl.Acl.{Acl}
use Rattle.nb_model.specs.Network.{Network}
use Rattle.nv_table.specs.Table.{without_number}
use Rattle.nb_store.proofs.PlacedRecords.{rises}
use Rattle.nb_change.proofs.GroupEdits.{group_deleted, no_group_deleted}
use Rattle.nb_change.proofs.groups.pg_del.Goals as goal

pub returns-in_default-clause-ok : goal.returns-in_default-clause-ok
returns-in_default-clause-ok c = no_group_deleted c.args.work.now.records c.args.name.now c.args.if_exists c.in_default.ensures

pub drop_all-requires : goal.drop_all-requires
drop_all-requires c = record { rise = rises (λ (x : Acl). x.id) c.args.work.now.records.acls c.requires.sound.numbered.order.acls }

pub returns-clause-ok : goal.returns-clause-ok
returns-clause-ok c =
    on_ok_weaker c.remove.result (λ e. e
    ∙ ap (λ (net : Network). record net { groups = without_number (λ x. x.id) c.in-Some.group net.groups }) c.in_ok-drop_all.ensures.ok
    ∙ group_deleted c.args.work.now.records c.args.name.now c.args.if_exists c.in-Some.group c.in-Some.ensures) c.remove.ensures.ok
