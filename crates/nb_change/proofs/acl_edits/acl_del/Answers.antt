use Rattle.nb_records.specs.declared.acl.Acl.{Acl}
use Rattle.nb_change.proofs.AclEdits.{no_owner_loses}
use Rattle.nb_store.proofs.PlacedRecords.{rises}
use Rattle.nb_change.proofs.acl_edits.acl_del.Goals as goal

pub returns-in_default-clause-ok : goal.returns-in_default-clause-ok
returns-in_default-clause-ok c = no_owner_loses c.args.work.now.records c.args.owner.now c.args.of c.args.way c.args.rule.now c.in_default.ensures

pub drop_all-requires : goal.drop_all-requires
drop_all-requires c = record { rise = rises (λ (x : Acl). x.id) c.args.work.now.records.acls c.requires.sound.numbered.order.acls }

pub drop_each-requires : goal.drop_each-requires
drop_each-requires c = record { rise = rises (λ (x : Acl). x.id) c.args.work.now.records.acls c.requires.sound.numbered.order.acls }
