use Rattle.nb_records.specs.declared.acl.Acl.{Acl}
use Rattle.nb_store.proofs.PlacedRecords.{rises}
use Rattle.nb_find.proofs.acls.acl_number.Goals as goal

pub acl_like-requires-clause-rise : goal.acl_like-requires-clause-rise
acl_like-requires-clause-rise c = rises (λ (x : Acl). x.id) c.args.records.now.acls c.requires.sound.numbered.order.acls
