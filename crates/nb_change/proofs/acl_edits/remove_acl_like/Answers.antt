use Rattle.std.proofs.Common.{◌∙◌}
use Rattle.std.proofs.lemmas.Result.{on_ok_weaker}
use Rattle.nb_records.specs.declared.acl.Acl.{Acl}
use Rattle.nb_change.proofs.AclRemovals.{none_like_removed, like_removed}
use Rattle.nb_store.proofs.PlacedRecords.{rises}
use Rattle.nb_change.proofs.acl_edits.remove_acl_like.Goals as goal

pub acl_like-requires-clause-rise : goal.acl_like-requires-clause-rise
acl_like-requires-clause-rise c = rises (λ (x : Acl). x.id) c.args.work.now.records.acls c.requires.sound.numbered.order.acls

pub returns-in_default-clause-ok : goal.returns-in_default-clause-ok
returns-in_default-clause-ok c = none_like_removed c.args.work.now.records c.requires.sound c.args.owner c.args.way c.args.priority c.args.matching.now c.in_default.ensures

pub returns-clause-ok : goal.returns-clause-ok
returns-clause-ok c =
    on_ok_weaker c.remove.result (λ e. e ∙ like_removed c.args.work.now.records c.requires.sound c.args.owner c.args.way c.args.priority c.args.matching.now c.in-Some.id c.in-Some.ensures) c.remove.ensures.ok
