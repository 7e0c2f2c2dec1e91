use Rattle.std.proofs.Common.{ap, sym, ◌∙◌}
use Rattle.std.specs.Prelude.{is_some}
use Rattle.std.proofs.lemmas.Result.{on_ok_weaker}
use Rattle.nb_records.specs.declared.acl.Acl.{Acl}
use Rattle.nb_model.specs.Network.{Network}
use Rattle.nv_table.specs.Table.{with_exchanged}
use Rattle.nb_change.proofs.AclEdits.{no_owner, same_acl_there, added_acl}
use Rattle.nb_store.proofs.PlacedRecords.{rises}
use Rattle.nb_change.proofs.acls.acl_add.Goals as goal

pub returns-in_default-clause-ok : goal.returns-in_default-clause-ok
returns-in_default-clause-ok c =
    no_owner c.args.work.now.records c.args.way c.args.priority c.args.matching c.args.verdict c.args.owner.now c.args.may_exist c.args.of c.in_default.ensures

pub acl_like-like-requires-clause-rise : goal.acl_like-like-requires-clause-rise
acl_like-like-requires-clause-rise c = rises (λ (x : Acl). x.id) c.args.work.now.records.acls c.requires.sound.numbered.order.acls

pub returns-then-is_some-clause-ok : goal.returns-then-is_some-clause-ok
returns-then-is_some-clause-ok c =
    same_acl_there c.args.work.now.records c.args.way c.args.priority c.args.matching c.args.verdict c.args.owner.now c.args.may_exist c.args.of c.in-Some.owner c.in-Some.ensures
    (sym (ap is_some c.acl_like-like.ensures) ∙ sym c.is_some.ensures ∙ c.if-is_some.true)

pub returns-clause-ok : goal.returns-clause-ok
returns-clause-ok c =
    let net = c.args.work.now.records in
    let new : Acl = record { id = c.in_ok-id.id; owner = c.in-Some.owner; way = c.args.way; priority = c.args.priority; matching = c.args.matching; verdict = c.args.verdict } in
    on_ok_weaker c.store_acl.result (λ e. e
    ∙ ap (λ (it : Network). record it { acls = with_exchanged (λ x. x.id) new it.acls }) c.in_ok-id.ensures.ok
    ∙ added_acl net c.args.way c.args.priority c.args.matching c.args.verdict c.requires.sound c.args.owner.now c.args.may_exist c.args.of c.in-Some.owner new c.in-Some.ensures
    (λ i. record { id = c.in_ok-id.ensures.number i; owner = c.in-Some.owner; way = c.args.way; priority = c.args.priority; matching = c.args.matching; verdict = c.args.verdict })
    (sym (ap is_some c.acl_like-like.ensures) ∙ sym c.is_some.ensures ∙ c.if-is_some.false)) c.store_acl.ensures.ok
