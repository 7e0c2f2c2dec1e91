use Rattle.std.proofs.Common.{◌∙◌}
use Rattle.std.proofs.lemmas.Result.{on_ok_weaker}
use Rattle.nb_records.specs.declared.sets.AddrSet.{AddrSet}
use Rattle.nb_change.proofs.SetEdits.{changed_set, no_set_changed}
use Rattle.nb_change.proofs.sets.as_set.Goals as goal

pub returns-in_default-clause-ok : goal.returns-in_default-clause-ok
returns-in_default-clause-ok c = no_set_changed c.args.work.now.records c.requires.sound c.args.name c.args.members c.in_default.ensures

pub returns-clause-ok : goal.returns-clause-ok
returns-clause-ok c =
    let old : AddrSet = c.in-Some.old.now in
    let new : AddrSet = record { id = old.id; name = c.args.name; members = c.args.members } in
    on_ok_weaker c.store_set.result (λ e. e
    ∙ changed_set c.args.work.now.records c.requires.sound c.args.name c.args.members old new c.in-Some.ensures
    (λ is i. record { id = old.id; name = is i; members = c.args.members }))
    c.store_set.ensures.ok
