use Rattle.std.proofs.Common.{ap, ◌∙◌}
use Rattle.std.proofs.lemmas.Result.{on_ok_weaker}
use Rattle.nv_table.specs.Table.{with_exchanged}
use Rattle.nb_model.specs.Network.{Network}
use Rattle.nb_records.specs.declared.sets.AddrSet.{AddrSet}
use Rattle.nb_change.proofs.SetEdits.{added_set}
use Rattle.nb_change.proofs.sets.as_add.Goals as goal

pub returns-clause-ok : goal.returns-clause-ok
returns-clause-ok c =
    let new : AddrSet = record { id = c.in_ok-id.id; name = c.args.name; members = c.args.members } in
    on_ok_weaker c.store_set.result (λ e. e
    ∙ ap (λ (net : Network). record net { sets = with_exchanged (λ x. x.id) new net.sets }) c.in_ok-id.ensures.ok
    ∙ added_set c.args.work.now.records c.requires.sound c.args.name c.args.members new (λ i. record { id = c.in_ok-id.ensures.number i; name = c.args.name; members = c.args.members })) c.store_set.ensures.ok
