use Rattle.std.proofs.Common.{ap, ◌∙◌}
use Rattle.std.proofs.lemmas.Result.{on_ok_weaker}
use Rattle.nb_records.specs.declared.sets.Group.{Group}
use Rattle.nb_model.specs.Network.{Network}
use Rattle.nv_table.specs.Table.{with_exchanged}
use Rattle.nb_model.specs.Effect.{named_port_ids}
use Rattle.nb_change.proofs.GroupEdits.{added_group}
use Rattle.nb_change.proofs.groups.pg_add.Goals as goal

pub returns-clause-ok : goal.returns-clause-ok
returns-clause-ok c =
    let new : Group = record { id = c.in_ok-id.id; name = c.args.name; ports = c.in_ok-members.members } in
    on_ok_weaker c.store_group.result (λ e. e
    ∙ ap (λ (net : Network). record net { groups = with_exchanged (λ x. x.id) new net.groups }) c.in_ok-id.ensures.ok
    ∙ added_group c.args.work.now.records c.requires.sound c.args.name c.args.ports.now new
    (λ i. record { id = c.in_ok-id.ensures.number i; name = c.args.name; ports = (c.in_ok-members.ensures ∙ ap (named_port_ids c.args.work.now.records) c.as_slice.ensures) i })) c.store_group.ensures.ok
