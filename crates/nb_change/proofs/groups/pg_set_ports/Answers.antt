use Rattle.std.proofs.Common.{ap, ◌∙◌}
use Rattle.std.proofs.lemmas.Result.{on_ok_weaker}
use Rattle.nb_records.specs.declared.sets.Group.{Group}
use Rattle.nb_model.specs.Effect.{named_port_ids}
use Rattle.nb_change.proofs.GroupEdits.{set_group, no_group_set}
use Rattle.nb_change.proofs.groups.pg_set_ports.Goals as goal

pub returns-in_default-clause-ok : goal.returns-in_default-clause-ok
returns-in_default-clause-ok c = no_group_set c.args.work.now.records c.requires.sound c.args.name c.args.ports.now c.in_default.ensures

pub returns-clause-ok : goal.returns-clause-ok
returns-clause-ok c =
    let new : Group = record { id = c.in-Some.id; name = c.args.name; ports = c.in_ok-members.members } in
    on_ok_weaker c.store_group.result (λ e. e
    ∙ set_group c.args.work.now.records c.requires.sound c.args.name c.args.ports.now c.in-Some.id new c.in-Some.ensures
    (λ i. record { id = c.in-Some.id; name = c.args.name; ports = (c.in_ok-members.ensures ∙ ap (named_port_ids c.args.work.now.records) c.as_slice.ensures) i })) c.store_group.ensures.ok
