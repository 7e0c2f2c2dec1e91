use Rattle.std.proofs.Common.{ap, sym, ◌∙◌, take}
use Rattle.nb_model.specs.Effect.{named_port_ids, with_number}
use Rattle.nb_change.proofs.Once.{named_more, named_same, next_name}
use Rattle.nb_change.proofs.groups.port_ids.Goals as goal
use Rattle.nb_change.proofs.groups.port_ids.Goals.{in-Some+in_ok-add_new, in_default}

pub loop-name-preserved : goal.loop-name-preserved
loop-name-preserved c =
    let net = c.args.records.now in
    let so_far = take c.loop-name.name-index c.args.names.now in
    let next = next_name c.args.names.now c.loop-name.name-index c.name-item.result c.loop-name-test.true c.name-item.is in
    record {
      listed = elim c.match-port_id.branch [
        | in-Some+in_ok-add_new w ↦
            w.ids-is ∙ w.in_ok-add_new.ensures.ok ∙ ap (with_number w.in-Some.id) c.loop-name.invariant.listed
            ∙ sym (named_more net so_far c.name-item.result w.in-Some.id w.in-Some.ensures) ∙ sym (ap (named_port_ids net) next)
        | in_default w ↦ w.ids-is ∙ c.loop-name.invariant.listed ∙ sym (named_same net so_far c.name-item.result w.in_default.ensures) ∙ sym (ap (named_port_ids net) next)
      ];
      told = elim c.match-port_id.branch [
        | in-Some+in_ok-add_new w ↦ rw (w.ids-is, w.seen-is) w.in_ok-add_new.ensures.told
        | in_default w ↦ rw (w.ids-is, w.seen-is) c.loop-name.invariant.told
      ];
    }
