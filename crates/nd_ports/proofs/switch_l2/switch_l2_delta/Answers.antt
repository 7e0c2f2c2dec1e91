use Rattle.std.proofs.Common.{ap, sym, ◌∙◌}
use Rattle.std.specs.Prelude.{is_some}
use Rattle.nv_map.specs.Map.{value_at}
use Rattle.nv_table.specs.Table.{record_of}
use Rattle.nb_records.specs.declared.switch.Switch.{Switch}
use Rattle.nb_store.specs.Touched.{switch_label}
use Rattle.inc_feed.specs.Feed.{has_key}
use Rattle.net_units.specs.Keys.{by_number}
use Rattle.net_units.specs.Units.{switch_l2_units}
use Rattle.nd_touched.proofs.Fed.{fed_units}
use Rattle.nd_ports.specs.inner.Found.{input_where}
use Rattle.nd_owners.proofs.Kept.{first_stays, neither}
use Rattle.nd_ports.proofs.Unknown.{input_alike, l2_at}
use Rattle.nd_ports.proofs.switch_l2.switch_l2_delta.Goals as goal

pub returns-clause-tells : goal.returns-clause-tells
returns-clause-tells c = λ old before after was sound same has known now changed.
    c.in_ok-delta_of.ensures.tells (switch_l2_units c.args.records.now)
    (fed_units by_number c.in_ok-keys.keys (switch_l2_units old) (switch_l2_units c.args.records.now) c.args.there.now _ has (λ key. sym (l2_at c.args.records.now after c.args.unknown.now c.requires.sound now key))
    (λ n not.
    let apart = neither (has_key by_number n c.args.touched.now.switches) (is_some (value_at by_number n c.args.changed.now)) (has_key by_number n c.in_ok-keys.keys) (c.in_ok-keys.ensures n) not in
    l2_at old before was sound known n
    ∙ ap (λ first. input_where first (record_of (λ (x : Switch). x.id) n old.switches)) (first_stays was c.args.unknown.now c.args.changed.now changed n apart.1)
    ∙ input_alike _ (λ (x : Switch). x.lbs) switch_label (value_at by_number n c.args.unknown.now) _ _ (same.switches n apart.0)
    ∙ sym (l2_at c.args.records.now after c.args.unknown.now c.requires.sound now n)))
