use Rattle.std.proofs.Common.{ap, sym, ◌∙◌}
use Rattle.nb_records.specs.declared.switch.Port.{Port}
use Rattle.net_units.specs.Keys.{by_number}
use Rattle.nd_inputs.proofs.Sound.{ports_rise}
use Rattle.nd_touched.proofs.Fed.{fed_units}
use Rattle.nd_owners.specs.inner.Found.{owner_where}
use Rattle.nd_owners.proofs.Kept.{owner_at}
use Rattle.nd_ports.specs.Unknown.{is_for_unknown, unknown_ports}
use Rattle.nd_ports.proofs.unknowns.unknown_delta.Goals as goal

pub returns-clause-tells : goal.returns-clause-tells
returns-clause-tells c = λ old sound same has.
    let at_new = owner_at (λ (x : Port). x.id) (λ (x : Port). x.switch) is_for_unknown c.args.records.now.ports (ports_rise c.args.records.now c.requires.sound) in
    c.in_ok-delta_of.ensures.tells (unknown_ports c.args.records.now)
    (fed_units by_number c.args.touched.now.ports (unknown_ports old) (unknown_ports c.args.records.now) c.args.there.now _ has (λ key. sym (at_new key))
    (λ n not.
    owner_at (λ (x : Port). x.id) (λ (x : Port). x.switch) is_for_unknown old.ports (ports_rise old sound) n
    ∙ ap (owner_where (λ (x : Port). x.switch) is_for_unknown) (same.ports n not)
    ∙ sym (at_new n)))
