use Rattle.std.proofs.Common.{◌&&◌, ◌||◌, ◌++◌, ap, refl, sym, ◌∙◌}
use Rattle.std.proofs.Math.Bool.{or-false, or_assoc}
use Rattle.std.specs.Prelude.{Some}
use Rattle.std.proofs.lemmas.Bool.{and_parts, eqb-true}
use Rattle.std.specs.List.{flat_map, list_any}
use Rattle.nb_records.specs.declared.switch.Port.{Port}
use Rattle.nb_model.specs.Applies.{tracks}
use Rattle.nb_model.specs.Network.{same}
use Rattle.nb_model.specs.Ports.{takes_unknown}
use Rattle.nv_table.specs.Table.{is_after}
use Rattle.nb_store.proofs.Peering.{found_is_record, found_passes}
use Rattle.nd_full.specs.inner.Made.{port_units}
use Rattle.nd_full.specs.inner.Owners.{ports_on}
use Rattle.nd_full.proofs.Applied.{some_unknown}
use Rattle.nd_full.proofs.Sound.{ports_rise}
use Rattle.nv_table.proofs.Through.{all_left, these_after, these_fewer, these_next, these_none, these_or, these_whole}
use Rattle.nd_full.proofs.build.add_rows_of_ports.Goals as goal

pub add_rows_of_port-requires-clause-there : goal.add_rows_of_port-requires-clause-there
add_rows_of_port-requires-clause-there c =
    found_is_record (λ (x : Port). x.id) (λ (x : Port). is_after c.loop-port.last x.id && same c.args.switch x.switch) c.args.records.now.ports c.in-Some.port.now (ports_rise c.args.records.now c.requires.sound) (sym c.in-Some.ensures)

pub add_rows_of_port-requires-clause-tracks : goal.add_rows_of_port-requires-clause-tracks
add_rows_of_port-requires-clause-tracks c =
    let port = c.in-Some.port.now in
    let found = found_passes (λ (x : Port). is_after c.loop-port.last x.id && same c.args.switch x.switch) c.args.records.now.ports port (sym c.in-Some.ensures) in
    let number = eqb-true c.args.switch.0 port.switch.0 (and_parts (is_after c.loop-port.last port.id) (same c.args.switch port.switch) found).1 in
    c.requires.tracks ∙ ap (λ n. tracks c.args.records.now (record { 0 = n })) number

pub loop-port-init : goal.loop-port-init
loop-port-init c = record {
  rows = ap (λ left. c.args.made.now ++ flat_map (port_units c.args.records.now) left) (all_left (λ (x : Port). x.id) (ports_on c.args.records.now c.args.switch));
  unknown = ap (list_any (λ (x : Port). x.enabled && takes_unknown x)) (all_left (λ (x : Port). x.id) (ports_on c.args.records.now c.args.switch)) ∙ some_unknown c.args.records.now c.args.switch;
}

pub loop-port-smaller : goal.loop-port-smaller
loop-port-smaller c = these_fewer (λ (x : Port). x.id) (λ (x : Port). same c.args.switch x.switch) c.loop-port.last c.args.records.now.ports c.in-Some.port.now (ports_rise c.args.records.now c.requires.sound) c.in-Some.ensures

pub loop-port-preserved : goal.loop-port-preserved
loop-port-preserved c =
    let left = these_after (λ (x : Port). x.id) (λ (x : Port). same c.args.switch x.switch) (Some c.in-Some.port.now.id) c.args.records.now.ports in
    let one_left = list_any (λ (x : Port). x.enabled && takes_unknown x) left in
    let rise = ports_rise c.args.records.now c.requires.sound in
    record {
      rows = ap (λ made. made ++ flat_map (port_units c.args.records.now) left) c.in_ok-add_rows_of_port.ensures
          ∙ these_next (λ (x : Port). x.id) (λ (x : Port). same c.args.switch x.switch) c.loop-port.last c.args.records.now.ports c.in-Some.port.now rise c.in-Some.ensures
          (port_units c.args.records.now) c.loop-port.made (c.args.made.now ++ flat_map (port_units c.args.records.now) (ports_on c.args.records.now c.args.switch)) c.loop-port.invariant.rows;
      unknown = or_assoc c.loop-port.unknown c.is_for_unknown-unknown.result one_left
          ∙ ap (λ b. c.loop-port.unknown || (b || one_left)) c.is_for_unknown-unknown.ensures
          ∙ ap (λ b. c.loop-port.unknown || b) (these_or (λ (x : Port). x.id) (λ (x : Port). same c.args.switch x.switch) c.loop-port.last c.args.records.now.ports c.in-Some.port.now rise c.in-Some.ensures (λ (x : Port). x.enabled && takes_unknown x))
          ∙ c.loop-port.invariant.unknown;
    }

pub returns-clause-rows : goal.returns-clause-rows
returns-clause-rows c =
    these_whole (λ (x : Port). x.id) (λ (x : Port). same c.args.switch x.switch) c.loop-port.last c.args.records.now.ports c.in_default.ensures
    (port_units c.args.records.now) c.loop-port.made (c.args.made.now ++ flat_map (port_units c.args.records.now) (ports_on c.args.records.now c.args.switch)) c.loop-port.invariant.rows

pub returns-clause-unknown : goal.returns-clause-unknown
returns-clause-unknown c =
    let left = these_after (λ (x : Port). x.id) (λ (x : Port). same c.args.switch x.switch) c.loop-port.last c.args.records.now.ports in
    sym (or-false c.loop-port.unknown)
    ∙ ap (λ b. c.loop-port.unknown || b) (these_none (λ (x : Port). x.id) (λ (x : Port). same c.args.switch x.switch) c.loop-port.last c.args.records.now.ports c.in_default.ensures
    (λ (x : Port). x.enabled && takes_unknown x) (list_any (λ (x : Port). x.enabled && takes_unknown x) left) refl)
    ∙ c.loop-port.invariant.unknown
