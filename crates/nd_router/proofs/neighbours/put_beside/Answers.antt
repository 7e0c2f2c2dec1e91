use Rattle.std.proofs.Common.{◌++◌, ◌&&◌, not, ap, sym, ◌∙◌}
use Rattle.std.specs.List.{flat_map}
use Rattle.std.specs.Prelude.{Some, filter}
use Rattle.nb_records.specs.declared.switch.Port.{Port}
use Rattle.nb_model.specs.Network.{same}
use Rattle.nv_table.proofs.Through.{all_left, these_after, these_fewer, these_next, these_whole}
use Rattle.lr_units.specs.Words.{beside}
use Rattle.nb_store.proofs.Peering.{found_is_record}
use Rattle.nv_table.specs.Table.{is_after}
use Rattle.nd_router.specs.inner.Made.{neighbour_rows, rows_if_other}
use Rattle.nd_inputs.proofs.First.{given}
use Rattle.nd_inputs.proofs.Sound.{ports_rise}
use Rattle.nd_router.proofs.neighbours.put_beside.Goals as goal

pub put_if_other-requires-clause-there : goal.put_if_other-requires-clause-there
put_if_other-requires-clause-there c =
    found_is_record (λ (x : Port). x.id) (λ (x : Port). is_after c.loop-other.last x.id && same c.args.peer.now.switch x.switch) c.args.records.now.ports c.in-Some.other.now (ports_rise c.args.records.now c.requires) (sym c.in-Some.ensures)

pub loop-other-init : goal.loop-other-init
loop-other-init c =
    ap (λ left. c.args.rows.now ++ flat_map (rows_if_other c.args.records.now c.args.port.now c.args.peer.now) left) (all_left (λ (x : Port). x.id) (filter (λ (x : Port). same c.args.peer.now.switch x.switch) c.args.records.now.ports))
    ∙ ap (λ made. c.args.rows.now ++ made) (given (λ (x : Port). same c.args.peer.now.switch x.switch) (λ (x : Port). x.enabled && not (same c.args.peer.now.id x.id)) (neighbour_rows c.args.records.now c.args.port.now) c.args.records.now.ports)

pub loop-other-smaller : goal.loop-other-smaller
loop-other-smaller c = these_fewer (λ (x : Port). x.id) (λ (x : Port). same c.args.peer.now.switch x.switch) c.loop-other.last c.args.records.now.ports c.in-Some.other.now (ports_rise c.args.records.now c.requires) c.in-Some.ensures

pub loop-other-preserved : goal.loop-other-preserved
loop-other-preserved c =
    ap (λ made. made ++ flat_map (rows_if_other c.args.records.now c.args.port.now c.args.peer.now) (these_after (λ (x : Port). x.id) (λ (x : Port). same c.args.peer.now.switch x.switch) (Some c.in-Some.other.now.id) c.args.records.now.ports)) c.in_ok-put_if_other.ensures
    ∙ these_next (λ (x : Port). x.id) (λ (x : Port). same c.args.peer.now.switch x.switch) c.loop-other.last c.args.records.now.ports c.in-Some.other.now (ports_rise c.args.records.now c.requires) c.in-Some.ensures
    (rows_if_other c.args.records.now c.args.port.now c.args.peer.now) c.loop-other.rows (c.args.rows.now ++ flat_map (neighbour_rows c.args.records.now c.args.port.now) (beside c.args.records.now (Some c.args.peer.now))) c.loop-other.invariant

pub returns : goal.returns
returns c =
    these_whole (λ (x : Port). x.id) (λ (x : Port). same c.args.peer.now.switch x.switch) c.loop-other.last c.args.records.now.ports c.in_default.ensures
    (rows_if_other c.args.records.now c.args.port.now c.args.peer.now) c.loop-other.rows (c.args.rows.now ++ flat_map (neighbour_rows c.args.records.now c.args.port.now) (beside c.args.records.now (Some c.args.peer.now))) c.loop-other.invariant
