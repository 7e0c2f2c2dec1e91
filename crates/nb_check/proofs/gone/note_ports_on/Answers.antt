use Rattle.std.proofs.Common.{◌++◌, Some, ap, ◌∙◌}
use Rattle.std.specs.Prelude.{filter}
use Rattle.std.specs.List.{flat_map}
use Rattle.nb_records.specs.declared.switch.Port.{Port}
use Rattle.nb_model.specs.Network.{same}
use Rattle.nb_store.proofs.PlacedRecords.{rises}
use Rattle.nv_table.proofs.Through.{all_left, these_after, these_fewer, these_next, these_whole}
use Rattle.nb_check.specs.inner.Going.{below}
use Rattle.nb_check.proofs.gone.note_ports_on.Goals as goal

pub loop-port-init : goal.loop-port-init
loop-port-init c =
    ap (λ left. c.args.numbers.now ++ flat_map (λ (port : Port). below c.args.first port.id) left)
    (all_left (λ (x : Port). x.id) (filter (λ (port : Port). same c.args.switch port.switch) c.args.records.now.ports))

pub loop-port-smaller : goal.loop-port-smaller
loop-port-smaller c =
    these_fewer (λ (x : Port). x.id) (λ (x : Port). same c.args.switch x.switch) c.loop-port.last c.args.records.now.ports c.in-Some.port.now
    (rises (λ (x : Port). x.id) c.args.records.now.ports c.requires.numbered.order.ports) c.in-Some.ensures

pub loop-port-preserved : goal.loop-port-preserved
loop-port-preserved c =
    let left = these_after (λ (x : Port). x.id) (λ (x : Port). same c.args.switch x.switch) (Some c.in-Some.port.now.id) c.args.records.now.ports in
    ap (λ made. made ++ flat_map (λ (port : Port). below c.args.first port.id) left) c.in_ok-note_number.ensures
    ∙ these_next (λ (x : Port). x.id) (λ (x : Port). same c.args.switch x.switch) c.loop-port.last c.args.records.now.ports c.in-Some.port.now
    (rises (λ (x : Port). x.id) c.args.records.now.ports c.requires.numbered.order.ports) c.in-Some.ensures
    (λ (port : Port). below c.args.first port.id) c.loop-port.numbers
    (c.args.numbers.now ++ flat_map (λ (port : Port). below c.args.first port.id) (filter (λ (port : Port). same c.args.switch port.switch) c.args.records.now.ports)) c.loop-port.invariant

pub returns : goal.returns
returns c =
    these_whole (λ (x : Port). x.id) (λ (x : Port). same c.args.switch x.switch) c.loop-port.last c.args.records.now.ports c.in_default.ensures
    (λ (port : Port). below c.args.first port.id) c.loop-port.numbers
    (c.args.numbers.now ++ flat_map (λ (port : Port). below c.args.first port.id) (filter (λ (port : Port). same c.args.switch port.switch) c.args.records.now.ports)) c.loop-port.invariant
