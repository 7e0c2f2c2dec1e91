use Rattle.std.proofs.Common.{◌++◌, ap, ◌∙◌}
use Rattle.std.specs.List.{flat_map}
use Rattle.std.specs.Prelude.{Some}
use Rattle.nb_records.specs.declared.switch.Port.{Port}
use Rattle.nb_model.specs.Network.{same}
use Rattle.nd_full.specs.inner.Owners.{groups_of_port, groups_on, ports_on}
use Rattle.nd_full.proofs.Sound.{ports_rise}
use Rattle.nv_table.proofs.Through.{all_left, these_after, these_fewer, these_next, these_whole}
use Rattle.nd_full.proofs.owners.add_groups_of_ports.Goals as goal

pub loop-port-init : goal.loop-port-init
loop-port-init c = ap (λ left. c.args.owners.now.items ++ flat_map (λ (x : Port). groups_of_port c.args.records.now x.id) left) (all_left (λ (x : Port). x.id) (ports_on c.args.records.now c.args.switch))

pub loop-port-smaller : goal.loop-port-smaller
loop-port-smaller c = these_fewer (λ (x : Port). x.id) (λ (x : Port). same c.args.switch x.switch) c.loop-port.last c.args.records.now.ports c.in-Some.port.now (ports_rise c.args.records.now c.requires) c.in-Some.ensures

pub loop-port-preserved : goal.loop-port-preserved
loop-port-preserved c =
    ap (λ owners. owners ++ flat_map (λ (x : Port). groups_of_port c.args.records.now x.id) (these_after (λ (x : Port). x.id) (λ (x : Port). same c.args.switch x.switch) (Some c.in-Some.port.now.id) c.args.records.now.ports)) c.in_ok-add_groups_of.ensures
    ∙ these_next (λ (x : Port). x.id) (λ (x : Port). same c.args.switch x.switch) c.loop-port.last c.args.records.now.ports c.in-Some.port.now (ports_rise c.args.records.now c.requires) c.in-Some.ensures
    (λ (x : Port). groups_of_port c.args.records.now x.id) c.loop-port.owners.items (c.args.owners.now.items ++ groups_on c.args.records.now c.args.switch) c.loop-port.invariant

pub returns : goal.returns
returns c =
    these_whole (λ (x : Port). x.id) (λ (x : Port). same c.args.switch x.switch) c.loop-port.last c.args.records.now.ports c.in_default.ensures
    (λ (x : Port). groups_of_port c.args.records.now x.id) c.loop-port.owners.items (c.args.owners.now.items ++ groups_on c.args.records.now c.args.switch) c.loop-port.invariant
