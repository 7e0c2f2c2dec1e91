use Rattle.std.proofs.Common.{◌++◌, ap, ◌∙◌}
use Rattle.std.specs.List.{flat_map}
use Rattle.std.specs.Prelude.{Some, None, filter}
use Rattle.nb_records.specs.declared.switch.Port.{Port}
use Rattle.nb_model.specs.Network.{same}
use Rattle.tr_walk.specs.inner.Sides.{numbers_in, ports_of}
use Rattle.net_rows.proofs.Sound.{ports_rise}
use Rattle.tr_walk.proofs.PortNumbers.{members}
use Rattle.nv_table.proofs.Through.{all_left, these_after, these_fewer, these_next, these_whole}
use Rattle.tr_walk.proofs.ports.ports_of.Goals as goal

pub loop-port-init : goal.loop-port-init
loop-port-init c =
    ap (λ items. items ++ flat_map (numbers_in c.args.group) (these_after (λ (x : Port). x.id) (λ (x : Port). same c.args.switch x.switch) None c.args.records.now.ports)) c.new-ports.ensures.items
    ∙ ap (flat_map (numbers_in c.args.group)) (all_left (λ (x : Port). x.id) (filter (λ (x : Port). same c.args.switch x.switch) c.args.records.now.ports))
    ∙ members c.args.records.now c.args.switch c.args.group

pub loop-port-smaller : goal.loop-port-smaller
loop-port-smaller c = these_fewer (λ (x : Port). x.id) (λ (x : Port). same c.args.switch x.switch) c.loop-port.last c.args.records.now.ports c.in-Some.port.now (ports_rise c.args.records.now c.requires) c.in-Some.ensures

pub loop-port-preserved : goal.loop-port-preserved
loop-port-preserved c =
    ap (λ items. items ++ flat_map (numbers_in c.args.group) (these_after (λ (x : Port). x.id) (λ (x : Port). same c.args.switch x.switch) (Some c.in-Some.port.now.id) c.args.records.now.ports)) c.in_ok-add_member.ensures
    ∙ these_next (λ (x : Port). x.id) (λ (x : Port). same c.args.switch x.switch) c.loop-port.last c.args.records.now.ports c.in-Some.port.now (ports_rise c.args.records.now c.requires) c.in-Some.ensures
    (numbers_in c.args.group) c.loop-port.ports.items (ports_of c.args.records.now c.args.switch c.args.group) c.loop-port.invariant

pub returns : goal.returns
returns c =
    these_whole (λ (x : Port). x.id) (λ (x : Port). same c.args.switch x.switch) c.loop-port.last c.args.records.now.ports c.in_default.ensures
    (numbers_in c.args.group) c.loop-port.ports.items (ports_of c.args.records.now c.args.switch c.args.group) c.loop-port.invariant
