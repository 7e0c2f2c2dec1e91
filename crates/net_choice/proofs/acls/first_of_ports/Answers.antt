use Rattle.nb_records.specs.declared.switch.Port.{Port}
use Rattle.nb_model.specs.Network.{same}
use Rattle.net_choice.specs.inner.Acls.{first_with}
use Rattle.net_choice.proofs.Sound.{ports_rise}
use Rattle.net_choice.proofs.Through.{fewer_left, fold_next, fold_whole}
use Rattle.net_choice.proofs.acls.first_of_ports.Goals as goal

pub loop-port-smaller : goal.loop-port-smaller
loop-port-smaller c = fewer_left (λ (x : Port). x.id) (λ (x : Port). same c.args.switch x.switch) c.loop-port.last c.in-Some.port.now c.args.records.now.ports (ports_rise c.args.records.now c.requires) c.in-Some.ensures

pub loop-port-preserved : goal.loop-port-preserved
loop-port-preserved c =
    fold_next (λ (x : Port). x.id) (λ (x : Port). same c.args.switch x.switch) (λ best (x : Port). first_with c.args.records.now c.args.way c.args.packet.now best x.id) c.loop-port.last c.args.records.now.ports
    _ _ c.loop-port.invariant c.in-Some.port.now (ports_rise c.args.records.now c.requires) c.in-Some.ensures _ c.first_with-best.ensures

pub returns : goal.returns
returns c =
    fold_whole (λ (x : Port). x.id) (λ (x : Port). same c.args.switch x.switch) (λ best (x : Port). first_with c.args.records.now c.args.way c.args.packet.now best x.id) c.loop-port.last c.args.records.now.ports
    _ _ c.loop-port.invariant c.in_default.ensures
