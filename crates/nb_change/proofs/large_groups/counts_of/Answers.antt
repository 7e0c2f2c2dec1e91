use Rattle.nb_records.specs.declared.switch.Port.{Port}
use Rattle.nb_model.specs.Network.{same}
use Rattle.nv_table.proofs.Through.{these_fewer}
use Rattle.nb_change.proofs.large_groups.counts_of.Goals as goal

pub loop-port-smaller : goal.loop-port-smaller
loop-port-smaller c =
    these_fewer (λ (x : Port). x.id) (λ (x : Port). same c.args.switch x.switch) c.loop-port.after c.args.records.now.ports c.in-Some.port.now c.requires.ports c.in-Some.ensures
