use Rattle.std.proofs.Common.{sym, subst}
use Rattle.nb_records.specs.declared.router.Router.{Router}
use Rattle.nb_records.specs.declared.switch.Switch.{Switch}
use Rattle.nb_model.specs.Network.{Network}
use Rattle.nv_table.specs.Table.{NumbersRise}
use Rattle.nb_store.proofs.PlacedRecords.{rises}
use Rattle.nb_change.proofs.balancer_removals.remove_lb.Goals as goal

pub leave_switches-requires : goal.leave_switches-requires
leave_switches-requires c = record { rise = rises (λ (x : Switch). x.id) c.args.work.now.records.switches c.requires.order.switches }

pub leave_routers-requires : goal.leave_routers-requires
leave_routers-requires c = record {
  rise = subst (λ (net : Network). NumbersRise (λ (x : Router). x.id) net.routers) (sym c.in_ok-leave_switches.ensures.ok) (rises (λ (x : Router). x.id) c.args.work.now.records.routers c.requires.order.routers);
}
