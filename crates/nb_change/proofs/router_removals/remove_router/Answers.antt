use Rattle.std.proofs.Common.{sym, subst}
use Rattle.nb_records.specs.declared.router.Binding.{Binding}
use Rattle.nb_records.specs.declared.router.Nat.{Nat}
use Rattle.nb_records.specs.declared.router.Route.{Route}
use Rattle.nb_records.specs.declared.router.RouterPort.{RouterPort}
use Rattle.nb_model.specs.Network.{Network}
use Rattle.nv_table.specs.Table.{NumbersRise}
use Rattle.nb_store.proofs.PlacedRecords.{rises}
use Rattle.nb_change.proofs.router_removals.remove_router.Goals as goal

pub remove_router_ports-requires-clause-ports : goal.remove_router_ports-requires-clause-ports
remove_router_ports-requires-clause-ports c = rises (λ (x : RouterPort). x.id) c.args.work.now.records.router_ports c.requires.order.router_ports

pub remove_router_ports-requires-clause-bindings : goal.remove_router_ports-requires-clause-bindings
remove_router_ports-requires-clause-bindings c = rises (λ (x : Binding). x.id) c.args.work.now.records.bindings c.requires.order.bindings

pub drop_all-requires : goal.drop_all-requires
drop_all-requires c = record {
  rise = subst (λ (net : Network). NumbersRise (λ (x : Route). x.id) net.routes) (sym c.in_ok-remove_router_ports.ensures.ok) (rises (λ (x : Route). x.id) c.args.work.now.records.routes c.requires.order.routes);
}

pub drop_all-requires-2 : goal.drop_all-requires-2
drop_all-requires-2 c = record {
  rise = subst (λ (net : Network). NumbersRise (λ (x : Nat). x.id) net.nats) (sym c.in_ok-drop_all.ensures.ok)
      (subst (λ (net : Network). NumbersRise (λ (x : Nat). x.id) net.nats) (sym c.in_ok-remove_router_ports.ensures.ok) (rises (λ (x : Nat). x.id) c.args.work.now.records.nats c.requires.order.nats));
}
