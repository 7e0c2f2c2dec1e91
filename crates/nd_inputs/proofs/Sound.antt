-- The numbers of the records of a sound network rise.
use Rattle.nb_records.specs.declared.balancer.Lb.{Lb}
use Rattle.nb_records.specs.declared.router.Binding.{Binding}
use Rattle.nb_records.specs.declared.router.Nat.{Nat}
use Rattle.nb_records.specs.declared.router.Route.{Route}
use Rattle.nb_records.specs.declared.router.Router.{Router}
use Rattle.nb_records.specs.declared.router.RouterPort.{RouterPort}
use Rattle.nb_records.specs.declared.switch.Port.{Port}
use Rattle.nb_model.specs.Network.{Network}
use Rattle.nb_model.specs.Sound.{IsSound}
use Rattle.nb_model.proofs.Rising.{rises}
use Rattle.nv_table.specs.Table.{NumbersRise}

module _ (net : Network) (sound : IsSound net) where
  pub ports_rise : NumbersRise (λ (p : Port). p.id) net.ports
  ports_rise = rises (λ (p : Port). p.id) net.ports sound.numbered.order.ports

  pub routers_rise : NumbersRise (λ (r : Router). r.id) net.routers
  routers_rise = rises (λ (r : Router). r.id) net.routers sound.numbered.order.routers

  pub router_ports_rise : NumbersRise (λ (p : RouterPort). p.id) net.router_ports
  router_ports_rise = rises (λ (p : RouterPort). p.id) net.router_ports sound.numbered.order.router_ports

  pub routes_rise : NumbersRise (λ (r : Route). r.id) net.routes
  routes_rise = rises (λ (r : Route). r.id) net.routes sound.numbered.order.routes

  pub nats_rise : NumbersRise (λ (n : Nat). n.id) net.nats
  nats_rise = rises (λ (n : Nat). n.id) net.nats sound.numbered.order.nats

  pub lbs_rise : NumbersRise (λ (b : Lb). b.id) net.lbs
  lbs_rise = rises (λ (b : Lb). b.id) net.lbs sound.numbered.order.lbs

  pub bindings_rise : NumbersRise (λ (b : Binding). b.id) net.bindings
  bindings_rise = rises (λ (b : Binding). b.id) net.bindings sound.numbered.order.bindings
