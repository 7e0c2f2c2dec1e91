-- The numbers of the records of a sound network rise.
use Rattle.nb_records.specs.declared.acl.Acl.{Acl}
use Rattle.nb_records.specs.declared.router.RouterPort.{RouterPort}
use Rattle.nb_records.specs.declared.sets.Group.{Group}
use Rattle.nb_records.specs.declared.switch.Port.{Port}
use Rattle.nb_model.specs.Network.{Network}
use Rattle.nb_model.specs.Sound.{IsSound}
use Rattle.nb_model.proofs.Rising.{rises}
use Rattle.nv_table.specs.Table.{NumbersRise}

module _ (net : Network) (sound : IsSound net) where
  pub ports_rise : NumbersRise (λ (p : Port). p.id) net.ports
  ports_rise = rises (λ (p : Port). p.id) net.ports sound.numbered.order.ports

  pub acls_rise : NumbersRise (λ (a : Acl). a.id) net.acls
  acls_rise = rises (λ (a : Acl). a.id) net.acls sound.numbered.order.acls

  pub groups_rise : NumbersRise (λ (g : Group). g.id) net.groups
  groups_rise = rises (λ (g : Group). g.id) net.groups sound.numbered.order.groups

  pub router_ports_rise : NumbersRise (λ (p : RouterPort). p.id) net.router_ports
  router_ports_rise = rises (λ (p : RouterPort). p.id) net.router_ports sound.numbered.order.router_ports
