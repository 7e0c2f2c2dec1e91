-- No key stands twice among the units of any kind of a sound network.
use Rattle.nb_model.specs.Network.{Network}
use Rattle.nb_model.specs.Sound.{IsSound}
use Rattle.net_units.specs.Keys.{AllKeysStandOnce}
use Rattle.net_units.proofs.OnRouters as router
use Rattle.net_units.proofs.OnSwitches as switch

pub all_once : (net : Network) → IsSound net → AllKeysStandOnce net
all_once net sound = record {
  switches = switch.switches_once net sound;
  port_sec = switch.port_sec_once net sound;
  switch_acl = switch.switch_acl_once net sound;
  port_acl = switch.port_acl_once net sound;
  acl_on = switch.acl_on_once net sound;
  vip_switch = switch.vip_switch_once net sound;
  switch_l2 = switch.switch_l2_once net sound;
  port_l2 = switch.port_l2_once net sound;
  routers = router.routers_once net sound;
  port_in = router.port_in_once net sound;
  port_route = router.port_route_once net sound;
  static_route = router.static_route_once net sound;
  binding = router.binding_once net sound;
  neighbour = router.neighbour_once net sound;
  router_nat = router.router_nat_once net sound;
  nat_rule = router.nat_rule_once net sound;
  vip_router = router.vip_router_once net sound;
  vip_addr = router.vip_addr_once net sound;
}
