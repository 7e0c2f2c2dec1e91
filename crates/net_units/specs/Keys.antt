-- The keys of units: their orders, and that none stands twice among the units of a kind.
use Rattle.std.specs.Prelude.{List}
use Rattle.std.specs.List.{IsDistinct}
use Rattle.std.specs.Map.{keys_of}
use Rattle.std.specs.Ordering.{eq_by_cmp, ordering_then}
use Rattle.std.specs.declared.cmp.Ordering.{Ordering}
use Rattle.nv_base.specs.declared.ip4.Ip4.{Ip4}
use Rattle.nv_base.specs.declared.object.ObjId.{ObjId}
use Rattle.nv_base.specs.contracts.ip4.Ip4Ord.TheImpl as addr_ord
use Rattle.nv_base.specs.contracts.object.ObjIdOrd.TheImpl as number_ord
use Rattle.nb_records.specs.declared.balancer.Frontend.{Frontend}
use Rattle.nb_records.specs.contracts.balancer.FrontendOrd.TheImpl as frontend_ord
use Rattle.nb_model.specs.Network.{Network}
use Rattle.lr_units.specs.Units.{binding_units, nat_rule_units, neighbour_units, port_in_units, port_route_units, router_nat_units, router_units, static_route_units, vip_addr_units, vip_router_units}
use Rattle.net_units.specs.Units.{acl_on_units, port_acl_units, port_l2_units, port_sec_units, switch_acl_units, switch_l2_units, switch_units, vip_switch_units}

-- ---- the orders of keys, part by part

abbrev pub by_number : ObjId → ObjId → Ordering
by_number = (number_ord.ghosts).cmp

abbrev pub by_numbers : ObjId × ObjId → ObjId × ObjId → Ordering
by_numbers a b = ordering_then (by_number a.0 b.0) (by_number a.1 b.1)

abbrev pub by_vip : ObjId × Frontend × ObjId → ObjId × Frontend × ObjId → Ordering
by_vip a b = ordering_then (ordering_then (by_number a.0 b.0) ((frontend_ord.ghosts).cmp a.1 b.1)) (by_number a.2 b.2)

abbrev pub by_addr : ObjId × Ip4 × ObjId → ObjId × Ip4 × ObjId → Ordering
by_addr a b = ordering_then (ordering_then (by_number a.0 b.0) ((addr_ord.ghosts).cmp a.1 b.1)) (by_number a.2 b.2)

-- ---- keys that stand once

-- no key stands twice
abbrev pub KeysStandOnce : {K I : Type 0} → (K → K → Ordering) → List (K × I) → Type 0
KeysStandOnce cmp units = IsDistinct (eq_by_cmp cmp) (keys_of units)

-- nor does one among the units of any kind
pub record AllKeysStandOnce (net : Network) : Type 0 where
  pub switches : KeysStandOnce by_number (switch_units net)
  pub port_sec : KeysStandOnce by_number (port_sec_units net)
  pub switch_acl : KeysStandOnce by_number (switch_acl_units net)
  pub port_acl : KeysStandOnce by_number (port_acl_units net)
  pub acl_on : KeysStandOnce by_numbers (acl_on_units net)
  pub vip_switch : KeysStandOnce by_vip (vip_switch_units net)
  pub switch_l2 : KeysStandOnce by_number (switch_l2_units net)
  pub port_l2 : KeysStandOnce by_number (port_l2_units net)
  pub routers : KeysStandOnce by_number (router_units net)
  pub port_in : KeysStandOnce by_number (port_in_units net)
  pub port_route : KeysStandOnce by_number (port_route_units net)
  pub static_route : KeysStandOnce by_number (static_route_units net)
  pub binding : KeysStandOnce by_number (binding_units net)
  pub neighbour : KeysStandOnce by_numbers (neighbour_units net)
  pub router_nat : KeysStandOnce by_number (router_nat_units net)
  pub nat_rule : KeysStandOnce by_number (nat_rule_units net)
  pub vip_router : KeysStandOnce by_vip (vip_router_units net)
  pub vip_addr : KeysStandOnce by_addr (vip_addr_units net)
