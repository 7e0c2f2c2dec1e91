-- Where a sound network stays as it is no unit is made.
use Rattle.std.proofs.Common.{◌≡◌, ℕ, Bool, List, ◌∷◌, replicate, refl, ap, ◌∙◌}
use Rattle.std.specs.Prelude.{⊤}
use Rattle.std.specs.Cmp.{IsEquivalence}
use Rattle.nv_base.specs.contracts.object.ObjIdOrd.TheImpl.Laws.{total-law as number_total}
use Rattle.nv_base.specs.declared.ip4.Ip4.{Ip4}
use Rattle.nv_base.specs.declared.object.ObjId.{ObjId}
use Rattle.nb_records.specs.declared.balancer.Frontend.{Frontend}
use Rattle.nb_model.specs.Network.{Network}
use Rattle.net_rows.specs.contracts.inputs.AclOnInputEq.TheImpl.Laws.{laws-law as acl_on_laws}
use Rattle.net_rows.specs.contracts.inputs.PortAclInputEq.TheImpl.Laws.{laws-law as port_acl_laws}
use Rattle.net_rows.specs.contracts.inputs.PortL2InputEq.TheImpl.Laws.{laws-law as port_l2_laws}
use Rattle.net_rows.specs.contracts.inputs.PortSecInputEq.TheImpl.Laws.{laws-law as port_sec_laws}
use Rattle.net_rows.specs.contracts.inputs.SwitchAclInputEq.TheImpl.Laws.{laws-law as switch_acl_laws}
use Rattle.net_rows.specs.contracts.inputs.SwitchL2InputEq.TheImpl.Laws.{laws-law as switch_l2_laws}
use Rattle.net_rows.specs.contracts.inputs.VipInputEq.TheImpl.Laws.{laws-law as vip_laws}
use Rattle.lr_rows.specs.contracts.inputs.BindingInputEq.TheImpl.Laws.{laws-law as binding_laws}
use Rattle.lr_rows.specs.contracts.inputs.NatRuleInputEq.TheImpl.Laws.{laws-law as nat_rule_laws}
use Rattle.lr_rows.specs.contracts.inputs.NeighbourInputEq.TheImpl.Laws.{laws-law as neighbour_laws}
use Rattle.lr_rows.specs.contracts.inputs.PortInInputEq.TheImpl.Laws.{laws-law as port_in_laws}
use Rattle.lr_rows.specs.contracts.inputs.PortRouteInputEq.TheImpl.Laws.{laws-law as port_route_laws}
use Rattle.lr_rows.specs.contracts.inputs.RouterNatInputEq.TheImpl.Laws.{laws-law as router_nat_laws}
use Rattle.lr_rows.specs.contracts.inputs.StaticRouteInputEq.TheImpl.Laws.{laws-law as static_route_laws}
use Rattle.lr_rows.specs.contracts.inputs.VipAddrInputEq.TheImpl.Laws.{laws-law as vip_addr_laws}
use Rattle.lr_units.specs.Units.{binding_units, nat_rule_units, neighbour_units, port_in_units, port_route_units, router_nat_units, router_units, static_route_units, vip_addr_units, vip_router_units}
use Rattle.net_units.specs.Counts.{changed, makes, same_none}
use Rattle.net_units.specs.Keys.{AllKeysStandOnce, KeysStandOnce, by_addr, by_number, by_numbers, by_vip}
use Rattle.net_units.specs.Units.{acl_on_units, port_acl_units, port_l2_units, port_sec_units, switch_acl_units, switch_l2_units, switch_units, vip_switch_units}
use Rattle.net_units.proofs.Counting.{nothing_made}
use Rattle.net_units.proofs.Distinct.{addrs_exact, addrs_total, number_exact, numbers_exact, numbers_total, vip_exact, vips_total}

module _ {I : Type 0} (eq : I → I → Bool) (laws : IsEquivalence eq) where
  of_number : (units : List (ObjId × I)) → KeysStandOnce by_number units → makes by_number eq units units ≡ 0
  of_number units once = nothing_made number_total number_exact eq laws.refl units once

  of_numbers : (units : List ((ObjId × ObjId) × I)) → KeysStandOnce by_numbers units → makes by_numbers eq units units ≡ 0
  of_numbers units once = nothing_made numbers_total numbers_exact eq laws.refl units once

  of_vip : (units : List ((ObjId × Frontend × ObjId) × I)) → KeysStandOnce by_vip units → makes by_vip eq units units ≡ 0
  of_vip units once = nothing_made vips_total vip_exact eq laws.refl units once

  of_addr : (units : List ((ObjId × Ip4 × ObjId) × I)) → KeysStandOnce by_addr units → makes by_addr eq units units ≡ 0
  of_addr units once = nothing_made addrs_total addrs_exact eq laws.refl units once

of_plain : (units : List (ObjId × ⊤)) → KeysStandOnce by_number units → makes by_number same_none units units ≡ 0
of_plain units once = nothing_made number_total number_exact same_none (λ i. refl) units once

-- one zero more
and_none : {count : ℕ} {counts zeros : List ℕ} → count ≡ 0 → counts ≡ zeros → count ∷ counts ≡ 0 ∷ zeros
and_none {count} {counts} first rest = ap (λ n. n ∷ counts) first ∙ ap (λ ns. 0 ∷ ns) rest

pub nothing_changed : (net : Network) → AllKeysStandOnce net → changed net net ≡ replicate 20 0
nothing_changed net once =
    and_none (of_plain (switch_units net) once.switches)
    (and_none (of_number _ port_sec_laws (port_sec_units net) once.port_sec)
    (and_none (of_number _ switch_acl_laws (switch_acl_units net) once.switch_acl)
    (and_none (of_number _ port_acl_laws (port_acl_units net) once.port_acl)
    (and_none (of_numbers _ acl_on_laws (acl_on_units net) once.acl_on)
    (and_none (of_plain (switch_units net) once.switches)
    (and_none (of_vip _ vip_laws (vip_switch_units net) once.vip_switch)
    (and_none (of_number _ switch_l2_laws (switch_l2_units net) once.switch_l2)
    (and_none (of_number _ port_l2_laws (port_l2_units net) once.port_l2)
    (and_none (of_plain (router_units net) once.routers)
    (and_none (of_number _ port_in_laws (port_in_units net) once.port_in)
    (and_none (of_plain (router_units net) once.routers)
    (and_none (of_number _ port_route_laws (port_route_units net) once.port_route)
    (and_none (of_number _ static_route_laws (static_route_units net) once.static_route)
    (and_none (of_number _ binding_laws (binding_units net) once.binding)
    (and_none (of_numbers _ neighbour_laws (neighbour_units net) once.neighbour)
    (and_none (of_number _ router_nat_laws (router_nat_units net) once.router_nat)
    (and_none (of_number _ nat_rule_laws (nat_rule_units net) once.nat_rule)
    (and_none (of_vip _ vip_laws (vip_router_units net) once.vip_router)
    (and_none (of_addr _ vip_addr_laws (vip_addr_units net) once.vip_addr) refl)))))))))))))))))))
