-- How many units of each kind are made where a network becomes another (not from OVN).
use Rattle.std.specs.Prelude.{ℕ, ◌+◌, Bool, not, true, false, nat_lt, List, [], ◌∷◌, ◌++◌, length, count_by, is_none, ⊤, if◌then◌else◌}
use Rattle.std.specs.Option.{option_map_or}
use Rattle.std.specs.declared.cmp.Ordering.{Ordering}
use Rattle.nv_map.specs.Map.{value_at}
use Rattle.nb_model.specs.Network.{Network}
use Rattle.net_rows.specs.contracts.inputs.AclOnInputPartialEq.TheImpl as acl_on_eq
use Rattle.net_rows.specs.contracts.inputs.PortAclInputPartialEq.TheImpl as port_acl_eq
use Rattle.net_rows.specs.contracts.inputs.PortL2InputPartialEq.TheImpl as port_l2_eq
use Rattle.net_rows.specs.contracts.inputs.PortSecInputPartialEq.TheImpl as port_sec_eq
use Rattle.net_rows.specs.contracts.inputs.SwitchAclInputPartialEq.TheImpl as switch_acl_eq
use Rattle.net_rows.specs.contracts.inputs.SwitchL2InputPartialEq.TheImpl as switch_l2_eq
use Rattle.net_rows.specs.contracts.inputs.VipInputPartialEq.TheImpl as vip_eq
use Rattle.lr_rows.specs.contracts.inputs.BindingInputPartialEq.TheImpl as binding_eq
use Rattle.lr_rows.specs.contracts.inputs.NatRuleInputPartialEq.TheImpl as nat_rule_eq
use Rattle.lr_rows.specs.contracts.inputs.NeighbourInputPartialEq.TheImpl as neighbour_eq
use Rattle.lr_rows.specs.contracts.inputs.PortInInputPartialEq.TheImpl as port_in_eq
use Rattle.lr_rows.specs.contracts.inputs.PortRouteInputPartialEq.TheImpl as port_route_eq
use Rattle.lr_rows.specs.contracts.inputs.RouterNatInputPartialEq.TheImpl as router_nat_eq
use Rattle.lr_rows.specs.contracts.inputs.StaticRouteInputPartialEq.TheImpl as static_route_eq
use Rattle.lr_rows.specs.contracts.inputs.VipAddrInputPartialEq.TheImpl as vip_addr_eq
use Rattle.lr_units.specs.Units.{binding_units, nat_rule_units, neighbour_units, port_in_units, port_route_units, router_nat_units, router_units, static_route_units, vip_addr_units, vip_router_units}
use Rattle.net_units.specs.Keys.{by_addr, by_number, by_numbers, by_vip}
use Rattle.net_units.specs.Units.{acl_on_units, port_acl_units, port_l2_units, port_sec_units, switch_acl_units, switch_l2_units, switch_units, vip_switch_units}

-- ---- of one kind: its keys have this order, and its inputs this equality

module _ {K I : Type 0} (cmp : K → K → Ordering) (eq : I → I → Bool) where
  -- whether a unit was there with the same input
  abbrev pub is_as_before : List (K × I) → K × I → Bool
  is_as_before old unit = option_map_or (λ input. eq input unit.1) (value_at cmp unit.0 old) false

  -- how many units are new, or have another input
  abbrev pub moved : List (K × I) → List (K × I) → ℕ
  moved old new = count_by (λ unit. not (is_as_before old unit)) new

  -- how many units went
  abbrev pub gone : List (K × I) → List (K × I) → ℕ
  gone old new = count_by (λ unit. is_none (value_at cmp unit.0 new)) old

  -- how many are made: those that are new or have another input; where these and those that went are more than 1,024, all
  abbrev pub makes : List (K × I) → List (K × I) → ℕ
  makes old new = if nat_lt 1024 (moved old new + gone old new) then length new else moved old new

  -- and so of the units that networks have
  abbrev pub makes_of : (Network → List (K × I)) → Network → Network → ℕ
  makes_of units old new = makes (units old) (units new)

-- ---- of all kinds

-- units that depend on no more than that they are there have one input
abbrev pub same_none : ⊤ → ⊤ → Bool
same_none a b = true

-- of switches: SwitchSec, PortSec, SwitchAcl, PortAcl, AclOn, SwitchLb, VipSwitch, SwitchL2, PortL2
abbrev pub changed_of_switches : Network → Network → List ℕ
changed_of_switches old new =
    makes_of by_number same_none switch_units old new
    ∷ makes_of by_number (port_sec_eq.ghosts).eq port_sec_units old new
    ∷ makes_of by_number (switch_acl_eq.ghosts).eq switch_acl_units old new
    ∷ makes_of by_number (port_acl_eq.ghosts).eq port_acl_units old new
    ∷ makes_of by_numbers (acl_on_eq.ghosts).eq acl_on_units old new
    ∷ makes_of by_number same_none switch_units old new
    ∷ makes_of by_vip (vip_eq.ghosts).eq vip_switch_units old new
    ∷ makes_of by_number (switch_l2_eq.ghosts).eq switch_l2_units old new
    ∷ makes_of by_number (port_l2_eq.ghosts).eq port_l2_units old new
    ∷ []

-- of routers: RouterIn, PortIn, RouterRoute, PortRoute, StaticRoute, Binding, Neighbour, RouterNat, NatRule, VipRouter, VipAddr
abbrev pub changed_of_routers : Network → Network → List ℕ
changed_of_routers old new =
    makes_of by_number same_none router_units old new
    ∷ makes_of by_number (port_in_eq.ghosts).eq port_in_units old new
    ∷ makes_of by_number same_none router_units old new
    ∷ makes_of by_number (port_route_eq.ghosts).eq port_route_units old new
    ∷ makes_of by_number (static_route_eq.ghosts).eq static_route_units old new
    ∷ makes_of by_number (binding_eq.ghosts).eq binding_units old new
    ∷ makes_of by_numbers (neighbour_eq.ghosts).eq neighbour_units old new
    ∷ makes_of by_number (router_nat_eq.ghosts).eq router_nat_units old new
    ∷ makes_of by_number (nat_rule_eq.ghosts).eq nat_rule_units old new
    ∷ makes_of by_vip (vip_eq.ghosts).eq vip_router_units old new
    ∷ makes_of by_addr (vip_addr_eq.ghosts).eq vip_addr_units old new
    ∷ []

-- how many units of each of the twenty kinds are made where a network becomes another
abbrev pub changed : Network → Network → List ℕ
changed old new = changed_of_switches old new ++ changed_of_routers old new
