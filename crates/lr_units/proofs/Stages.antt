-- In which stages the rules of each unit of routers are.
use Rattle.std.proofs.Common.{Bool, true, false, List, [], ◌∷◌, ◌++◌, map}
use Rattle.std.specs.Prelude.{Option, Some, None, slice_get, if◌then◌else◌}
use Rattle.std.specs.List.{AllByRecursion}
use Rattle.nv_base.specs.Block.{Block}
use Rattle.nv_base.specs.declared.ip4.Ip4.{Ip4}
use Rattle.nb_records.specs.declared.router.NatKind.{NatKind}
use Rattle.nb_records.specs.declared.router.NatKind.TheVariants.{Snat, Dnat, DnatAndSnat}
use Rattle.nb_model.specs.Applies.{is_empty}
use Rattle.sb_model.specs.declared.stage.Stage.{Stage}
use Rattle.sb_model.specs.declared.stage.Stage.TheVariants.{LrInAdmission, LrInLearnNeighbor, LrInIpInput, LrInUnsnat, LrInDefrag, LrInDnat, LrInIpRouting, LrInArpResolve, LrInArpRequest, LrOutUndnat, LrOutSnat, LrOutDelivery}
use Rattle.net_rows.specs.declared.rule.Rule.{Rule}
use Rattle.net_rows.proofs.Elements.{every_append}
use Rattle.lr_rows.specs.Balancers.{balancing_rule, vip_addr_rules, vip_router_rules}
use Rattle.lr_rows.specs.Input.{address_rules, admitting_rules, by_first, expiring_rules, free_rules, port_in_rules, port_in_rules_from, router_in_rules}
use Rattle.lr_rows.specs.Nat.{connection_rules, nat_rules, router_nat_rules, translating_rules}
use Rattle.lr_rows.specs.Neighbours.{binding_rules, neighbour_rules, resolving_rule}
use Rattle.lr_rows.specs.Routes.{by_exit, delivery_rules, network_rule, own_address_rules, port_route_rules, port_route_rules_of, router_route_rules, static_route_rules, static_rule}
use Rattle.lr_rows.specs.declared.inputs.BindingInput.{BindingInput}
use Rattle.lr_rows.specs.declared.inputs.Exit.{Exit}
use Rattle.lr_rows.specs.declared.inputs.Host.{Host}
use Rattle.lr_rows.specs.declared.inputs.NatRuleInput.{NatRuleInput}
use Rattle.lr_rows.specs.declared.inputs.NeighbourInput.{NeighbourInput}
use Rattle.lr_rows.specs.declared.inputs.PortInInput.{PortInInput}
use Rattle.lr_rows.specs.declared.inputs.PortRouteInput.{PortRouteInput}
use Rattle.lr_rows.specs.declared.inputs.RouterNatInput.{RouterNatInput}
use Rattle.lr_rows.specs.declared.inputs.StaticRouteInput.{StaticRouteInput}
use Rattle.lr_rows.specs.declared.inputs.VipAddrInput.{VipAddrInput}
use Rattle.net_rows.specs.declared.inputs.VipInput.{VipInput}

-- what holds of the stages of a unit holds of the stage of each of its rules
module _ (P : Stage → Type 0) where
  abbrev At : Rule → Type 0
  At r = P r.stage

  abbrev pub AreAt : List Rule → Type 0
  AreAt rules = AllByRecursion At rules

  listed : (enabled : Bool) (r : Rule) → At r → AreAt (if enabled then r ∷ [] else [])
  listed true r is = (is, tt)
  listed false r is = tt

  -- ---- admission, learning neighbours and input

  module _ (admission : P LrInAdmission) (learning : P LrInLearnNeighbor) (input_to : P LrInIpInput) where
    pub router_in_at : AreAt router_in_rules
    router_in_at = (admission, (admission, (learning, (input_to, (input_to, (input_to, (input_to, (input_to, tt))))))))

    free_at : (addrs : List Ip4) → AreAt (free_rules addrs)
    free_at [] = tt
    free_at (a ∷ addrs) = (input_to, (input_to, (input_to, tt)))

    pub port_in_at : (input : PortInInput) → AreAt (port_in_rules input)
    unfolding port_in_rules
    port_in_at input = by (slice_get input.nets 0)
      where
        by : (first : Option Block) → AreAt (by_first (port_in_rules_from input) first)
        by None = tt
        by (Some first) =
            every_append At (admitting_rules input ++ address_rules input ++ free_rules input.free) (expiring_rules input.name first.base)
            (every_append At (admitting_rules input ++ address_rules input) (free_rules input.free)
            (every_append At (admitting_rules input) (address_rules input) (listed input.enabled _ admission) (learning, (input_to, (input_to, (input_to, tt))))) (free_at input.free))
            (input_to, tt)

  -- ---- routing, resolution, requests and delivery

  module _ (routing : P LrInIpRouting) (delivery : P LrOutDelivery) where
    networks_at : (input : PortRouteInput) (nets : List Block) → AreAt (map (network_rule input) nets)
    networks_at input [] = tt
    networks_at input (net ∷ nets) = (routing, networks_at input nets)

    pub port_route_at : (input : PortRouteInput) → AreAt (port_route_rules input)
    unfolding port_route_rules
    port_route_at input = by (is_empty input.nets)
      where
        by : (b : Bool) → AreAt (if b then [] else port_route_rules_of input)
        by true = tt
        by false =
            every_append At (own_address_rules input ++ map (network_rule input) input.nets) (delivery_rules input.enabled input.name) (routing, networks_at input input.nets)
            (listed input.enabled _ delivery)

    pub router_route_at : P LrInArpResolve → P LrInArpRequest → AreAt router_route_rules
    router_route_at resolving requests = (routing, (resolving, (requests, (requests, (delivery, tt)))))

  pub static_route_at : P LrInIpRouting → (input : StaticRouteInput) → AreAt (static_route_rules input)
  unfolding static_route_rules
  static_route_at routing input = by input.found
    where
      by : (found : Option Exit) → AreAt (by_exit (static_rule input) found)
      by None = tt
      by (Some exit) = (routing, tt)

  module _ (resolving : P LrInArpResolve) where
    pub binding_at : (input : BindingInput) → AreAt (binding_rules input)
    unfolding binding_rules
    binding_at input = (resolving, tt)

    pub neighbour_at : (input : NeighbourInput) → AreAt (neighbour_rules input)
    unfolding neighbour_rules
    neighbour_at input = by input.hosts
      where
        by : (hosts : List Host) → AreAt (map (resolving_rule 100 input.name) hosts)
        by [] = tt
        by (host ∷ hosts) = (resolving, by hosts)

  -- ---- address translation and load balancing

  pub router_nat_at : P LrInUnsnat → P LrInDefrag → P LrInDnat → P LrOutUndnat → P LrOutSnat → (input : RouterNatInput) → AreAt (router_nat_rules input)
  unfolding router_nat_rules
  router_nat_at unsnat defrag dnat undnat snat input = (unsnat, (defrag, (dnat, (undnat, (snat, by input.dnats)))))
    where
      by : (b : Bool) → AreAt (connection_rules b)
      by true = (defrag, (undnat, tt))
      by false = tt

  pub nat_at : P LrInIpInput → P LrInUnsnat → P LrOutSnat → P LrInDnat → (input : NatRuleInput) → AreAt (nat_rules input)
  unfolding nat_rules
  nat_at input_to unsnat snat dnat input = (input_to, by input.kind)
    where
      by : (kind : NatKind) → AreAt (translating_rules kind input)
      by Snat = (unsnat, (snat, tt))
      by Dnat = (dnat, tt)
      by DnatAndSnat = (unsnat, (snat, (dnat, tt)))

  pub vip_router_at : P LrInDnat → (input : VipInput) → AreAt (vip_router_rules input)
  unfolding vip_router_rules
  vip_router_at dnat input = by (is_empty input.backends)
    where
      by : (b : Bool) → AreAt (if b then [] else balancing_rule input ∷ [])
      by true = tt
      by false = (dnat, tt)

  pub vip_addr_at : P LrInIpInput → (input : VipAddrInput) → AreAt (vip_addr_rules input)
  unfolding vip_addr_rules
  vip_addr_at input_to input = (input_to, tt)
