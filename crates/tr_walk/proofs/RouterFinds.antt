-- On the rows of routers actions read only fields that are there.
use Rattle.std.proofs.Common.{◌≡◌, ℕ, ◌-◌, Bool, true, false, cond, List, [], ◌∷◌, ◌++◌, map, refl, ◌∙◌}
use Rattle.std.specs.Prelude.{◌==◌, Option, Some, None, slice_get}
use Rattle.std.specs.Bool.{IsTrue}
use Rattle.std.specs.List.{AllByRecursion, Contains}
use Rattle.std.proofs.lemmas.Bool.{and_from, and_parts}
use Rattle.nv_base.specs.Block.{Block}
use Rattle.nv_base.specs.declared.field.Field.TheVariants.{EthSrc, EthDst, EthType, IpTtl, Ip4Dst, ArpOp, ArpSha, ArpTha, FlagsLoopback, Reg0, Reg1, Reg6}
use Rattle.nv_base.specs.declared.ip4.Ip4.{Ip4}
use Rattle.pkt_core.specs.Packet.{Values, value, with_value}
use Rattle.expr_core.specs.Lookup.{Lookup}
use Rattle.expr_eval.specs.MatchMeaning.{holds}
use Rattle.act_core.specs.declared.step.Step.TheVariants as step
use Rattle.nb_records.specs.declared.router.NatKind.{NatKind}
use Rattle.nb_records.specs.declared.router.NatKind.TheVariants.{Snat, Dnat, DnatAndSnat}
use Rattle.nb_records.specs.declared.router.RouteBy.{RouteBy}
use Rattle.nb_records.specs.declared.router.RouteBy.TheVariants.{Dst, Src}
use Rattle.nb_model.specs.Applies.{is_empty}
use Rattle.nb_model.specs.Names.{names}
use Rattle.nb_model.specs.Network.{Network}
use Rattle.sb_model.specs.Make.{in_decimal, steps}
use Rattle.sb_model.specs.declared.row.Row.{Row}
use Rattle.sb_model.specs.declared.stage.Stage.TheVariants.{LrInIpInput, LrInIpRouting}
use Rattle.net_rows.specs.Unit.{row_of, unit_of, unit_of_datapath}
use Rattle.net_rows.specs.declared.rule.Rule.{Rule}
use Rattle.net_rows.specs.declared.rule.Unit.{Unit as UnitOf}
use Rattle.net_rows.proofs.Elements.{every_append}
use Rattle.net_rows.proofs.Pairs.{every_from_members, every_map, every_member, every_weaker}
use Rattle.lr_rows.specs.Balancers.{balancing_rule, vip_addr_rules, vip_router_rules}
use Rattle.lr_rows.specs.Input.{address_rules, admitting_rules, answers_echo, answers_expired, answers_from_port, by_first, echo_rule, expiring_rules, free_rules, learning_rule, own_arp_rule, port_in_rules, port_in_rules_from, router_in_rules}
use Rattle.lr_rows.specs.Make.{answers_arp, arp_rule_for, becomes}
use Rattle.lr_rows.specs.Nat.{connection_rules, nat_rules, passing_rules, router_nat_rules, translating_rules}
use Rattle.lr_rows.specs.Neighbours.{binding_rules, neighbour_rules, resolving_rule}
use Rattle.lr_rows.specs.Routes.{by_exit, delivery_rules, exit_to, network_rule, own_address_rules, port_route_rules, port_route_rules_of, router_route_rules, routes_directly, routes_over, static_route_rules, static_rule}
use Rattle.lr_rows.specs.declared.inputs.BindingInput.{BindingInput}
use Rattle.lr_rows.specs.declared.inputs.Exit.{Exit}
use Rattle.lr_rows.specs.declared.inputs.NatRuleInput.{NatRuleInput}
use Rattle.lr_rows.specs.declared.inputs.NeighbourInput.{NeighbourInput}
use Rattle.lr_rows.specs.declared.inputs.PortInInput.{PortInInput}
use Rattle.lr_rows.specs.declared.inputs.PortRouteInput.{PortRouteInput}
use Rattle.lr_rows.specs.declared.inputs.RouterNatInput.{RouterNatInput}
use Rattle.lr_rows.specs.declared.inputs.StaticRouteInput.{StaticRouteInput}
use Rattle.lr_rows.specs.declared.inputs.VipAddrInput.{VipAddrInput}
use Rattle.net_rows.specs.declared.inputs.VipInput.{VipInput}
use Rattle.lr_units.specs.Build.{router_rows, rows_of}
use Rattle.lr_units.specs.Units.{binding_units, nat_rule_units, neighbour_units, port_in_units, port_route_units, router_nat_units, router_units, static_route_units, vip_addr_units, vip_router_units}
use Rattle.lr_units.proofs.Sources.{EachKind, every_of_kind, every_row}
use Rattle.tr_stage.specs.Machine.{bound_for, number_of}
use Rattle.ls_laws.proofs.Packets.{other_value}
use Rattle.tr_walk.specs.Reads.{FindsWhatItReads, actions_find, answer_finds, once_changed}
use Rattle.tr_walk.proofs.Reading.{AllFind, Finds, all_find, any, still_of}

module _ (known : Lookup) where
  -- ---- ARP requests that are answered

  -- the packet is ARP, and so it is while the answer is made: the sender's addresses and the wanted one are there when they are read
  answers : (packet : Values) → (value packet EthType == 0x806) ≡ true → actions_find known LrInIpInput (steps answers_arp) packet ≡ true
  answers packet is = and_from _ _ (and_from _ _ (still_of packet three 0x806 type_of_three is) refl) (and_from _ _ (and_from _ _ (still_of packet five 0x806 type_of_five is) (and_from _ _ (still_of packet five 0x806 type_of_five is) refl)) refl)
    where
      one : Values
      one = with_value packet EthDst (value packet EthSrc)

      two : Values
      two = with_value one EthSrc (value one Reg6)

      three : Values
      three = with_value two ArpOp 2

      four : Values
      four = with_value three ArpTha (value three ArpSha)

      five : Values
      five = with_value four ArpSha (value four Reg6)

      type_of_three : value three EthType ≡ value packet EthType
      type_of_three = other_value two ArpOp EthType 2 refl ∙ other_value one EthSrc EthType (value one Reg6) refl ∙ other_value packet EthDst EthType (value packet EthSrc) refl

      type_of_five : value five EthType ≡ value packet EthType
      type_of_five = other_value four ArpSha EthType (value four Reg6) refl ∙ other_value three ArpTha EthType (value three ArpSha) refl ∙ type_of_three

  -- so does a rule whose match asks for a field of ARP
  own_arp : (input : PortInInput) → Finds known (own_arp_rule input)
  own_arp input = record { there = λ packet takes. answers packet (and_parts _ _ (and_parts _ _ (and_parts _ _ takes).1).0).0 }

  arp_for : (addr : Ip4) → Finds known (arp_rule_for addr)
  arp_for addr = record { there = λ packet takes. answers packet (and_parts _ _ (and_parts _ _ takes).0).0 }

  -- ---- input

  of_router_in : AllFind known router_in_rules
  of_router_in = all_find known router_in_rules refl

  -- what tells a neighbour is ARP
  of_learning : (input : PortInInput) → Finds known (learning_rule input)
  of_learning input = record {
    there = λ packet takes.
        let is = (and_parts _ _ (and_parts _ _ (and_parts _ _ takes).1).0).0 in
        and_from _ _ (and_from _ _ is (and_from _ _ is refl)) refl;
  }

  -- an echo request is IPv4, and so it is when its addresses are exchanged
  echoes : (packet : Values) → (value packet EthType == 0x800) ≡ true → actions_find known LrInIpInput (steps answers_echo) packet ≡ true
  echoes packet is = and_from _ _ (and_from _ _ still (and_from _ _ still refl)) refl
    where
      one : Values
      one = with_value packet EthDst (value packet EthSrc)

      two : Values
      two = with_value one EthSrc (value one Reg6)

      still : (value two EthType == 0x800) ≡ true
      still = still_of packet two 0x800 (other_value one EthSrc EthType (value one Reg6) refl ∙ other_value packet EthDst EthType (value packet EthSrc) refl) is

  of_echo : (input : PortInInput) → Finds known (echo_rule input)
  of_echo input = record { there = λ packet takes. echoes packet (and_parts _ _ (and_parts _ _ takes).0).0 }

  -- what is made in answer came in by a port, as each packet did
  made : (answer : Option Values) → answer_finds known LrInIpInput (answers_from_port []) answer ≡ true
  made None = refl
  made (Some packet) = refl

  expired : (first : Ip4) (answer : Option Values) → answer_finds known LrInIpInput (answers_expired first) answer ≡ true
  expired first None = refl
  expired first (Some packet) = refl

  of_free : (addrs : List Ip4) → AllFind known (free_rules addrs)
  of_free [] = tt
  of_free (addr ∷ addrs) = (any known _ _ _ _ (λ p. made _), (any known _ _ _ _ (λ p. made _), (any known _ _ _ _ (λ p. refl), tt)))

  of_admitting : (input : PortInInput) → AllFind known (admitting_rules input)
  of_admitting input = by input.enabled
    where
      by : (b : Bool) → AllFind known (admitting_rules (record input { enabled = b }))
      by true = (any known _ _ _ _ (λ p. refl), tt)
      by false = tt

  of_port_in : (input : PortInInput) → AllFind known (port_in_rules input)
  unfolding port_in_rules
  of_port_in input = by (slice_get input.nets 0)
    where
      by : (first : Option Block) → AllFind known (by_first (port_in_rules_from input) first)
      by None = tt
      by (Some first) =
          every_append (Finds known) (admitting_rules input ++ address_rules input ++ free_rules input.free) (expiring_rules input.name first.base)
          (every_append (Finds known) (admitting_rules input ++ address_rules input) (free_rules input.free)
          (every_append (Finds known) (admitting_rules input) (address_rules input) (of_admitting input) (of_learning input, (any known _ _ _ _ (λ p. refl), (own_arp input, (of_echo input, tt))))) (of_free input.free))
          (any known _ _ _ _ (λ p. expired first.base _), tt)

  -- ---- routing, resolution, requests and delivery

  of_router_route : AllFind known router_route_rules
  of_router_route =
      (any known _ _ _ _ (λ p. refl), (any known _ _ _ _ (λ p. refl), (any known _ _ _ _ (λ p. refl), (any known _ _ _ _ (λ p. refl), (any known _ _ _ _ (λ p. refl), tt)))))

  -- a packet is to leave by the port of a name, if there is one
  bound : (number : Option ℕ) (packet : Values) → once_changed (bound_for number packet) (actions_find known LrInIpRouting (steps (becomes FlagsLoopback (in_decimal 1) ∷ step.Next ∷ []))) ≡ true
  bound None packet = refl
  bound (Some number) packet = refl

  -- what is routed is IPv4, and so it is with one hop less to live
  directly : (exit : Exit) (packet : Values) → (value packet EthType == 0x800) ≡ true → actions_find known LrInIpRouting (steps (routes_directly exit)) packet ≡ true
  directly exit packet is =
      and_from _ _ (and_from _ _ is refl)
      (and_from _ _ (and_from _ _ (still_of packet lower 0x800 (other_value packet IpTtl EthType (value packet IpTtl - 1) refl) is) refl) (bound (number_of known exit.name) from_port))
    where
      lower : Values
      lower = with_value packet IpTtl (value packet IpTtl - 1)

      from_port : Values
      from_port = with_value (with_value (with_value lower Reg0 (value lower Ip4Dst)) Reg1 exit.addr.0) EthSrc exit.mac

  over : (nexthop : Ip4) (exit : Exit) (packet : Values) → (value packet EthType == 0x800) ≡ true → actions_find known LrInIpRouting (steps (routes_over nexthop exit)) packet ≡ true
  over nexthop exit packet is = and_from _ _ (and_from _ _ is refl) (bound (number_of known exit.name) _)

  of_network : (input : PortRouteInput) (net : Block) → Finds known (network_rule input net)
  of_network input net = record { there = λ packet takes. directly (exit_to input net) packet (and_parts _ _ takes).0 }

  of_static : (input : StaticRouteInput) (exit : Exit) → Finds known (static_rule input exit)
  of_static input exit = record { there = λ packet takes. by input.by packet takes }
    where
      by : (policy : RouteBy) (packet : Values) → IsTrue (holds known packet (static_rule (record input { by = policy }) exit).matching) → IsTrue (actions_find known LrInIpRouting (steps (routes_over input.nexthop exit)) packet)
      by Dst packet takes = over input.nexthop exit packet (and_parts _ _ takes).0
      by Src packet takes = over input.nexthop exit packet (and_parts _ _ takes).0

  of_networks : (input : PortRouteInput) (nets : List Block) → AllFind known (map (network_rule input) nets)
  of_networks input [] = tt
  of_networks input (net ∷ nets) = (of_network input net, of_networks input nets)

  of_delivery : (enabled : Bool) (name : List ℕ) → AllFind known (delivery_rules enabled name)
  of_delivery true name = (any known _ _ _ _ (λ p. refl), tt)
  of_delivery false name = tt

  of_port_route : (input : PortRouteInput) → AllFind known (port_route_rules input)
  unfolding port_route_rules
  of_port_route input = by (is_empty input.nets)
    where
      by : (b : Bool) → AllFind known (cond b [] (port_route_rules_of input))
      by true = tt
      by false =
          every_append (Finds known) (own_address_rules input ++ map (network_rule input) input.nets) (delivery_rules input.enabled input.name) (any known _ _ _ _ (λ p. refl), of_networks input input.nets)
          (of_delivery input.enabled input.name)

  of_static_route : (input : StaticRouteInput) → AllFind known (static_route_rules input)
  unfolding static_route_rules
  of_static_route input = by input.found
    where
      by : (found : Option Exit) → AllFind known (by_exit (static_rule input) found)
      by None = tt
      by (Some exit) = (of_static input exit, tt)

  of_binding : (input : BindingInput) → AllFind known (binding_rules input)
  unfolding binding_rules
  of_binding input = (any known _ _ _ _ (λ p. refl), tt)

  of_neighbour : (input : NeighbourInput) → AllFind known (neighbour_rules input)
  unfolding neighbour_rules
  of_neighbour input = every_map (Finds known) (resolving_rule 100 input.name) input.hosts (every_from_members (λ host. Finds known (resolving_rule 100 input.name host)) input.hosts (λ host there. any known _ _ _ _ (λ p. refl)))

  -- ---- address translation and load balancing, whose actions of connections read nothing else

  of_router_nat : (input : RouterNatInput) → AllFind known (router_nat_rules input)
  unfolding router_nat_rules
  of_router_nat input = by input.dnats
    where
      by : (b : Bool) → AllFind known (passing_rules ++ connection_rules b)
      by true = all_find known (passing_rules ++ connection_rules true) refl
      by false = all_find known (passing_rules ++ connection_rules false) refl

  of_nat : (input : NatRuleInput) → AllFind known (nat_rules input)
  unfolding nat_rules
  of_nat input = (arp_for input.external, by input.kind)
    where
      by : (kind : NatKind) → AllFind known (translating_rules kind input)
      by Snat = all_find known (translating_rules Snat input) refl
      by Dnat = all_find known (translating_rules Dnat input) refl
      by DnatAndSnat = all_find known (translating_rules DnatAndSnat input) refl

  of_vip_router : (input : VipInput) → AllFind known (vip_router_rules input)
  unfolding vip_router_rules
  of_vip_router input = by (is_empty input.backends)
    where
      by : (b : Bool) → AllFind known (cond b [] (balancing_rule input ∷ []))
      by true = tt
      by false = all_find known (balancing_rule input ∷ []) refl

  of_vip_addr : (input : VipAddrInput) → AllFind known (vip_addr_rules input)
  unfolding vip_addr_rules
  of_vip_addr input = (arp_for input.addr, tt)

-- ---- the rows

module _ (net : Network) where
  abbrev FindsIt : Row → Type 0
  FindsIt row = FindsWhatItReads (names net) row

  -- what the rules of units of a kind find the rows of the kind find
  of_kind : {K I : Type 0} (unit_for : K → I → UnitOf) (rules_of : I → List Rule) (units : List (K × I)) → ((input : I) → AllFind (names net) (rules_of input)) → AllByRecursion FindsIt (rows_of unit_for rules_of units)
  of_kind unit_for rules_of units all =
      every_of_kind FindsIt unit_for rules_of units
      (λ u there. every_weaker (Finds (names net)) (λ (r : Rule). FindsIt (row_of (unit_for u.0 u.1) r)) (rules_of u.1) (λ r finds. finds.there) (all u.1))

  kinds_find : EachKind FindsIt net
  kinds_find = record {
    router_in = of_kind (λ router input. unit_of_datapath router) (λ input. router_in_rules) (router_units net) (λ input. of_router_in (names net));
    port_in = of_kind (λ port input. unit_of input.dp port) port_in_rules (port_in_units net) (of_port_in (names net));
    router_route = of_kind (λ router input. unit_of_datapath router) (λ input. router_route_rules) (router_units net) (λ input. of_router_route (names net));
    port_route = of_kind (λ port input. unit_of input.dp port) port_route_rules (port_route_units net) (of_port_route (names net));
    static_route = of_kind (λ route input. unit_of input.dp route) static_route_rules (static_route_units net) (of_static_route (names net));
    binding = of_kind (λ binding input. unit_of input.dp binding) binding_rules (binding_units net) (of_binding (names net));
    neighbour = of_kind (λ ports input. unit_of input.dp ports.1) neighbour_rules (neighbour_units net) (of_neighbour (names net));
    router_nat = of_kind (λ router input. unit_of_datapath router) router_nat_rules (router_nat_units net) (of_router_nat (names net));
    nat_rule = of_kind (λ nat input. unit_of input.dp nat) nat_rules (nat_rule_units net) (of_nat (names net));
    vip_router = of_kind (λ vip input. unit_of vip.2 vip.0) vip_router_rules (vip_router_units net) (of_vip_router (names net));
    vip_addr = of_kind (λ vip input. unit_of vip.2 vip.0) vip_addr_rules (vip_addr_units net) (of_vip_addr (names net));
  }

  pub router_row_finds : (row : Row) → Contains (router_rows net) row → FindsWhatItReads (names net) row
  router_row_finds row there = every_member FindsIt (router_rows net) row (every_row FindsIt net kinds_find) there
