-- The matches of the rules of routers, by what their inputs are: they are well-typed, and told apart by their texts.
use Rattle.std.proofs.Common.{◌≡◌, ℕ, ◌^◌, ◌<◌, Bool, true, false, List, [], ◌∷◌, ◌++◌, map, refl, sym, subst}
use Rattle.std.specs.Prelude.{Option, Some, None, slice_get, if◌then◌else◌}
use Rattle.std.specs.Bool.{IsTrue}
use Rattle.std.specs.List.{AllByRecursion}
use Rattle.nv_base.specs.Block.{Block}
use Rattle.nv_base.specs.Name.{is_object_name}
use Rattle.nv_base.specs.declared.field.Field.TheVariants.{Outport, EthDst, ArpOp, ArpSha, ArpTpa, Ip4Src, Ip4Dst, TcpDst, UdpDst, Icmp4Code, Reg0}
use Rattle.nv_base.specs.declared.ip4.Ip4.{Ip4}
use Rattle.expr_check.specs.Printed.{IsPrintable}
use Rattle.expr_core.specs.Formula.Formula.{Leaf}
use Rattle.expr_core.specs.WellTyped.{IsTyped}
use Rattle.expr_core.specs.declared.comparison.Item.TheVariants.{One}
use Rattle.expr_core.specs.declared.comparison.Rel.TheVariants.{Eq}
use Rattle.expr_core.specs.declared.comparison.Right.TheVariants as right
use Rattle.expr_core.specs.declared.part.Bits.TheVariants.{Bit}
use Rattle.expr_core.specs.declared.predicate.Pred.TheVariants as pred
use Rattle.expr_core.specs.declared.role.Role.TheVariants as role
use Rattle.expr_core.specs.declared.typed.TypedAtom.TheVariants.{Compare}
use Rattle.nb_records.specs.declared.balancer.Proto.{Proto}
use Rattle.nb_records.specs.declared.balancer.Proto.TheVariants.{Tcp, Udp}
use Rattle.nb_records.specs.declared.router.NatKind.{NatKind}
use Rattle.nb_records.specs.declared.router.NatKind.TheVariants.{Snat, Dnat, DnatAndSnat}
use Rattle.nb_records.specs.declared.router.RouteBy.{RouteBy}
use Rattle.nb_records.specs.declared.router.RouteBy.TheVariants.{Dst, Src}
use Rattle.nb_read.specs.Readings.{cleared}
use Rattle.nb_model.specs.Applies.{is_empty}
use Rattle.sb_model.specs.Make.{as_ip4, as_mac, differs, equals, in_decimal, is_one_of, is_port, is_predicate, all_of, one_of}
use Rattle.net_rows.specs.declared.rule.Rule.{Rule}
use Rattle.net_rows.proofs.Differ.{HasPrintable}
use Rattle.net_rows.proofs.Elements.{every_append}
use Rattle.net_rows.proofs.Operands.{IsOperand, asks_for, either_operand, from_addresses, from_port, is_request, joined_printable, leaf_printable, tells_address, to_address, to_addresses, to_mac, to_port}
use Rattle.net_rows.proofs.Pairs.{every_weaker}
use Rattle.net_rows.proofs.SoundObjects.{IsBlock}
use Rattle.net_rows.proofs.VipRules.{IsService, opens_printable}
use Rattle.lr_rows.specs.Balancers.{balancing_rule, vip_addr_rules, vip_router_rules}
use Rattle.lr_rows.specs.Input.{address_rules, admitting_rules, by_first, expiring_rules, free_rules, port_in_rules, port_in_rules_from, router_in_rules}
use Rattle.lr_rows.specs.Make.{addresses_of, arp_rule_for, as_address, is_within}
use Rattle.lr_rows.specs.Nat.{connection_rules, nat_rules, router_nat_rules, translating_rules}
use Rattle.lr_rows.specs.Neighbours.{binding_rules, neighbour_rules, resolving_rule}
use Rattle.lr_rows.specs.Routes.{by_exit, delivery_rules, looked_at, network_rule, own_address_rules, port_route_rules, port_route_rules_of, router_route_rules, static_route_rules, static_rule}
use Rattle.lr_rows.specs.declared.inputs.BindingInput.{BindingInput}
use Rattle.lr_rows.specs.declared.inputs.Exit.{Exit}
use Rattle.lr_rows.specs.declared.inputs.Host.{Host}
use Rattle.lr_rows.specs.declared.inputs.NatRuleInput.{NatRuleInput}
use Rattle.lr_rows.specs.declared.inputs.NeighbourInput.{NeighbourInput}
use Rattle.lr_rows.specs.declared.inputs.PortInInput.{PortInInput}
use Rattle.lr_rows.specs.declared.inputs.PortRouteInput.{PortRouteInput}
use Rattle.lr_rows.specs.declared.inputs.RouterNatInput.{RouterNatInput}
use Rattle.lr_rows.specs.declared.inputs.StaticRouteInput.{StaticRouteInput}
use Rattle.lr_rows.specs.declared.inputs.VipAddrInput.{VipAddrInput}
use Rattle.net_rows.specs.declared.inputs.VipInput.{VipInput}
use Rattle.lr_units.proofs.Tests.{IsLow, are_items, are_network_items, are_own_items, asks_for_one, cleared_block, from_network, is_echo_code, is_echo_type, is_expired, is_multicast, is_tcp, is_udp, next_is, tells_some_mac, tells_unicast, to_network}

-- all can be told by their texts
abbrev pub ArePrintable : List Rule → Type 0
ArePrintable rules = AllByRecursion HasPrintable rules

-- the matches are well-typed
abbrev pub IsTypedRule : Rule → Type 0
IsTypedRule r = IsTyped role.Row r.matching

abbrev pub AreTypedRules : List Rule → Type 0
AreTypedRules rules = AllByRecursion IsTypedRule rules

pub printable_typed : (rules : List Rule) → ArePrintable rules → AreTypedRules rules
printable_typed rules all = every_weaker HasPrintable IsTypedRule rules (λ r can. can.typed) all

-- ---- routers

pub router_in_typed : AreTypedRules router_in_rules
router_in_typed = (refl, (refl, (refl, ((refl, (refl, (refl, tt))), (refl, ((refl, (refl, tt)), (refl, (refl, tt))))))))

pub router_route_typed : AreTypedRules router_route_rules
router_route_typed = (refl, (refl, (refl, (refl, (refl, tt)))))

pub router_nat_typed : (input : RouterNatInput) → AreTypedRules (router_nat_rules input)
unfolding router_nat_rules
router_nat_typed input = (refl, (refl, (refl, (refl, (refl, by input.dnats)))))
  where
    by : (b : Bool) → AreTypedRules (connection_rules b)
    by true = (refl, (refl, tt))
    by false = tt

-- ---- ports of routers

-- the name of an object, a MAC, and networks
pub record IsPort (name : List ℕ) (mac : ℕ) (nets : List Block) : Type 0 where
  pub named : IsTrue (is_object_name name)
  pub low : mac < 2 ^ 48
  pub blocks : AllByRecursion IsBlock nets

where_enabled : (enabled : Bool) (r : Rule) → HasPrintable r → ArePrintable (if enabled then r ∷ [] else [])
where_enabled true r can = (can, tt)
where_enabled false r can = tt

pub free_printable : (addrs : List Ip4) → AllByRecursion IsLow addrs → ArePrintable (free_rules addrs)
free_printable [] all = tt
free_printable (addr ∷ addrs) all =
    let for_them = to_addresses (as_address addr) (map as_address addrs) (are_items (addr ∷ addrs) all) in
    (joined_printable _ _ [] (for_them, (is_tcp, tt)), (joined_printable _ _ [] (for_them, (is_udp, tt)), (leaf_printable _ for_them, tt)))

module _ (input : PortInInput) (is : IsPort input.name input.mac input.nets) (low : AllByRecursion IsLow input.free) where
  admitting_printable : ArePrintable (admitting_rules input)
  admitting_printable = where_enabled input.enabled _ (joined_printable _ _ [] (from_port input.name is.named, (for_it, tt)))
    where
      for_it : IsOperand (one_of (equals EthDst (as_mac input.mac) ∷ is_predicate pred.EthMcast ∷ []))
      for_it = either_operand _ _ (to_mac input.mac is.low) is_multicast

  expiring_printable : (first : Ip4) → ArePrintable (expiring_rules input.name first)
  expiring_printable first = (joined_printable _ _ [] (from_port input.name is.named, (is_expired, tt)), tt)

  pub address_printable : (net : Block) (nets : List Block) → input.nets ≡ net ∷ nets → ArePrintable (address_rules input)
  address_printable net nets e = subst (λ (some : List Block). AllByRecursion IsBlock some → ArePrintable (address_rules (record input { nets = some }))) (sym e) own is.blocks
    where
      own : AllByRecursion IsBlock (net ∷ nets) → ArePrintable (address_rules (record input { nets = net ∷ nets }))
      own all =
          let own_items = are_own_items (net ∷ nets) all in
          let port = from_port input.name is.named in (
            joined_printable _ _ (Leaf (Compare ArpSha (Bit 40) Eq (right.Item (One (in_decimal 0)))) ∷ differs ArpSha (as_mac 0) ∷ []) (port, (tells_address _ _ (are_network_items (net ∷ nets) all), (tells_unicast, (tells_some_mac, tt)))),
            (
              leaf_printable _ (from_addresses (as_address net.base) (addresses_of nets) own_items),
              (
                joined_printable _ _ (is_one_of ArpTpa (addresses_of (net ∷ nets)) ∷ []) (port, (is_request, (asks_for_one net nets all, tt))),
                (joined_printable _ _ (equals Icmp4Code (in_decimal 0) ∷ []) (to_addresses (as_address net.base) (addresses_of nets) own_items, (is_echo_type, (is_echo_code, tt))), tt),
              ),
            ),
          )

pub port_in_printable : (input : PortInInput) → IsPort input.name input.mac input.nets → AllByRecursion IsLow input.free → ArePrintable (port_in_rules input)
unfolding port_in_rules
port_in_printable input is low = by input.nets refl
  where
    by : (nets : List Block) → input.nets ≡ nets → ArePrintable (by_first (port_in_rules_from input) (slice_get nets 0))
    by [] e = tt
    by (net ∷ nets) e =
        every_append HasPrintable (admitting_rules input ++ address_rules input ++ free_rules input.free) (expiring_rules input.name net.base)
        (every_append HasPrintable (admitting_rules input ++ address_rules input) (free_rules input.free)
        (every_append HasPrintable (admitting_rules input) (address_rules input) (admitting_printable input is low) (address_printable input is low net nets e)) (free_printable input.free low))
        (expiring_printable input is low net.base)

module _ (input : PortRouteInput) (is : IsPort input.name input.mac input.nets) where
  pub network_printable : (net : Block) → IsBlock net → HasPrintable (network_rule input net)
  network_printable net of = leaf_printable _ (to_network (cleared net) (cleared_block net of))

  networks_printable : (nets : List Block) → AllByRecursion IsBlock nets → ArePrintable (map (network_rule input) nets)
  networks_printable [] all = tt
  networks_printable (net ∷ nets) all = (network_printable net all.0, networks_printable nets all.1)

  delivery_printable : ArePrintable (delivery_rules input.enabled input.name)
  delivery_printable = where_enabled input.enabled _ (leaf_printable _ (to_port input.name is.named))

  own_printable : (net : Block) (nets : List Block) → AllByRecursion IsBlock (net ∷ nets) → IsPrintable role.Row (is_one_of Ip4Dst (addresses_of (net ∷ nets)))
  own_printable net nets all = leaf_printable _ (to_addresses (as_address net.base) (addresses_of nets) (are_own_items (net ∷ nets) all))

pub port_route_printable : (input : PortRouteInput) → IsPort input.name input.mac input.nets → ArePrintable (port_route_rules input)
unfolding port_route_rules
port_route_printable input is = by input.nets is.blocks
  where
    by : (nets : List Block) → AllByRecursion IsBlock nets → ArePrintable (if is_empty nets then [] else port_route_rules_of (record input { nets = nets }))
    by [] all = tt
    by (net ∷ nets) all =
        let at : PortRouteInput = record input { nets = net ∷ nets } in
        let of : IsPort input.name input.mac (net ∷ nets) = record { named = is.named; low = is.low; blocks = all } in
        every_append HasPrintable (own_address_rules at ++ map (network_rule at) (net ∷ nets)) (delivery_rules input.enabled input.name)
        (own_printable at of net nets all, networks_printable at of (net ∷ nets) all) (delivery_printable at of)

-- ---- static routes, bindings and neighbours

pub static_route_printable : (input : StaticRouteInput) → IsBlock input.prefix → ArePrintable (static_route_rules input)
unfolding static_route_rules
static_route_printable input is = by input.found
  where
    in_prefix : (way : RouteBy) → IsOperand (is_within (looked_at way) input.prefix)
    in_prefix Dst = to_network input.prefix is
    in_prefix Src = from_network input.prefix is

    by : (found : Option Exit) → ArePrintable (by_exit (static_rule input) found)
    by None = tt
    by (Some exit) = (leaf_printable _ (in_prefix input.by), tt)

pub resolving_printable : (priority : ℕ) (name : List ℕ) (host : Host) → IsTrue (is_object_name name) → IsLow host.addr → HasPrintable (resolving_rule priority name host)
resolving_printable priority name host named low = joined_printable (is_port Outport name) (equals Reg0 (as_ip4 host.addr.0)) [] (to_port name named, (next_is host.addr.0 low, tt))

pub binding_printable : (input : BindingInput) → IsTrue (is_object_name input.name) → IsLow input.host.addr → ArePrintable (binding_rules input)
unfolding binding_rules
binding_printable input named low = (resolving_printable 150 input.name input.host named low, tt)

-- a host has an address of 32 bits
abbrev pub HasLow : Host → Type 0
HasLow host = IsLow host.addr

pub neighbour_printable : (input : NeighbourInput) → IsTrue (is_object_name input.name) → AllByRecursion HasLow input.hosts → ArePrintable (neighbour_rules input)
unfolding neighbour_rules
neighbour_printable input named all = each input.hosts all
  where
    each : (hosts : List Host) → AllByRecursion HasLow hosts → ArePrintable (map (resolving_rule 100 input.name) hosts)
    each [] low = tt
    each (host ∷ hosts) low = (resolving_printable 100 input.name host named low.0, each hosts low.1)

-- ---- address translation and load balancing

pub arp_printable : (addr : Ip4) → IsLow addr → HasPrintable (arp_rule_for addr)
arp_printable addr low = joined_printable (equals ArpOp (in_decimal 1)) (equals ArpTpa (as_ip4 addr.0)) [] (is_request, (asks_for addr.0 low, tt))

pub nat_typed : (input : NatRuleInput) → IsLow input.external → IsBlock input.logical → AreTypedRules (nat_rules input)
unfolding nat_rules
nat_typed input low is = ((arp_printable input.external low).typed, by input.kind)
  where
    to : IsTyped role.Row (equals Ip4Dst (as_ip4 input.external.0))
    to = (to_address input.external.0 low).typed

    from : IsTyped role.Row (is_within Ip4Src input.logical)
    from = (from_network input.logical is).typed

    by : (kind : NatKind) → AreTypedRules (translating_rules kind input)
    by Snat = (to, ((refl, (from, tt)), tt))
    by Dnat = ((refl, (to, tt)), tt)
    by DnatAndSnat = (to, ((refl, (from, tt)), ((refl, (to, tt)), tt)))

pub vip_router_printable : (input : VipInput) → IsLow input.at.addr → IsService input.at.port → ArePrintable (vip_router_rules input)
unfolding vip_router_rules
vip_router_printable input low service = by (is_empty input.backends)
  where
    by : (b : Bool) → ArePrintable (if b then [] else balancing_rule input ∷ [])
    by true = tt
    by false = (opens_printable input low service, tt)

pub vip_addr_printable : (input : VipAddrInput) → IsLow input.addr → ArePrintable (vip_addr_rules input)
unfolding vip_addr_rules
vip_addr_printable input low = (arp_printable input.addr low, tt)
