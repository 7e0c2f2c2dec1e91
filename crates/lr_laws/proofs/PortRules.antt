-- The rules of a port of a router, one by one.
use Rattle.std.proofs.Common.{◌≡◌, ℕ, Bool, true, false, nat_lt, cond, List, [], ◌∷◌, ◌++◌, map, length, sym, ap, refl, subst, arith}
use Rattle.std.specs.Prelude.{◌&&◌, slice_get}
use Rattle.std.specs.List.{Contains, list_all}
use Rattle.std.proofs.lemmas.Bool.{false≢true, and_parts}
use Rattle.std.proofs.lemmas.List.Elements.{Contains-append_left, Contains-append_right}
use Rattle.nv_base.specs.Block.{Block}
use Rattle.nv_base.specs.Name.{is_object_name}
use Rattle.nv_base.specs.declared.ip4.Ip4.{Ip4}
use Rattle.nv_base.specs.declared.field.Field.TheVariants.{Inport, Outport, EthDst, Reg6}
use Rattle.expr_core.specs.declared.predicate.Pred.TheVariants as is
use Rattle.act_core.specs.declared.action.Action.TheVariants as action
use Rattle.act_core.specs.declared.step.Step.TheVariants as step
use Rattle.nb_read.specs.Lists.{is_same_network}
use Rattle.nb_records.specs.declared.router.RouterPort.{RouterPort}
use Rattle.nb_model.specs.Applies.{is_empty}
use Rattle.nb_model.specs.Network.{Network}
use Rattle.nb_model.specs.Readable.{are_apart, are_networks, is_block, is_mac}
use Rattle.nb_model.specs.Sound.{IsSound}
use Rattle.nb_model.proofs.Readable.{of_router_port}
use Rattle.sb_model.specs.Make.{all_of, as_mac, drops, equals, goes_out, in_decimal, is_one_of, is_port, is_predicate, one_of, steps}
use Rattle.sb_model.specs.declared.stage.Stage.{Stage}
use Rattle.sb_model.specs.declared.stage.Stage.TheVariants.{LrInAdmission, LrInLearnNeighbor, LrInIpInput, LrInIpRouting, LrOutDelivery}
use Rattle.net_rows.specs.Unit.{rule}
use Rattle.net_rows.specs.declared.rule.Rule.{Rule}
use Rattle.net_rows.proofs.Elements.{one_first, Contains-from_map, Contains-map}
use Rattle.net_rows.proofs.Sound.{each_passes}
use Rattle.lr_rows.specs.Input.{address_rules, admitting_rules, answers_expired, answers_from_port, by_first, echo_rule, expiring_rules, free_rules, is_for, learning_rule, own_arp_rule, own_source_rule, port_in_rules, port_in_rules_from, service_rules}
use Rattle.lr_rows.specs.Make.{becomes}
use Rattle.lr_rows.specs.Routes.{delivery_rules, network_rule, own_address_rules, port_route_rules, port_route_rules_of}
use Rattle.lr_rows.specs.declared.inputs.PortInInput.{PortInInput}
use Rattle.lr_rows.specs.declared.inputs.PortRouteInput.{PortRouteInput}
use Rattle.lr_units.specs.Units.{port_in_input, port_route_input}
use Rattle.lr_units.specs.Words.{free_addresses}
use Rattle.lr_laws.proofs.Members.{of_either, of_first, of_none}
use Rattle.lr_laws.proofs.Tables.{port_rules}
use Rattle.expr_core.specs.declared.comparison.Item.TheVariants.{One}
use Rattle.nv_base.specs.declared.field.Field.TheVariants.{IpTtl, Ip4Dst}
use Rattle.lr_rows.specs.Make.{addresses_of}

-- ---- rules that have no name among the definitions

abbrev pub admitting_rule : PortInInput → Rule
admitting_rule input =
    rule LrInAdmission 50 (all_of (is_port Inport input.name ∷ one_of (equals EthDst (as_mac input.mac) ∷ is_predicate is.EthMcast ∷ []) ∷ []))
    (steps (becomes Reg6 (as_mac input.mac) ∷ step.Next ∷ []))

abbrev pub reset_rule : List Ip4 → Rule
reset_rule addrs = rule LrInIpInput 80 (all_of (is_for addrs ∷ is_predicate is.Tcp ∷ [])) (action.TcpReset (answers_from_port []) ∷ [])

abbrev pub unreachable_rule : List Ip4 → Rule
unreachable_rule addrs = rule LrInIpInput 80 (all_of (is_for addrs ∷ is_predicate is.Udp ∷ [])) (action.Icmp4 (answers_from_port []) ∷ [])

abbrev pub refusing_rule : List Ip4 → Rule
refusing_rule addrs = rule LrInIpInput 60 (is_for addrs) drops

abbrev pub expiring_rule : List ℕ → Ip4 → Rule
expiring_rule name first =
    rule LrInIpInput 40 (all_of (is_port Inport name ∷ is_one_of IpTtl (One (in_decimal 0) ∷ One (in_decimal 1) ∷ []) ∷ [])) (action.Icmp4 (answers_expired first) ∷ [])

abbrev pub own_address_rule : PortRouteInput → Rule
own_address_rule input = rule LrInIpRouting 200 (is_one_of Ip4Dst (addresses_of input.nets)) drops

abbrev pub delivery_rule : List ℕ → Rule
delivery_rule name = rule LrOutDelivery 100 (is_port Outport name) goes_out

-- ---- a port of a sound network has a network

pub record HasNet (nets : List Block) : Type 0 where
  pub first : Block
  pub rest : List Block
  pub are : nets ≡ first ∷ rest

has_net : (nets : List Block) → nat_lt 0 (length nets) ≡ true → HasNet nets
has_net [] some = absurd (false≢true some)
has_net (first ∷ rest) some = record { first = first; rest = rest; are = refl }

pub port_has_net : (net : Network) → IsSound net → (port : RouterPort) → Contains net.router_ports port → HasNet port.nets
port_has_net net sound port there =
    let all = each_passes of_router_port net.router_ports port sound.readable.router_ports there in
    let last = and_parts (is_object_name port.name && is_mac port.mac) (are_networks port.nets) all in
    let nets = and_parts (nat_lt 0 (length port.nets) && list_all is_block port.nets) (are_apart is_same_network port.nets) last.1 in
    has_net port.nets (and_parts (nat_lt 0 (length port.nets)) (list_all is_block port.nets) nets.0).0

-- ---- the rules

pub data IsPortSays (net : Network) (port : RouterPort) (says : Rule) : Type 0 where
  Admits : port.enabled ≡ true → says ≡ admitting_rule (port_in_input net port) → IsPortSays net port says
  Learns : says ≡ learning_rule (port_in_input net port) → IsPortSays net port says
  OwnSource : says ≡ own_source_rule (port_in_input net port) → IsPortSays net port says
  OwnArp : says ≡ own_arp_rule (port_in_input net port) → IsPortSays net port says
  Echoes : says ≡ echo_rule (port_in_input net port) → IsPortSays net port says
  Resets : says ≡ reset_rule (free_addresses net port) → IsPortSays net port says
  Unreachable : says ≡ unreachable_rule (free_addresses net port) → IsPortSays net port says
  Refuses : says ≡ refusing_rule (free_addresses net port) → IsPortSays net port says
  Expires : (first : Block) (rest : List Block) → port.nets ≡ first ∷ rest → says ≡ expiring_rule port.name first.base → IsPortSays net port says
  OwnAddress : says ≡ own_address_rule (port_route_input port) → IsPortSays net port says
  ToNetwork : (own : Block) → Contains port.nets own → says ≡ network_rule (port_route_input port) own → IsPortSays net port says
  DeliversTo : port.enabled ≡ true → says ≡ delivery_rule port.name → IsPortSays net port says

-- the stage of each
abbrev pub stage_said : {net : Network} {port : RouterPort} {says : Rule} → IsPortSays net port says → Stage
stage_said (Admits enabled is) = LrInAdmission
stage_said (Learns is) = LrInLearnNeighbor
stage_said (OwnAddress is) = LrInIpRouting
stage_said (ToNetwork own there is) = LrInIpRouting
stage_said (DeliversTo enabled is) = LrOutDelivery
stage_said _ = LrInIpInput

pub stage_is : (net : Network) (port : RouterPort) (says : Rule) (of : IsPortSays net port says) → says.stage ≡ stage_said of
stage_is net port says (Admits enabled is) = ap (λ (r : Rule). r.stage) is
stage_is net port says (Learns is) = ap (λ (r : Rule). r.stage) is
stage_is net port says (OwnSource is) = ap (λ (r : Rule). r.stage) is
stage_is net port says (OwnArp is) = ap (λ (r : Rule). r.stage) is
stage_is net port says (Echoes is) = ap (λ (r : Rule). r.stage) is
stage_is net port says (Resets is) = ap (λ (r : Rule). r.stage) is
stage_is net port says (Unreachable is) = ap (λ (r : Rule). r.stage) is
stage_is net port says (Refuses is) = ap (λ (r : Rule). r.stage) is
stage_is net port says (Expires first rest nets is) = ap (λ (r : Rule). r.stage) is
stage_is net port says (OwnAddress is) = ap (λ (r : Rule). r.stage) is
stage_is net port says (ToNetwork own there is) = ap (λ (r : Rule). r.stage) is
stage_is net port says (DeliversTo enabled is) = ap (λ (r : Rule). r.stage) is

module _ (net : Network) (port : RouterPort) (nets : HasNet port.nets) where
  abbrev input : PortInInput
  input = port_in_input net port

  abbrev route_input : PortRouteInput
  route_input = port_route_input port

  in_rules_are : port_in_rules input ≡ port_in_rules_from input nets.first
  unfolding port_in_rules
  in_rules_are = ap (λ (ns : List Block). by_first (port_in_rules_from input) (slice_get ns 0)) nets.are

  route_rules_are : port_route_rules route_input ≡ port_route_rules_of route_input
  unfolding port_route_rules
  route_rules_are = ap (λ (ns : List Block). cond (is_empty ns) [] (port_route_rules_of route_input)) nets.are

  module _ (says : Rule) where
    of_admitting : (enabled : Bool) → port.enabled ≡ enabled → Contains (cond enabled (admitting_rule input ∷ []) []) says → IsPortSays net port says
    of_admitting true is there = of_first (admitting_rule input) [] says (λ same. Admits is same) (of_none says) there
    of_admitting false is there = of_none says there

    of_address : Contains (address_rules input) says → IsPortSays net port says
    of_address =
        of_first (learning_rule input) (own_source_rule input ∷ own_arp_rule input ∷ echo_rule input ∷ []) says (λ same. Learns same)
        (of_first (own_source_rule input) (own_arp_rule input ∷ echo_rule input ∷ []) says (λ same. OwnSource same)
        (of_first (own_arp_rule input) (echo_rule input ∷ []) says (λ same. OwnArp same) (of_first (echo_rule input) [] says (λ same. Echoes same) (of_none says))))

    of_free : (empty : Bool) → Contains (cond empty [] (service_rules (free_addresses net port))) says → IsPortSays net port says
    of_free true there = of_none says there
    of_free false there =
        let addrs = free_addresses net port in
        of_first (reset_rule addrs) (unreachable_rule addrs ∷ refusing_rule addrs ∷ []) says (λ same. Resets same)
        (of_first (unreachable_rule addrs) (refusing_rule addrs ∷ []) says (λ same. Unreachable same) (of_first (refusing_rule addrs) [] says (λ same. Refuses same) (of_none says))) there

    of_input : Contains (port_in_rules input) says → IsPortSays net port says
    of_input there =
        of_either (admitting_rules input ++ address_rules input ++ free_rules input.free) (expiring_rules input.name nets.first.base) says
        (of_either (admitting_rules input ++ address_rules input) (free_rules input.free) says
        (of_either (admitting_rules input) (address_rules input) says (of_admitting port.enabled refl) of_address) (of_free (is_empty input.free)))
        (of_first (expiring_rule port.name nets.first.base) [] says (λ same. Expires nets.first nets.rest nets.are same) (of_none says))
        (subst (λ rs. Contains rs says) in_rules_are there)

    of_delivery : (enabled : Bool) → port.enabled ≡ enabled → Contains (cond enabled (delivery_rule port.name ∷ []) []) says → IsPortSays net port says
    of_delivery true is there = of_first (delivery_rule port.name) [] says (λ same. DeliversTo is same) (of_none says) there
    of_delivery false is there = of_none says there

    of_networks : Contains (map (network_rule route_input) port.nets) says → IsPortSays net port says
    of_networks there = let at = Contains-from_map (network_rule route_input) port.nets says there in ToNetwork at.0 at.1 (sym at.2)

    of_routes : Contains (port_route_rules route_input) says → IsPortSays net port says
    of_routes there =
        of_either (own_address_rules route_input ++ map (network_rule route_input) port.nets) (delivery_rules port.enabled port.name) says
        (of_either (own_address_rules route_input) (map (network_rule route_input) port.nets) says
        (of_first (own_address_rule route_input) [] says (λ same. OwnAddress same) (of_none says)) of_networks)
        (of_delivery port.enabled refl)
        (subst (λ rs. Contains rs says) route_rules_are there)

    -- each rule of a port is one of these
    pub port_rule-gives : Contains (port_rules net port) says → IsPortSays net port says
    port_rule-gives = of_either (port_in_rules input) (port_route_rules route_input) says of_input of_routes

  -- ---- and these are its rules

  in_input : (says : Rule) → Contains (port_in_rules_from input nets.first) says → Contains (port_in_rules input) says
  in_input says there = subst (λ rs. Contains rs says) (sym in_rules_are) there

  abbrev first_three : List Rule
  first_three = admitting_rules input ++ address_rules input ++ free_rules input.free

  among_three : (says : Rule) → Contains first_three says → Contains (port_in_rules input) says
  among_three says there = in_input says (Contains-append_left first_three (expiring_rules input.name nets.first.base) says there)

  among_addresses : (says : Rule) → Contains (address_rules input) says → Contains (port_in_rules input) says
  among_addresses says there =
      among_three says (Contains-append_left (admitting_rules input ++ address_rules input) (free_rules input.free) says (Contains-append_right (admitting_rules input) (address_rules input) says there))

  pub admits-from : port.enabled ≡ true → Contains (port_in_rules input) (admitting_rule input)
  admits-from enabled =
      among_three (admitting_rule input)
      (Contains-append_left (admitting_rules input ++ address_rules input) (free_rules input.free) (admitting_rule input)
      (Contains-append_left (admitting_rules input) (address_rules input) (admitting_rule input)
      (subst (λ b. Contains (cond b (admitting_rule input ∷ []) []) (admitting_rule input)) (sym enabled) (one_first (admitting_rule input) [] (admitting_rule input) refl))))

  pub learns-from : Contains (port_in_rules input) (learning_rule input)
  learns-from = among_addresses (learning_rule input) (0, omega arith, refl)

  pub own_source-from : Contains (port_in_rules input) (own_source_rule input)
  own_source-from = among_addresses (own_source_rule input) (1, omega arith, refl)

  pub own_arp-from : Contains (port_in_rules input) (own_arp_rule input)
  own_arp-from = among_addresses (own_arp_rule input) (2, omega arith, refl)

  pub echoes-from : Contains (port_in_rules input) (echo_rule input)
  echoes-from = among_addresses (echo_rule input) (3, omega arith, refl)

  services-from : (says : Rule) → is_empty (free_addresses net port) ≡ false → Contains (service_rules (free_addresses net port)) says → Contains (port_in_rules input) says
  services-from says some there =
      among_three says
      (Contains-append_right (admitting_rules input ++ address_rules input) (free_rules input.free) says
      (subst (λ b. Contains (cond b [] (service_rules (free_addresses net port))) says) (sym some) there))

  pub resets-from : is_empty (free_addresses net port) ≡ false → Contains (port_in_rules input) (reset_rule (free_addresses net port))
  resets-from some = services-from (reset_rule (free_addresses net port)) some (0, omega arith, refl)

  pub unreachable-from : is_empty (free_addresses net port) ≡ false → Contains (port_in_rules input) (unreachable_rule (free_addresses net port))
  unreachable-from some = services-from (unreachable_rule (free_addresses net port)) some (1, omega arith, refl)

  pub refuses-from : is_empty (free_addresses net port) ≡ false → Contains (port_in_rules input) (refusing_rule (free_addresses net port))
  refuses-from some = services-from (refusing_rule (free_addresses net port)) some (2, omega arith, refl)

  pub expires-from : Contains (port_in_rules input) (expiring_rule port.name nets.first.base)
  expires-from =
      let says = expiring_rule port.name nets.first.base in
      in_input says (Contains-append_right first_three (expiring_rules input.name nets.first.base) says (one_first says [] says refl))

  abbrev before_delivery : List Rule
  before_delivery = own_address_rules route_input ++ map (network_rule route_input) port.nets

  in_routes : (says : Rule) → Contains (port_route_rules_of route_input) says → Contains (port_route_rules route_input) says
  in_routes says there = subst (λ rs. Contains rs says) (sym route_rules_are) there

  pub own_address-from : Contains (port_route_rules route_input) (own_address_rule route_input)
  own_address-from =
      let says = own_address_rule route_input in
      in_routes says (Contains-append_left before_delivery (delivery_rules port.enabled port.name) says
      (Contains-append_left (own_address_rules route_input) (map (network_rule route_input) port.nets) says (one_first says [] says refl)))

  pub to_network-from : (own : Block) → Contains port.nets own → Contains (port_route_rules route_input) (network_rule route_input own)
  to_network-from own there =
      let says = network_rule route_input own in
      in_routes says (Contains-append_left before_delivery (delivery_rules port.enabled port.name) says
      (Contains-append_right (own_address_rules route_input) (map (network_rule route_input) port.nets) says (Contains-map (network_rule route_input) port.nets own there)))

  pub delivers-from : port.enabled ≡ true → Contains (port_route_rules route_input) (delivery_rule port.name)
  delivers-from enabled =
      let says = delivery_rule port.name in
      in_routes says (Contains-append_right before_delivery (delivery_rules port.enabled port.name) says
      (subst (λ b. Contains (cond b (says ∷ []) []) says) (sym enabled) (one_first says [] says refl)))
