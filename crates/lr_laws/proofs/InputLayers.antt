-- The layers of the rows of input, and that each row that takes a packet is of one.
use Rattle.std.proofs.Common.{◌≡◌, Bool, true, false, nat_lt, cond, List, [], ◌∷◌, eqb, sym, ap, refl, ◌∙◌, arith}
use Rattle.std.specs.Prelude.{◌&&◌, ◌||◌, not, slice_get}
use Rattle.std.specs.List.{Contains}
use Rattle.std.specs.Option.{option_map_or}
use Rattle.std.proofs.lemmas.Bool.{false≢true, and_from, and_parts, eqb-true, or_left, or_right}
use Rattle.nv_base.specs.Block.{Block}
use Rattle.nv_base.specs.Ip4.{address}
use Rattle.nv_base.specs.declared.field.Field.TheVariants.{Inport, EthDst, IpProto, IpTtl, Ip4Src, Ip4Dst, ArpOp, ArpTpa, Icmp4Type, Icmp4Code}
use Rattle.nv_base.specs.declared.field.Prerequisite.TheVariants as needs
use Rattle.nv_base.specs.declared.ip4.Ip4.{Ip4}
use Rattle.pkt_core.specs.Packet.{Values, value}
use Rattle.pkt_core.specs.Prerequisite.{is_ip4, meets}
use Rattle.expr_core.specs.declared.predicate.Pred.TheVariants as is
use Rattle.expr_eval.specs.MatchMeaning.{holds}
use Rattle.nb_records.specs.declared.router.Router.{Router}
use Rattle.nb_records.specs.declared.router.RouterPort.{RouterPort}
use Rattle.nb_model.specs.Names.{names}
use Rattle.nb_model.specs.Network.{Network}
use Rattle.nb_router.specs.Vocabulary.{dnats, addresses_at}
use Rattle.sb_model.specs.Make.{drops, goes_on, is_port, is_predicate, one_of, steps, takes_each}
use Rattle.sb_model.specs.Stage.{stage_place}
use Rattle.sb_model.specs.declared.row.Row.{Row}
use Rattle.sb_model.specs.declared.stage.Stage.{Stage}
use Rattle.sb_model.specs.declared.stage.Stage.TheVariants.{LrInIpInput}
use Rattle.net_meaning.specs.Switches.{is_among_ips, is_request}
use Rattle.net_router.specs.Input.{first_address, is_echo_request, is_external, is_multicast_ip, is_of_no_host, is_own, is_refused}
use Rattle.net_rows.specs.Build.{vip_input}
use Rattle.net_rows.specs.Unit.{row_of, rule, unit_of, unit_of_datapath}
use Rattle.net_rows.specs.declared.rule.Rule.{Rule}
use Rattle.net_rows.specs.declared.rule.Unit.{Unit}
use Rattle.lr_rows.specs.Input.{echo_rule, input_rules, is_from_many, is_from_no_host, is_to_no_host, own_arp_rule, own_source_rule, router_in_rules}
use Rattle.lr_rows.specs.Make.{answers_arp, arp_rule_for}
use Rattle.lr_rows.specs.Nat.{router_nat_rules}
use Rattle.lr_units.specs.Units.{binding_input, nat_rule_input, neighbour_input, port_in_input, static_route_input, vip_addr_input}
use Rattle.lr_units.specs.Words.{free_addresses}
use Rattle.ls_laws.proofs.RuleStages.{rules_at}
use Rattle.tr_pipe.specs.Machine.{StageEnd, run_actions}
use Rattle.tr_pipe.specs.Tracking.{Flight}
use Rattle.lr_laws.specs.Steps.{CameIn, HasMac, IsOnRouter, IsPortOf}
use Rattle.lr_laws.proofs.ExternalAddresses.{external-from_rule, external-from_vip}
use Rattle.lr_laws.proofs.InputEnds.{dropped, echoes, expires, goes, is_unreachable, it_echoes, it_expires, it_goes, it_is_unreachable, it_replies, it_resets, replies, resets}
use Rattle.lr_laws.proofs.InputMatches.{arp_match, asking_match, echo_match, expiring_match, for_match, ip4_match, ip4_no_arp, many_match, own_arp_match, own_source_match, refused_match, reset_match, udp_no_tcp, unreachable_match}
use Rattle.lr_laws.proofs.Layers.{IsOfLayer, Layer, layer}
use Rattle.lr_laws.proofs.Members.{of_first, of_none}
use Rattle.lr_laws.proofs.OwnAddresses.{free-gives, own-from}
use Rattle.lr_laws.proofs.OwnRules.{binding_stage, is_of_hosts, is_of_routes, neighbour_stage, own_rule-gives, route_stage}
use Rattle.lr_laws.proofs.PortRules.{IsPortSays, expiring_rule, port_has_net, port_rule-gives, refusing_rule, reset_rule, stage_is, stage_said, unreachable_rule}
use Rattle.lr_laws.proofs.Ports.{at_port-gives, same_port}
use Rattle.lr_laws.proofs.StageLayers.{does}
use Rattle.lr_laws.proofs.Tables.{IsPortRule, IsRule, Translates, own_rules}
use Rattle.lr_laws.proofs.Tables.IsRule.{OfRouter, OfPort, OfRoute, OfBinding, OfNeighbour, OfTranslation}
use Rattle.lr_laws.proofs.Tables.Translates.{OfNat, OfVip, OfVipAddr}
use Rattle.lr_laws.proofs.TranslationRules.{IsNatSays, nat_rule-gives, vip_addr_rule-gives, vip_rule-gives}
use Rattle.lr_laws.proofs.TranslationRules.IsNatSays.{Answers, GivesBack, Hides, Redirects}

-- ---- the rules of a router

abbrev pub refused_rule : Rule
refused_rule = rule LrInIpInput 100 (one_of (is_from_many ∷ is_from_no_host ∷ is_to_no_host ∷ [])) drops

abbrev pub arp_rule : Rule
arp_rule = rule LrInIpInput 85 (is_predicate is.Arp) drops

abbrev pub many_rule : Rule
many_rule = rule LrInIpInput 50 (one_of (is_predicate is.EthBcast ∷ is_predicate is.Ip4Mcast ∷ [])) drops

abbrev pub ip4_rule : Rule
ip4_rule = rule LrInIpInput 10 (is_predicate is.Ip4) goes_on

abbrev pub last_rule : Rule
last_rule = rule LrInIpInput 0 takes_each drops

of_own : (dnats : Bool) → rules_at LrInIpInput (own_rules dnats) ≡ input_rules
unfolding router_nat_rules stage_place
of_own true = refl
of_own false = refl

pub of_input : rules_at LrInIpInput router_in_rules ≡ input_rules
unfolding stage_place
of_input = refl

abbrev is_input : Stage → Bool
is_input LrInIpInput = true
is_input _ = false

-- ---- truth values

-- of what is refused because of the packet's own fields, or because its source is the router's
from_fields : (ip4 fields own to : Bool) → (ip4 && (fields || to)) ≡ true → (ip4 && (fields || own || to)) ≡ true
from_fields false fields own to e = e
from_fields true true own to e = refl
from_fields true false true to e = refl
from_fields true false false to e = e

from_source : (ip4 fields own to : Bool) → ip4 ≡ true → own ≡ true → (ip4 && (fields || own || to)) ≡ true
from_source ip4 fields own to is its = and_from ip4 (fields || own || to) is (or_left (fields || own) to (or_right fields own its))

-- ---- the layers

-- a packet that came in by a port of a router, with the port's MAC
pub record Comes (net : Network) (router : Router) (flight : Flight) (port : RouterPort) : Type 0 where
  pub on : IsOnRouter net router flight.packet
  pub its : IsPortOf net router port
  pub at : CameIn port flight.packet
  pub has : HasMac port flight.packet

module _ (net : Network) (router : Router) (flight : Flight) (port : RouterPort) where
  abbrev packet : Values
  packet = flight.packet

  -- refused because of the packet's own fields
  abbrev pub by_fields : Bool
  by_fields = is_multicast_ip (value packet Ip4Src) || eqb (value packet Ip4Src) 0xffff_ffff || is_of_no_host (value packet Ip4Src)

  -- an ARP request for an address of the port, or for one that the router stands for
  abbrev pub stands_for : Bool
  stands_for = is_among_ips (value packet ArpTpa) (addresses_at port) || is_external net router.id (value packet ArpTpa)

  abbrev pub arp_asked : Bool
  arp_asked = is_request packet && stands_for

  -- to an address of the router
  abbrev pub to_own : Bool
  to_own = is_own net router.id (value packet Ip4Dst)

  abbrev pub echo_asked : Bool
  echo_asked = is_echo_request packet && to_own

  -- to one that is not external
  abbrev pub is_for_it : Bool
  is_for_it = is_ip4 packet && to_own && not (is_external net router.id (value packet Ip4Dst))

  abbrev pub is_service : Bool
  is_service = meets packet needs.Tcp || meets packet needs.Udp

  -- to all hosts, or to several
  abbrev pub to_many : Bool
  to_many = eqb (value packet EthDst) 0xffff_ffff_ffff || (is_ip4 packet && is_multicast_ip (value packet Ip4Dst))

  abbrev pub refused_layer : Layer StageEnd
  refused_layer = layer 100 (is_refused net router.id packet) (dropped port flight)

  abbrev pub answer_layer : Layer StageEnd
  answer_layer = layer 90 (arp_asked || echo_asked) (cond arp_asked (replies port flight) (echoes port flight))

  abbrev pub arp_layer : Layer StageEnd
  arp_layer = layer 85 (meets packet needs.Arp) (dropped port flight)

  abbrev pub service_layer : Layer StageEnd
  service_layer = layer 80 (is_for_it && is_service) (cond (meets packet needs.Tcp) (resets port flight) (is_unreachable port flight))

  abbrev pub own_layer : Layer StageEnd
  own_layer = layer 60 is_for_it (dropped port flight)

  abbrev pub many_layer : Layer StageEnd
  many_layer = layer 50 to_many (dropped port flight)

  abbrev pub expiring_layer : Layer StageEnd
  expiring_layer = layer 40 (is_ip4 packet && nat_lt (value packet IpTtl) 2) (expires port flight (first_address port))

  abbrev pub ip4_layer : Layer StageEnd
  ip4_layer = layer 10 (is_ip4 packet) (goes port flight)

  abbrev pub last_layer : Layer StageEnd
  last_layer = layer 0 true (dropped port flight)

  abbrev pub layers : List (Layer StageEnd)
  layers = refused_layer ∷ answer_layer ∷ arp_layer ∷ service_layer ∷ own_layer ∷ many_layer ∷ expiring_layer ∷ ip4_layer ∷ last_layer ∷ []

  module _ (here : Comes net router flight port) where
    abbrev OfLayer : Row → Type 0
    OfLayer row = IsOfLayer (does net router flight here.on LrInIpInput) layers row

    abbrev Takes : Row → Type 0
    Takes row = holds (names net) packet row.matching ≡ true

    -- a row of a rule is of a layer whose test holds, of the same priority, where the rule's actions do what the layer says
    in_layer : (l : Layer StageEnd) → Contains layers l → (row : Row) (unit : Unit) (says : Rule) → row ≡ row_of unit says → l.test ≡ true → says.priority ≡ l.priority
        → run_actions (names net) router.id LrInIpInput says.actions flight ≡ l.end → OfLayer row
    in_layer l there row unit says is test priority done =
        record { layer = l; among = there; holds = test; priority = ap (λ (r : Row). r.priority) is ∙ priority; done = ap (does net router flight here.on LrInIpInput) is ∙ done }

    -- and it takes the packet where the rule does
    of_rule : (row : Row) (unit : Unit) (says : Rule) → row ≡ row_of unit says → Takes row → holds (names net) packet says.matching ≡ true
    of_rule row unit says is takes = sym (ap (λ (r : Row). holds (names net) packet r.matching) is) ∙ takes

    -- the rules of the router
    by_own : (row : Row) (says : Rule) → row ≡ row_of (unit_of_datapath router.id) says → Takes row → Contains input_rules says → OfLayer row
    by_own row says is takes =
        of_first refused_rule (arp_rule ∷ many_rule ∷ ip4_rule ∷ last_rule ∷ []) says
        (λ same.
        in_layer refused_layer (0, omega arith, refl) row unit refused_rule (at_rule same)
        (from_fields (is_ip4 packet) by_fields (is_own net router.id (value packet Ip4Src)) (is_of_no_host (value packet Ip4Dst))
        (sym (refused_match (names net) packet here.on.formed) ∙ of_rule row unit refused_rule (at_rule same) takes)) refl refl)
        (of_first arp_rule (many_rule ∷ ip4_rule ∷ last_rule ∷ []) says
        (λ same. in_layer arp_layer (2, omega arith, refl) row unit arp_rule (at_rule same) (sym (arp_match (names net) packet here.on.formed) ∙ of_rule row unit arp_rule (at_rule same) takes) refl refl)
        (of_first many_rule (ip4_rule ∷ last_rule ∷ []) says
        (λ same. in_layer many_layer (5, omega arith, refl) row unit many_rule (at_rule same) (sym (many_match (names net) packet here.on.formed) ∙ of_rule row unit many_rule (at_rule same) takes) refl refl)
        (of_first ip4_rule (last_rule ∷ []) says
        (λ same.
        in_layer ip4_layer (7, omega arith, refl) row unit ip4_rule (at_rule same) (sym (ip4_match (names net) packet here.on.formed) ∙ of_rule row unit ip4_rule (at_rule same) takes) refl
        (it_goes port flight (names net) router.id here.on.formed.count here.at here.has))
        (of_first last_rule [] says (λ same. in_layer last_layer (8, omega arith, refl) row unit last_rule (at_rule same) refl refl refl) (of_none says)))))
      where
        unit : Unit
        unit = unit_of_datapath router.id

        at_rule : {r : Rule} → says ≡ r → row ≡ row_of unit r
        at_rule same = is ∙ ap (row_of unit) same

    -- a rule that answers ARP requests
    by_request : (row : Row) (unit : Unit) (says : Rule) → row ≡ row_of unit says → arp_asked ≡ true → says.priority ≡ 90 → says.actions ≡ steps answers_arp → OfLayer row
    by_request row unit says is asked priority actions =
        in_layer answer_layer (1, omega arith, refl) row unit says is (or_left arp_asked echo_asked asked) priority
        (ap (λ a. run_actions (names net) router.id LrInIpInput a flight) actions
        ∙ it_replies port flight (names net) router.id here.on.formed.count here.at here.has ∙ sym (ap (λ b. cond b (replies port flight) (echoes port flight)) asked))

    -- the rules of a port
    module _ (row : Row) (of : IsPortRule net router.id LrInIpInput row) (takes : Takes row) where
      abbrev unit : Unit
      unit = unit_of router.id of.port.id

      abbrev Is : Rule → Type 0
      Is says = row ≡ row_of unit says

      its_own : IsPortOf net router of.port
      its_own = (of.among, of.of_router)

      -- to an address of it
      to_it : is_among_ips (value packet Ip4Dst) (addresses_at of.port) ≡ true → to_own ≡ true
      to_it is = own-from net router (value packet Ip4Dst) of.port its_own is

      for_free : is_ip4 packet ≡ true → is_among_ips (value packet Ip4Dst) (free_addresses net of.port) ≡ true → is_for_it ≡ true
      for_free ip4 is =
          let free = free-gives net router (value packet Ip4Dst) of.port of.of_router is in
          and_from (is_ip4 packet && to_own) (not (is_external net router.id (value packet Ip4Dst))) (and_from (is_ip4 packet) to_own ip4 (to_it free.0)) free.1

      -- it is the port that the packet came in by
      same_one : holds (names net) packet (is_port Inport of.port.name) ≡ true → of.port ≡ port
      same_one takes_it = same_port net here.on.sound of.port port of.among here.its.0 (sym (at_port-gives net here.on.sound of.port of.among packet Inport refl takes_it) ∙ here.at)

      by_source : Is (own_source_rule (port_in_input net of.port)) → OfLayer row
      by_source is =
          let says = own_source_rule (port_in_input net of.port) in
          let parts =
          and_parts (is_ip4 packet) (is_among_ips (value packet Ip4Src) (addresses_at of.port)) (sym (own_source_match (names net) packet here.on.formed net of.port) ∙ of_rule row unit says is takes) in
          in_layer refused_layer (0, omega arith, refl) row unit says is
          (from_source (is_ip4 packet) by_fields (is_own net router.id (value packet Ip4Src)) (is_of_no_host (value packet Ip4Dst)) parts.0 (own-from net router (value packet Ip4Src) of.port its_own parts.1)) refl refl

      by_arp : Is (own_arp_rule (port_in_input net of.port)) → OfLayer row
      by_arp is =
          let says = own_arp_rule (port_in_input net of.port) in
          let parts =
          and_parts (holds (names net) packet (is_port Inport of.port.name)) (is_request packet && is_among_ips (value packet ArpTpa) (addresses_at of.port))
          (sym (own_arp_match (names net) packet here.on.formed net of.port) ∙ of_rule row unit says is takes) in
          let own = and_parts (is_request packet) (is_among_ips (value packet ArpTpa) (addresses_at of.port)) parts.1 in
          let has : is_among_ips (value packet ArpTpa) (addresses_at port) ≡ true = sym (ap (λ (p : RouterPort). is_among_ips (value packet ArpTpa) (addresses_at p)) (same_one parts.0)) ∙ own.1 in
          by_request row unit says is (and_from (is_request packet) stands_for own.0 (or_left (is_among_ips (value packet ArpTpa) (addresses_at port)) (is_external net router.id (value packet ArpTpa)) has)) refl refl

      by_echo : Is (echo_rule (port_in_input net of.port)) → OfLayer row
      by_echo is =
          let says = echo_rule (port_in_input net of.port) in
          let parts = and_parts (is_echo_request packet) (is_among_ips (value packet Ip4Dst) (addresses_at of.port)) (sym (echo_match (names net) packet here.on.formed net of.port) ∙ of_rule row unit says is takes) in
          let of_type = and_parts (meets packet needs.Icmp4 && eqb (value packet Icmp4Type) 8) (eqb (value packet Icmp4Code) 0) parts.0 in
          let of_icmp = and_parts (meets packet needs.Icmp4) (eqb (value packet Icmp4Type) 8) of_type.0 in
          let ip4 = and_parts (is_ip4 packet) (eqb (value packet IpProto) 1) of_icmp.0 in
          let no_arp : arp_asked ≡ false = ap (λ b. b && eqb (value packet ArpOp) 1 && stands_for) (ip4_no_arp packet ip4.0) in
          in_layer answer_layer (1, omega arith, refl) row unit says is (or_right arp_asked echo_asked (and_from (is_echo_request packet) to_own parts.0 (to_it parts.1))) refl
          (it_echoes port flight (names net) router.id here.on.formed.count here.at here.has ∙ sym (ap (λ b. cond b (replies port flight) (echoes port flight)) no_arp))

      -- of a service
      abbrev served : Bool → StageEnd
      served tcp = cond tcp (resets port flight) (is_unreachable port flight)

      by_reset : Is (reset_rule (free_addresses net of.port)) → OfLayer row
      by_reset is =
          let addrs = free_addresses net of.port in
          let parts =
          and_parts (is_ip4 packet && is_among_ips (value packet Ip4Dst) addrs) (meets packet needs.Tcp) (sym (reset_match (names net) packet here.on.formed addrs) ∙ of_rule row unit (reset_rule addrs) is takes) in
          let to = and_parts (is_ip4 packet) (is_among_ips (value packet Ip4Dst) addrs) parts.0 in
          in_layer service_layer (3, omega arith, refl) row unit (reset_rule addrs) is
          (and_from is_for_it is_service (for_free to.0 to.1) (or_left (meets packet needs.Tcp) (meets packet needs.Udp) parts.1)) refl
          (it_resets port flight (names net) router.id here.on.formed.count here.at here.has parts.1 ∙ sym (ap served parts.1))

      by_unreachable : Is (unreachable_rule (free_addresses net of.port)) → OfLayer row
      by_unreachable is =
          let addrs = free_addresses net of.port in
          let parts =
          and_parts (is_ip4 packet && is_among_ips (value packet Ip4Dst) addrs) (meets packet needs.Udp)
          (sym (unreachable_match (names net) packet here.on.formed addrs) ∙ of_rule row unit (unreachable_rule addrs) is takes) in
          let to = and_parts (is_ip4 packet) (is_among_ips (value packet Ip4Dst) addrs) parts.0 in
          in_layer service_layer (3, omega arith, refl) row unit (unreachable_rule addrs) is
          (and_from is_for_it is_service (for_free to.0 to.1) (or_right (meets packet needs.Tcp) (meets packet needs.Udp) parts.1)) refl
          (it_is_unreachable port flight (names net) router.id here.on.formed.count here.at here.has ∙ sym (ap served (udp_no_tcp packet parts.1)))

      by_refusal : Is (refusing_rule (free_addresses net of.port)) → OfLayer row
      by_refusal is =
          let addrs = free_addresses net of.port in
          let to =
          and_parts (is_ip4 packet) (is_among_ips (value packet Ip4Dst) addrs) (sym (for_match (names net) packet here.on.formed addrs) ∙ of_rule row unit (refusing_rule addrs) is takes) in
          in_layer own_layer (4, omega arith, refl) row unit (refusing_rule addrs) is (for_free to.0 to.1) refl refl

      by_expiry : (first : Block) (rest : List Block) → of.port.nets ≡ first ∷ rest → Is (expiring_rule of.port.name first.base) → OfLayer row
      by_expiry first rest nets is =
          let says = expiring_rule of.port.name first.base in
          let parts =
          and_parts (holds (names net) packet (is_port Inport of.port.name)) (is_ip4 packet && nat_lt (value packet IpTtl) 2)
          (sym (expiring_match (names net) packet here.on.formed of.port.name first.base) ∙ of_rule row unit says is takes) in
          let its_nets : first ∷ rest ≡ port.nets = sym nets ∙ ap (λ (p : RouterPort). p.nets) (same_one parts.0) in
          let from : first.base ≡ first_address port = ap (λ (ns : List Block). option_map_or (λ (own : Block). own.base) (slice_get ns 0) (address 0)) its_nets in
          in_layer expiring_layer (6, omega arith, refl) row unit says is parts.1 refl (it_expires port flight (names net) router.id here.on.formed.count here.at here.has first.base ∙ ap (expires port flight) from)

      by_port : (said : IsPortSays net of.port of.says) → is_input (stage_said said) ≡ true → OfLayer row
      by_port (IsPortSays.OwnSource is) stage = by_source (of.is ∙ ap (row_of unit) is)
      by_port (IsPortSays.OwnArp is) stage = by_arp (of.is ∙ ap (row_of unit) is)
      by_port (IsPortSays.Echoes is) stage = by_echo (of.is ∙ ap (row_of unit) is)
      by_port (IsPortSays.Resets is) stage = by_reset (of.is ∙ ap (row_of unit) is)
      by_port (IsPortSays.Unreachable is) stage = by_unreachable (of.is ∙ ap (row_of unit) is)
      by_port (IsPortSays.Refuses is) stage = by_refusal (of.is ∙ ap (row_of unit) is)
      by_port (IsPortSays.Expires first rest nets is) stage = by_expiry first rest nets (of.is ∙ ap (row_of unit) is)
      by_port (IsPortSays.Admits enabled is) stage = absurd (false≢true stage)
      by_port (IsPortSays.Learns is) stage = absurd (false≢true stage)
      by_port (IsPortSays.OwnAddress is) stage = absurd (false≢true stage)
      by_port (IsPortSays.ToNetwork own there is) stage = absurd (false≢true stage)
      by_port (IsPortSays.DeliversTo enabled is) stage = absurd (false≢true stage)

    -- the rules of an external address
    by_asking : (row : Row) (unit : Unit) (addr : Ip4) → is_external net router.id addr.0 ≡ true → row ≡ row_of unit (arp_rule_for addr) → Takes row → OfLayer row
    by_asking row unit addr external is takes =
        let says = arp_rule_for addr in
        let parts = and_parts (is_request packet) (eqb (value packet ArpTpa) addr.0) (sym (asking_match (names net) packet here.on.formed addr) ∙ of_rule row unit says is takes) in
        let stands = ap (is_external net router.id) (eqb-true (value packet ArpTpa) addr.0 parts.1) ∙ external in
        by_request row unit says is (and_from (is_request packet) stands_for parts.0 (or_right (is_among_ips (value packet ArpTpa) (addresses_at port)) (is_external net router.id (value packet ArpTpa)) stands)) refl refl

    -- those by which a router translates
    by_translation : (row : Row) → Translates net router.id LrInIpInput row → Takes row → OfLayer row
    by_translation row (OfNat of) takes = by (nat_rule-gives (nat_rule_input of.nat) of.says of.in_rules)
      where
        elsewhere : (other : Rule) → of.says ≡ other → is_input other.stage ≡ false → OfLayer row
        elsewhere other is apart = absurd (false≢true (sym apart ∙ ap (λ (r : Rule). is_input r.stage) (sym is) ∙ ap is_input of.of_stage))

        by : IsNatSays (nat_rule_input of.nat) of.says → OfLayer row
        by (Answers is) = by_asking row (unit_of router.id of.nat.id) of.nat.external (external-from_rule net router.id of.nat of.among) (of.is ∙ ap (row_of (unit_of router.id of.nat.id)) is) takes
        by (GivesBack changes is) = elsewhere _ is refl
        by (Hides changes is) = elsewhere _ is refl
        by (Redirects changes is) = elsewhere _ is refl
    by_translation row (OfVip of) takes =
        absurd (false≢true (ap (λ (r : Rule). is_input r.stage) (sym (vip_rule-gives (vip_input of.lb of.vip) of.says of.in_rules).is) ∙ ap is_input of.of_stage))
    by_translation row (OfVipAddr of) takes =
        by_asking row (unit_of router.id of.lb.id) of.addr (external-from_vip net router.id of.lb of.among of.addr of.in_lb)
        (of.is ∙ ap (row_of (unit_of router.id of.lb.id)) (vip_addr_rule-gives (vip_addr_input of.addr) of.says of.in_rules)) takes

    -- each row of the table that takes the packet is of a layer
    pub taker : (row : Row) → IsRule net router.id LrInIpInput row → Takes row → OfLayer row
    taker row (OfRouter of) takes = by_own row of.says of.is takes (own_rule-gives LrInIpInput input_rules of.says (dnats net router.id) of_own of.in_rules of.of_stage)
    taker row (OfPort of) takes =
        let said = port_rule-gives net of.port (port_has_net net here.on.sound of.port of.among) of.says of.in_rules in
        by_port row of takes said (ap is_input (sym (stage_is net of.port of.says said) ∙ of.of_stage))
    taker row (OfRoute of) takes = absurd (false≢true (ap is_of_routes (sym of.of_stage) ∙ route_stage (static_route_input net of.route) of.says of.in_rules))
    taker row (OfBinding of) takes = absurd (false≢true (ap is_of_hosts (sym of.of_stage) ∙ binding_stage (binding_input of.port of.binding) of.says of.in_rules))
    taker row (OfNeighbour of) takes = absurd (false≢true (ap is_of_hosts (sym of.of_stage) ∙ neighbour_stage (neighbour_input net of.port of.other) of.says of.in_rules))
    taker row (OfTranslation of) takes = by_translation row of takes
