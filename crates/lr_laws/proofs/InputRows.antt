-- Each layer of the rows of input whose test holds has a row that takes the packet.
use Rattle.std.proofs.Common.{◌≡◌, Bool, true, false, nat_lt, List, sym, refl, ◌∙◌, arith}
use Rattle.std.specs.Prelude.{◌&&◌, ◌||◌, not}
use Rattle.std.specs.List.{Contains}
use Rattle.std.proofs.lemmas.Bool.{false≢true, and_from, and_parts, eq-eqb}
use Rattle.nv_base.specs.declared.field.Field.TheVariants.{Inport, IpTtl, Ip4Src, Ip4Dst, ArpTpa}
use Rattle.nv_base.specs.declared.field.Prerequisite.TheVariants as needs
use Rattle.nv_base.specs.declared.ip4.Ip4.{Ip4}
use Rattle.pkt_core.specs.Packet.{Values, value}
use Rattle.pkt_core.specs.Prerequisite.{is_ip4, meets}
use Rattle.expr_eval.specs.MatchMeaning.{holds}
use Rattle.nb_records.specs.declared.router.Router.{Router}
use Rattle.nb_records.specs.declared.router.RouterPort.{RouterPort}
use Rattle.nb_model.specs.Applies.{is_empty}
use Rattle.nb_model.specs.Names.{names}
use Rattle.nb_model.specs.Network.{Network}
use Rattle.nb_router.specs.Vocabulary.{addresses_at}
use Rattle.sb_model.specs.Make.{is_port}
use Rattle.sb_model.specs.declared.stage.Stage.TheVariants.{LrInIpInput}
use Rattle.net_meaning.specs.Switches.{is_among_ips, is_request}
use Rattle.net_router.specs.Input.{is_echo_request, is_external, is_of_no_host, is_own, is_refused}
use Rattle.net_rows.specs.Unit.{row_of, unit_of, unit_of_datapath}
use Rattle.net_rows.specs.declared.rule.Rule.{Rule}
use Rattle.lr_rows.specs.Input.{echo_rule, input_rules, own_arp_rule, own_source_rule, port_in_rules, router_in_rules}
use Rattle.lr_rows.specs.Make.{arp_rule_for}
use Rattle.lr_units.specs.Units.{nat_rule_input, port_in_input, vip_addr_input}
use Rattle.lr_units.specs.Words.{free_addresses}
use Rattle.ls_laws.proofs.RuleStages.{from_rules_at}
use Rattle.tr_pipe.specs.Machine.{StageEnd}
use Rattle.tr_pipe.specs.Tracking.{Flight}
use Rattle.lr_laws.specs.Steps.{IsPortOf}
use Rattle.lr_laws.proofs.ExternalAddresses.{HasExternal, external-gives}
use Rattle.lr_laws.proofs.ExternalAddresses.HasExternal.{ByRule, ByVip}
use Rattle.lr_laws.proofs.InputLayers.{Comes, answer_layer, arp_asked, arp_layer, arp_rule, by_fields, echo_asked, expiring_layer, ip4_layer, ip4_rule, is_for_it, is_service, last_layer, last_rule, layers, many_layer, many_rule, of_input, own_layer, refused_layer, refused_rule, service_layer, stands_for, to_own}
use Rattle.lr_laws.proofs.InputMatches.{arp_match, asking_match, echo_match, expiring_match, for_match, ip4_match, many_match, own_arp_match, own_source_match, refused_match, reset_match, unreachable_match}
use Rattle.lr_laws.proofs.Layers.{Layer}
use Rattle.lr_laws.proofs.OwnAddresses.{HasAddress, free-from, not_empty, own-gives}
use Rattle.lr_laws.proofs.PortRules.{HasNet, echoes-from, expires-from, expiring_rule, own_arp-from, own_source-from, port_has_net, refuses-from, refusing_rule, reset_rule, resets-from, unreachable-from, unreachable_rule}
use Rattle.lr_laws.proofs.Ports.{at_port-from}
use Rattle.lr_laws.proofs.StageLayers.{HasRow, HaveRows, have_rows}
use Rattle.lr_laws.proofs.Tables.{nat_of, rows-nat, rows-port_in, rows-router_in, rows-vip_addr}
use Rattle.lr_laws.proofs.TranslationRules.{answering-from, vip_addr_rule-from}

-- what is refused, but not because its source is the router's, is refused because of its own fields
no_source : (ip4 fields own to : Bool) → own ≡ false → (ip4 && (fields || own || to)) ≡ true → (ip4 && (fields || to)) ≡ true
no_source false fields own to none e = e
no_source true fields true to none e = absurd (false≢true (sym none))
no_source true true false to none e = refl
no_source true false false to none e = e

-- and what is refused because of its source
its_source : (ip4 fields own to : Bool) → (ip4 && (fields || own || to)) ≡ true → ip4 ≡ true
its_source true fields own to e = refl
its_source false fields own to e = e

module _ (net : Network) (router : Router) (flight : Flight) (port : RouterPort) (here : Comes net router flight port) where
  abbrev packet : Values
  packet = flight.packet

  abbrev Row_of : Layer StageEnd → Type 0
  Row_of = HasRow net router flight here.on LrInIpInput

  abbrev Holds : Rule → Type 0
  Holds says = holds (names net) packet says.matching ≡ true

  -- of a rule of the router
  own_row : (says : Rule) → Contains input_rules says → says.stage ≡ LrInIpInput → Holds says → (l : Layer StageEnd) → says.priority ≡ l.priority → Row_of l
  own_row says there of_stage takes l priority =
      record {
        row = row_of (unit_of_datapath router.id) says;
        among = rows-router_in net router says here.on.among (from_rules_at LrInIpInput router_in_rules input_rules says of_input there);
        of_dp = refl;
        of_stage = of_stage;
        takes = takes;
        priority = priority;
      }

  -- of a rule of one of its ports
  port_row : (p : RouterPort) → IsPortOf net router p → (says : Rule) → Contains (port_in_rules (port_in_input net p)) says → says.stage ≡ LrInIpInput → Holds says → (l : Layer StageEnd) → says.priority ≡ l.priority → Row_of l
  port_row p its says there of_stage takes l priority =
      record {
        row = row_of (unit_of p.router p.id) says;
        among = rows-port_in net p says its.0 there;
        of_dp = its.1;
        of_stage = of_stage;
        takes = takes;
        priority = priority;
      }

  nets_of : (p : RouterPort) → IsPortOf net router p → HasNet p.nets
  nets_of p its = port_has_net net here.on.sound p its.0

  refused_row : is_refused net router.id packet ≡ true → Row_of (refused_layer net router flight port)
  refused_row test = by (is_own net router.id (value packet Ip4Src)) refl
    where
      by : (own : Bool) → is_own net router.id (value packet Ip4Src) ≡ own → Row_of (refused_layer net router flight port)
      by true is =
          let found : HasAddress net router (value packet Ip4Src) = own-gives net router (value packet Ip4Src) is in
          let ip4 = its_source (is_ip4 packet) (by_fields net router flight port) (is_own net router.id (value packet Ip4Src)) (is_of_no_host (value packet Ip4Dst)) test in
          port_row found.port found.its (own_source_rule (port_in_input net found.port)) (own_source-from net found.port (nets_of found.port found.its)) refl
          (own_source_match (names net) packet here.on.formed net found.port ∙ and_from _ _ ip4 found.has) (refused_layer net router flight port) refl
      by false is =
          own_row refused_rule (0, omega arith, refl) refl
          (refused_match (names net) packet here.on.formed
          ∙ no_source (is_ip4 packet) (by_fields net router flight port) (is_own net router.id (value packet Ip4Src)) (is_of_no_host (value packet Ip4Dst)) is test) (refused_layer net router flight port) refl

  -- an address for which a NAT rule or a load balancer has a rule
  external_row : HasExternal net router.id (value packet ArpTpa) → is_request packet ≡ true → Row_of (answer_layer net router flight port)
  external_row (ByRule nat among number) request =
      let its = nat_of net router.id nat among in
      record {
        row = row_of (unit_of nat.router nat.id) (arp_rule_for nat.external);
        among = rows-nat net nat (arp_rule_for nat.external) its.0 (answering-from (nat_rule_input nat));
        of_dp = its.1;
        of_stage = refl;
        takes = asking_match (names net) packet here.on.formed nat.external ∙ and_from (is_request packet) _ request (eq-eqb (value packet ArpTpa) nat.external.0 (sym number));
        priority = refl;
      }
  external_row (ByVip lb attached addr in_lb number) request =
      record {
        row = row_of (unit_of router.id lb.id) (arp_rule_for addr);
        among = rows-vip_addr net router lb addr (arp_rule_for addr) here.on.among attached in_lb (vip_addr_rule-from (vip_addr_input addr));
        of_dp = refl;
        of_stage = refl;
        takes = asking_match (names net) packet here.on.formed addr ∙ and_from (is_request packet) _ request (eq-eqb (value packet ArpTpa) addr.0 (sym number));
        priority = refl;
      }

  request_row : arp_asked net router flight port ≡ true → Row_of (answer_layer net router flight port)
  request_row test = let parts = and_parts (is_request packet) (stands_for net router flight port) test in by (is_among_ips (value packet ArpTpa) (addresses_at port)) refl parts.0 parts.1
    where
      by : (own : Bool) → is_among_ips (value packet ArpTpa) (addresses_at port) ≡ own → is_request packet ≡ true → (own || is_external net router.id (value packet ArpTpa)) ≡ true → Row_of (answer_layer net router flight port)
      by true is request some =
          port_row port here.its (own_arp_rule (port_in_input net port)) (own_arp-from net port (nets_of port here.its)) refl
          (own_arp_match (names net) packet here.on.formed net port
          ∙ and_from (holds (names net) packet (is_port Inport port.name)) (is_request packet && is_among_ips (value packet ArpTpa) (addresses_at port)) (at_port-from net here.on.sound port here.its.0 packet Inport refl here.at)
          (and_from (is_request packet) (is_among_ips (value packet ArpTpa) (addresses_at port)) request is))
          (answer_layer net router flight port) refl
      by false is request external = external_row (external-gives net router.id (value packet ArpTpa) external) request

  answer_row : (arp_asked net router flight port || echo_asked net router flight port) ≡ true → Row_of (answer_layer net router flight port)
  answer_row test = by (arp_asked net router flight port) refl test
    where
      by : (asked : Bool) → arp_asked net router flight port ≡ asked → (asked || echo_asked net router flight port) ≡ true → Row_of (answer_layer net router flight port)
      by true is some = request_row is
      by false is echo =
          let parts = and_parts (is_echo_request packet) (to_own net router flight port) echo in
          let found : HasAddress net router (value packet Ip4Dst) = own-gives net router (value packet Ip4Dst) parts.1 in
          port_row found.port found.its (echo_rule (port_in_input net found.port)) (echoes-from net found.port (nets_of found.port found.its)) refl
          (echo_match (names net) packet here.on.formed net found.port ∙ and_from _ _ parts.0 found.has) (answer_layer net router flight port) refl

  -- a port to an address of which the packet is, and this address is free
  record IsTo : Type 0 where
    owner : RouterPort
    its : IsPortOf net router owner
    has : is_among_ips (value packet Ip4Dst) (free_addresses net owner) ≡ true
    some : is_empty (free_addresses net owner) ≡ false

  to_port : to_own net router flight port ≡ true → not (is_external net router.id (value packet Ip4Dst)) ≡ true → IsTo
  to_port own apart =
      let found : HasAddress net router (value packet Ip4Dst) = own-gives net router (value packet Ip4Dst) own in
      let has = free-from net router (value packet Ip4Dst) found.port found.its.1 found.has apart in
      record { owner = found.port; its = found.its; has = has; some = not_empty (value packet Ip4Dst) (free_addresses net found.port) has }

  -- it is IPv4
  record IsForIt : Type 0 where
    ip4 : is_ip4 packet ≡ true
    to : IsTo

  for_it : is_for_it net router flight port ≡ true → IsForIt
  for_it test =
      let parts = and_parts (is_ip4 packet && to_own net router flight port) (not (is_external net router.id (value packet Ip4Dst))) test in
      let own = and_parts (is_ip4 packet) (to_own net router flight port) parts.0 in
      record { ip4 = own.0; to = to_port own.1 parts.1 }

  service_row : (is_for_it net router flight port && is_service net router flight port) ≡ true → Row_of (service_layer net router flight port)
  service_row test = by (meets packet needs.Tcp) refl parts.1
    where
      parts : (is_for_it net router flight port ≡ true) × (is_service net router flight port ≡ true)
      parts = and_parts (is_for_it net router flight port) (is_service net router flight port) test

      it : IsForIt
      it = for_it parts.0

      found : IsTo
      found = it.to

      addrs : List Ip4
      addrs = free_addresses net found.owner

      to_it : (is_ip4 packet && is_among_ips (value packet Ip4Dst) (free_addresses net found.owner)) ≡ true
      to_it = and_from _ _ it.ip4 found.has

      by : (tcp : Bool) → meets packet needs.Tcp ≡ tcp → (tcp || meets packet needs.Udp) ≡ true → Row_of (service_layer net router flight port)
      by true is some =
          port_row found.owner found.its (reset_rule (free_addresses net found.owner)) (resets-from net found.owner (nets_of found.owner found.its) found.some) refl
          (reset_match (names net) packet here.on.formed (free_addresses net found.owner) ∙ and_from _ _ to_it is) (service_layer net router flight port) refl
      by false is udp =
          port_row found.owner found.its (unreachable_rule (free_addresses net found.owner)) (unreachable-from net found.owner (nets_of found.owner found.its) found.some) refl
          (unreachable_match (names net) packet here.on.formed (free_addresses net found.owner) ∙ and_from _ _ to_it udp) (service_layer net router flight port) refl

  refusing_row : is_for_it net router flight port ≡ true → Row_of (own_layer net router flight port)
  refusing_row test =
      let it : IsForIt = for_it test in
      let found : IsTo = it.to in
      port_row found.owner found.its (refusing_rule (free_addresses net found.owner)) (refuses-from net found.owner (nets_of found.owner found.its) found.some) refl
      (for_match (names net) packet here.on.formed (free_addresses net found.owner) ∙ and_from _ _ it.ip4 found.has) (own_layer net router flight port) refl

  expiring_row : (is_ip4 packet && nat_lt (value packet IpTtl) 2) ≡ true → Row_of (expiring_layer net router flight port)
  expiring_row test =
      let nets : HasNet port.nets = nets_of port here.its in
      port_row port here.its (expiring_rule port.name nets.first.base) (expires-from net port nets) refl
      (expiring_match (names net) packet here.on.formed port.name nets.first.base
      ∙ and_from (holds (names net) packet (is_port Inport port.name)) (is_ip4 packet && nat_lt (value packet IpTtl) 2) (at_port-from net here.on.sound port here.its.0 packet Inport refl here.at) test)
      (expiring_layer net router flight port) refl

  pub rows_are : HaveRows net router flight here.on LrInIpInput (layers net router flight port)
  rows_are =
      have_rows net router flight here.on LrInIpInput (layers net router flight port) (
        refused_row,
        (
          answer_row,
          (
            (λ test. own_row arp_rule (1, omega arith, refl) refl (arp_match (names net) packet here.on.formed ∙ test) (arp_layer net router flight port) refl),
            (
              service_row,
              (
                refusing_row,
                (
                  (λ test. own_row many_rule (2, omega arith, refl) refl (many_match (names net) packet here.on.formed ∙ test) (many_layer net router flight port) refl),
                  (
                    expiring_row,
                    (
                      (λ test. own_row ip4_rule (3, omega arith, refl) refl (ip4_match (names net) packet here.on.formed ∙ test) (ip4_layer net router flight port) refl),
                      ((λ test. own_row last_rule (4, omega arith, refl) refl refl (last_layer net router flight port) refl), tt),
                    ),
                  ),
                ),
              ),
            ),
          ),
        ),
      )
