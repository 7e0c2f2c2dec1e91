-- The rules of the addresses of a port: those of ARP replies, and those of the lookup.
use Rattle.std.proofs.Common.{◌≡◌, ℕ, Bool, true, false, cond, List, [], ◌∷◌, ◌++◌, map, eqb, sym, refl, ◌∙◌, subst, ◌⊎◌, inl, inr}
use Rattle.std.specs.Prelude.{◌&&◌, Option, Some, None, option_map}
use Rattle.std.specs.List.{Contains, flat_map, list_any}
use Rattle.std.proofs.lemmas.Bool.{false≢true, eqb-true}
use Rattle.std.proofs.lemmas.List.Elements.{Contains-append_left, Contains-append_right, Contains-append_cases}
use Rattle.nv_base.specs.declared.ip4.Ip4.{Ip4}
use Rattle.nv_base.specs.declared.field.Field.TheVariants.{Inport}
use Rattle.nb_records.specs.declared.router.RouterPort.{RouterPort}
use Rattle.nb_records.specs.declared.switch.Addr.{Addr}
use Rattle.nb_records.specs.declared.switch.Addr.TheVariants as addr
use Rattle.nb_records.specs.declared.switch.Port.{Port}
use Rattle.nb_model.specs.Addresses.{macs}
use Rattle.nb_model.specs.Belongs.{is_router_kind, is_to_router, peer_router_port}
use Rattle.nb_model.specs.Network.{Network}
use Rattle.nb_model.specs.Ports.{is_router_word}
use Rattle.net_meaning.specs.Switches.{all_macs, mac_of_peer}
use Rattle.sb_model.specs.Make.{all_of, goes_on, is_port, steps}
use Rattle.sb_model.specs.declared.stage.Stage.TheVariants.{LsInArpRsp}
use Rattle.net_rows.specs.Build.{acl_rules_of_port, port_sec_input, port_l2_input, port_rules}
use Rattle.net_rows.specs.Lookup.{requests, answers, arp_rules, arp_rules_of, lookup_rule, more_macs, looked_up, host_rules, port_l2_rules}
use Rattle.net_rows.specs.PortSecurity.{port_sec_rules}
use Rattle.net_rows.specs.Unit.{rule}
use Rattle.net_rows.specs.declared.inputs.PortL2Input.{PortL2Input}
use Rattle.net_rows.specs.declared.rule.Rule.{Rule}
use Rattle.net_rows.proofs.Elements.{any_gives, one_of, one_of_none, one_first, one_later, Contains-from_map, Contains-map, Contains-from_flat_map, Contains-flat_map}
use Rattle.ls_laws.proofs.RuleStages.{the_only, is_before_addresses, later_rules, port_rule_parts}

-- ---- the MACs that are looked up

module _ (mac : ℕ) (own : List ℕ) where
  -- the MAC of a peer is looked up once, where the port has it not itself
  abbrev more : Option RouterPort → List ℕ
  more peer = more_macs (option_map (λ (p : RouterPort). p.mac) peer) own

  more-gives : (peer : Option RouterPort) → Contains (more peer) mac → Contains (mac_of_peer peer) mac
  more-gives None at = at
  more-gives (Some peer) at = by (list_any (λ (m : ℕ). eqb m peer.mac) own) at
    where
      by : (b : Bool) → Contains (cond b [] (peer.mac ∷ [])) mac → Contains (peer.mac ∷ []) mac
      by true none = absurd (one_of_none mac none)
      by false it = it

  more-from : (peer : Option RouterPort) → Contains (mac_of_peer peer) mac → Contains own mac ⊎ Contains (more peer) mac
  more-from None at = inr at
  more-from (Some peer) at = by (list_any (λ (m : ℕ). eqb m peer.mac) own) refl
    where
      by : (b : Bool) → list_any (λ (m : ℕ). eqb m peer.mac) own ≡ b → Contains own mac ⊎ Contains (cond b [] (peer.mac ∷ [])) mac
      by true has =
          let found = any_gives (λ (m : ℕ). eqb m peer.mac) own has in
          inl (subst (λ m. Contains own m) (eqb-true found.0 peer.mac found.2 ∙ sym (the_only peer.mac mac at)) found.1)
      by false none = inr at

-- the MACs that are looked up are those of the port
module _ (net : Network) (port : Port) (mac : ℕ) where
  abbrev of_peer : List ℕ
  of_peer = mac_of_peer (peer_router_port net port)

  abbrev not_own : List ℕ
  not_own = more mac (macs port) (peer_router_port net port)

  abbrev asks_peer : Bool
  asks_peer = is_to_router port && list_any is_router_word port.addresses

  looked_up-gives : Contains (looked_up (port_l2_input net port)) mac → Contains (all_macs net port) mac
  looked_up-gives at = by asks_peer at
    where
      of : Contains (macs port) mac ⊎ Contains not_own mac → Contains (macs port ++ of_peer) mac
      of (inl own) = Contains-append_left (macs port) of_peer mac own
      of (inr other) = Contains-append_right (macs port) of_peer mac (more-gives mac (macs port) (peer_router_port net port) other)

      by : (b : Bool) → Contains (macs port ++ cond b not_own []) mac → Contains (macs port ++ cond b of_peer []) mac
      by true there = of (Contains-append_cases (macs port) not_own mac there)
      by false there = there

  looked_up-from : Contains (all_macs net port) mac → Contains (looked_up (port_l2_input net port)) mac
  looked_up-from at = by asks_peer at
    where
      either : Contains (macs port) mac ⊎ Contains not_own mac → Contains (macs port ++ not_own) mac
      either (inl own) = Contains-append_left (macs port) not_own mac own
      either (inr other) = Contains-append_right (macs port) not_own mac other

      of : Contains (macs port) mac ⊎ Contains of_peer mac → Contains (macs port ++ not_own) mac
      of (inl own) = Contains-append_left (macs port) not_own mac own
      of (inr peer) = either (more-from mac (macs port) (peer_router_port net port) peer)

      by : (b : Bool) → Contains (macs port ++ cond b of_peer []) mac → Contains (macs port ++ cond b not_own []) mac
      by true there = of (Contains-append_cases (macs port) of_peer mac there)
      by false there = there

-- ---- the rules

-- the rules for an IPv4 address of a host: its own request goes on, and that of others is answered
abbrev pub own_rule : List ℕ → Ip4 → Rule
own_rule name ip = rule LsInArpRsp 100 (all_of (is_port Inport name ∷ requests ip)) goes_on

abbrev pub answer_rule : ℕ → Ip4 → Rule
answer_rule mac ip = rule LsInArpRsp 50 (all_of (requests ip)) (steps (answers mac ip))

module _ (net : Network) (port : Port) where
  -- an IPv4 address of the port, and the MAC that it goes with
  pub record HasAddress (mac : ℕ) (ip : Ip4) : Type 0 where
    pub ips : List Ip4
    pub address : Contains port.addresses (addr.Host mac ips)
    pub among : Contains ips ip

  -- what a rule of the addresses of the port is: only a host is answered for
  pub data IsAddressRule (says : Rule) : Type 0 where
    Own : is_to_router port ≡ false → (mac : ℕ) (ip : Ip4) → HasAddress mac ip → says ≡ own_rule port.name ip → IsAddressRule says
    Asked : is_to_router port ≡ false → (mac : ℕ) (ip : Ip4) → HasAddress mac ip → says ≡ answer_rule mac ip → IsAddressRule says
    ForMac : (mac : ℕ) → Contains (all_macs net port) mac → says ≡ lookup_rule port.name mac → IsAddressRule says

  abbrev input : PortL2Input
  input = port_l2_input net port

  module _ (says : Rule) where
    from_address : is_to_router port ≡ false → (address : Addr) → Contains port.addresses address → Contains (arp_rules_of port.name address) says → IsAddressRule says
    from_address host addr.Unknown among at = absurd (one_of_none says at)
    from_address host addr.Router among at = absurd (one_of_none says at)
    from_address host (addr.Host mac ips) among at =
        let ip = Contains-from_flat_map (arp_rules port.name mac) ips says at in
        by ip.0 ip.1 (one_of (own_rule port.name ip.0) (answer_rule mac ip.0 ∷ []) says ip.2)
      where
        by : (ip : Ip4) → Contains ips ip → (own_rule port.name ip ≡ says) ⊎ Contains (answer_rule mac ip ∷ []) says → IsAddressRule says
        by ip in_ips (inl same) = Own host mac ip (record { ips = ips; address = among; among = in_ips }) (sym same)
        by ip in_ips (inr later) = Asked host mac ip (record { ips = ips; address = among; among = in_ips }) (the_only (answer_rule mac ip) says later)

    from_hosts : (router : Bool) → is_to_router port ≡ router → Contains (cond router [] (flat_map (arp_rules_of port.name) port.addresses)) says → IsAddressRule says
    from_hosts true is at = absurd (one_of_none says at)
    from_hosts false host at = let address = Contains-from_flat_map (arp_rules_of port.name) port.addresses says at in from_address host address.0 address.1 address.2

    from_macs : Contains (map (lookup_rule port.name) (looked_up input)) says → IsAddressRule says
    from_macs at =
        let mac = Contains-from_map (lookup_rule port.name) (looked_up input) says at in
        ForMac mac.0 (looked_up-gives net port mac.0 mac.1) (sym mac.2)

    from_l2 : Contains (port_l2_rules input) says → (port.enabled ≡ true) × IsAddressRule says
    unfolding port_l2_rules
    from_l2 there = by port.enabled refl there
      where
        parts : Contains (host_rules input) says ⊎ Contains (map (lookup_rule port.name) (looked_up input)) says → IsAddressRule says
        parts (inl at) = from_hosts (is_router_kind port.kind) refl at
        parts (inr at) = from_macs at

        by : (b : Bool) → port.enabled ≡ b → Contains (cond b (host_rules input ++ map (lookup_rule port.name) (looked_up input)) []) says → (port.enabled ≡ true) × IsAddressRule says
        by true on at = (on, parts (Contains-append_cases (host_rules input) (map (lookup_rule port.name) (looked_up input)) says at))
        by false off at = absurd (one_of_none says at)

    -- a rule of the port in neither the stages of port security nor those of ACLs
    pub address_rule-gives : is_before_addresses says.stage ≡ false → Contains (port_rules net port) says → (port.enabled ≡ true) × IsAddressRule says
    address_rule-gives other there = by (port_rule_parts net port says there)
      where
        by : (is_before_addresses says.stage ≡ true) ⊎ Contains (port_l2_rules input) says → (port.enabled ≡ true) × IsAddressRule says
        by (inl before) = absurd (false≢true (sym other ∙ before))
        by (inr at) = from_l2 at

  -- and each of these is a rule of the port, where it is enabled
  module _ (on : port.enabled ≡ true) where
    in_l2 : (says : Rule) → Contains (host_rules input ++ map (lookup_rule port.name) (looked_up input)) says → Contains (port_rules net port) says
    unfolding port_l2_rules
    in_l2 says there =
        Contains-append_right (port_sec_rules (port_sec_input port)) (later_rules net port) says
        (Contains-append_right (acl_rules_of_port net port) (port_l2_rules input) says
        (subst (λ (b : Bool). Contains (cond b (host_rules input ++ map (lookup_rule port.name) (looked_up input)) []) says) (sym on) there))

    pub lookup-from : (mac : ℕ) → Contains (all_macs net port) mac → Contains (port_rules net port) (lookup_rule port.name mac)
    lookup-from mac among =
        let says = lookup_rule port.name mac in
        let there = looked_up-from net port mac among in
        in_l2 says (Contains-append_right (host_rules input) (map (lookup_rule port.name) (looked_up input)) says (Contains-map (lookup_rule port.name) (looked_up input) mac there))

    in_arp : is_to_router port ≡ false → (mac : ℕ) (ip : Ip4) (says : Rule) → HasAddress mac ip → Contains (arp_rules port.name mac ip) says → Contains (port_rules net port) says
    in_arp host mac ip says has there =
        in_l2 says (Contains-append_left (host_rules input) (map (lookup_rule port.name) (looked_up input)) says
        (subst (λ (b : Bool). Contains (cond b [] (flat_map (arp_rules_of port.name) port.addresses)) says) (sym host)
        (Contains-flat_map (arp_rules_of port.name) port.addresses (addr.Host mac has.ips) says has.address (Contains-flat_map (arp_rules port.name mac) has.ips ip says has.among there))))

    pub own-from : is_to_router port ≡ false → (mac : ℕ) (ip : Ip4) → HasAddress mac ip → Contains (port_rules net port) (own_rule port.name ip)
    own-from host mac ip has = in_arp host mac ip (own_rule port.name ip) has (one_first (own_rule port.name ip) (answer_rule mac ip ∷ []) (own_rule port.name ip) refl)

    pub answer-from : is_to_router port ≡ false → (mac : ℕ) (ip : Ip4) → HasAddress mac ip → Contains (port_rules net port) (answer_rule mac ip)
    answer-from host mac ip has = in_arp host mac ip (answer_rule mac ip) has (one_later (own_rule port.name ip) (answer_rule mac ip ∷ []) (answer_rule mac ip) (one_first (answer_rule mac ip) [] (answer_rule mac ip) refl))
