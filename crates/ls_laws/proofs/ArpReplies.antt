-- ARP requests for the addresses of hosts are answered for them, as the meaning says.
use Rattle.std.proofs.Common.{◌≡◌, ◌≢◌, ℕ, ◌<◌, Bool, true, false, cond, List, [], ◌∷◌, eqb, sym, ap, refl, ◌∙◌, subst, ◌⊎◌, inl, inr, lit<}
use Rattle.std.specs.Prelude.{◌&&◌, not, Option, Some, None}
use Rattle.std.specs.Ordering.{is_gt}
use Rattle.std.specs.List.{Contains, flat_map, list_all}
use Rattle.std.proofs.lemmas.Bool.{false≢true, and_from, and_parts, eq-eqb, eqb-true, not-true}
use Rattle.std.proofs.lemmas.List.{set_comm}
use Rattle.nv_base.specs.declared.field.Field.{Field}
use Rattle.nv_base.specs.declared.field.Field.TheVariants.{Inport, EthSrc, EthDst, ArpOp, ArpSpa, ArpSha, ArpTpa, ArpTha}
use Rattle.nv_base.specs.declared.ip4.Ip4.{Ip4}
use Rattle.nv_base.specs.declared.object.ObjId.{ObjId}
use Rattle.pkt_core.specs.Packet.{Values, place, value, with_value, with_values}
use Rattle.pkt_core.specs.Prerequisite.{is_there}
use Rattle.pkt_core.specs.Replies.{arp_reply}
use Rattle.expr_eval.specs.MatchMeaning.{holds}
use Rattle.nb_records.specs.declared.switch.Addr.{Addr}
use Rattle.nb_records.specs.declared.switch.Addr.TheVariants as addr
use Rattle.nb_records.specs.declared.switch.Port.{Port}
use Rattle.nb_records.specs.declared.switch.Switch.{Switch}
use Rattle.nb_model.specs.Belongs.{is_to_router}
use Rattle.nb_model.specs.Names.{names}
use Rattle.nb_model.specs.Network.{Network}
use Rattle.nb_model.specs.Readable.{ips_of}
use Rattle.sb_model.specs.Make.{all_of, goes_on, is_port, steps}
use Rattle.sb_model.specs.Stage.{all_stages, next_stage, pipeline_of, stage_at, stage_place}
use Rattle.sb_model.specs.declared.row.Row.{Row}
use Rattle.sb_model.specs.declared.stage.Stage.{Stage}
use Rattle.sb_model.specs.declared.stage.Stage.TheVariants.{LsInArpRsp, LsInL2Lkup}
use Rattle.sb_rows.specs.Match.{select}
use Rattle.sb_rows.specs.Row.{row_cmp}
use Rattle.nb_model.specs.Applies.{tracks, balances}
use Rattle.nb_model.specs.Ports.{is_open}
use Rattle.net_meaning.specs.Switches.{answering, has_ip, is_among_ips, is_answering, is_request, mac_with}
use Rattle.net_rows.specs.Acls.{switch_acl_rules}
use Rattle.net_rows.specs.Build.{acl_on_input, has_unknown, switch_rules}
use Rattle.net_rows.specs.Lookup.{answers, requests, switch_l2_rules}
use Rattle.net_rows.specs.Unit.{unit_of, unit_of_datapath, row_of}
use Rattle.net_rows.specs.declared.rule.Rule.{Rule}
use Rattle.net_rows.proofs.Elements.{one_of, one_of_none, one_first, any_from, any_gives, Contains-flat_map, Contains-from_flat_map}
use Rattle.net_rows.proofs.Pairs.{Across, OfPairs, pairs_parts}
use Rattle.net_rows.proofs.Sound.{ports_rise}
use Rattle.net_rows.proofs.SoundObjects.{port_is_sound}
use Rattle.lr_units.specs.Network.{network_rows}
use Rattle.lr_units.proofs.Whole.{network_in_order}
use Rattle.tr_stage.specs.declared.outcome.Outcome.TheVariants.{Leave}
use Rattle.tr_stage.specs.Machine.{acted, run_actions, step}
use Rattle.tr_stage.specs.Machine.StageEnd.{On, Ends}
use Rattle.ls_laws.specs.Steps.{IsOn, Answers, answered_for, flows_at, sent_back}
use Rattle.ls_laws.proofs.AddressRules.{HasAddress, IsAddressRule, address_rule-gives, answer-from, answer_rule, own-from, own_rule}
use Rattle.ls_laws.proofs.AddressRules.IsAddressRule.{Own, Asked, ForMac}
use Rattle.ls_laws.proofs.AtPort.{at_port-gives, at_port-from, same_port}
use Rattle.ls_laws.proofs.FoundPorts.{IsFoundPort, found_port, found_none}
use Rattle.ls_laws.proofs.Packets.{other_value}
use Rattle.ls_laws.proofs.PassingStages.{passing}
use Rattle.ls_laws.proofs.RuleStages.{rules_at, among_rules_at, from_rules_at, the_only, is_before_addresses, is_of_acls, rules_where, acl_rule_stage}
use Rattle.ls_laws.proofs.Selected.{first_of_takers}
use Rattle.ls_laws.proofs.Tables.{IsSwitchRule, IsPortRule, IsRule, of_no_vip, row_of_port, row_of_switch, table-gives}
use Rattle.ls_laws.proofs.Takers.{lower_after, later_after, step_by}

-- ---- the packet that answers

-- a field that is not among those that change keeps its number
stays : (packet : Values) (changes : List (Field × ℕ)) (field : Field) → list_all (λ (c : Field × ℕ). not (eqb (place c.0) (place field))) changes ≡ true → value (with_values packet changes) field ≡ value packet field
stays packet [] field others = refl
stays packet (c ∷ changes) field others =
    let parts = and_parts (not (eqb (place c.0) (place field))) (list_all (λ (d : Field × ℕ). not (eqb (place d.0) (place field))) changes) others in
    stays (with_value packet c.0 c.1) changes field parts.1 ∙ other_value packet c.0 field c.1 (not-true (eqb (place c.0) (place field)) parts.0)

-- two fields can change in either order
either_order : (packet : Values) (f g : Field) (m n : ℕ) → eqb (place f) (place g) ≡ false → with_value (with_value packet f m) g n ≡ with_value (with_value packet g n) f m
either_order packet f g m n other = set_comm packet (place f) (place g) m n (λ same. false≢true (sym other ∙ eq-eqb (place f) (place g) same))

-- the fields of the reply that change last, in either order
last_four : (packet : Values) (tha sha tpa spa : ℕ)
    → with_values packet ((ArpTha, tha) ∷ (ArpSha, sha) ∷ (ArpTpa, tpa) ∷ (ArpSpa, spa) ∷ []) ≡ with_values packet ((ArpSpa, spa) ∷ (ArpSha, sha) ∷ (ArpTpa, tpa) ∷ (ArpTha, tha) ∷ [])
last_four packet tha sha tpa spa =
    either_order (with_values packet ((ArpTha, tha) ∷ (ArpSha, sha) ∷ [])) ArpTpa ArpSpa tpa spa refl
    ∙ ap (λ p. with_value p ArpTpa tpa) (either_order (with_value packet ArpTha tha) ArpSha ArpSpa sha spa refl)
    ∙ ap (λ p. with_values p ((ArpSha, sha) ∷ (ArpTpa, tpa) ∷ [])) (either_order packet ArpTha ArpSpa tha spa refl)
    ∙ ap (λ p. with_value p ArpTpa tpa) (either_order (with_value packet ArpSpa spa) ArpTha ArpSha tha sha refl)
    ∙ either_order (with_values packet ((ArpSpa, spa) ∷ (ArpSha, sha) ∷ [])) ArpTha ArpTpa tha tpa refl

module _ (packet : Values) (mac : ℕ) where
  abbrev first_three : List (Field × ℕ)
  first_three = (EthDst, value packet EthSrc) ∷ (EthSrc, mac) ∷ (ArpOp, 2) ∷ []

  -- the packet after the first assignments of a row, which are also those of the reply
  abbrev begun : Values
  begun = with_values packet first_three

  abbrev asker_mac : ℕ
  asker_mac = value begun ArpSha

  -- and after all
  abbrev named : Values
  named = with_values begun ((ArpTha, asker_mac) ∷ (ArpSha, mac) ∷ [])

  abbrev made : Values
  made = with_values named ((ArpTpa, value named ArpSpa) ∷ (ArpSpa, value packet ArpTpa) ∷ [])

  -- the assignments of a row make the reply
  made-is : made ≡ arp_reply packet mac
  made-is =
      let sha : asker_mac ≡ value packet ArpSha = stays packet first_three ArpSha refl in
      let spa : value named ArpSpa ≡ value packet ArpSpa = stays begun ((ArpTha, asker_mac) ∷ (ArpSha, mac) ∷ []) ArpSpa refl ∙ stays packet first_three ArpSpa refl in
      (λ i. with_values begun ((ArpTha, sha i) ∷ (ArpSha, mac) ∷ (ArpTpa, spa i) ∷ (ArpSpa, value packet ArpTpa) ∷ []))
      ∙ last_four begun (value packet ArpSha) mac (value packet ArpSpa) (value packet ArpTpa)

-- ---- the addresses of a port

-- the MAC of an address, and whether the address is a host's
abbrev mac_of : Addr → ℕ
mac_of (addr.Host mac ips) = mac
mac_of other = 0

abbrev is_of_host : Addr → Bool
is_of_host (addr.Host mac ips) = true
is_of_host other = false

-- a host's address that is not first is one of the others
later_host : (first : Addr) (others : List Addr) (mac : ℕ) (ips : List Ip4) → is_of_host first ≡ false → Contains (first ∷ others) (addr.Host mac ips) → Contains others (addr.Host mac ips)
later_host first others mac ips none there = by (one_of first others (addr.Host mac ips) there)
  where
    by : (first ≡ addr.Host mac ips) ⊎ Contains others (addr.Host mac ips) → Contains others (addr.Host mac ips)
    by (inl same) = absurd (false≢true (sym none ∙ ap is_of_host same))
    by (inr later) = later

-- two addresses
abbrev Other : Ip4 → Ip4 → Type 0
Other a b = a.0 ≢ b.0

-- where no IPv4 address is there twice, each goes with the MAC that it is written with
mac_of_ip : (addresses : List Addr) (mac : ℕ) (ips : List Ip4) (ip : Ip4) → OfPairs Other (flat_map ips_of addresses) → Contains addresses (addr.Host mac ips) → Contains ips ip → mac_with ip.0 addresses ≡ mac
mac_of_ip [] mac ips ip apart there among = absurd (one_of_none (addr.Host mac ips) there)
mac_of_ip (addr.Unknown ∷ others) mac ips ip apart there among = mac_of_ip others mac ips ip apart (later_host addr.Unknown others mac ips refl there) among
mac_of_ip (addr.Router ∷ others) mac ips ip apart there among = mac_of_ip others mac ips ip apart (later_host addr.Router others mac ips refl there) among
mac_of_ip (addr.Host own own_ips ∷ others) mac ips ip apart there among =
    by (is_among_ips ip.0 own_ips) refl (one_of (addr.Host own own_ips) others (addr.Host mac ips) there) (λ later. mac_of_ip others mac ips ip parts.1 later among)
  where
    parts : OfPairs Other own_ips × OfPairs Other (flat_map ips_of others) × Across Other own_ips (flat_map ips_of others)
    parts = pairs_parts Other own_ips (flat_map ips_of others) apart

    by : (b : Bool) → is_among_ips ip.0 own_ips ≡ b → (addr.Host own own_ips ≡ addr.Host mac ips) ⊎ Contains others (addr.Host mac ips) → (Contains others (addr.Host mac ips) → mac_with ip.0 others ≡ mac)
        → cond b own (mac_with ip.0 others) ≡ mac
    by true is (inl same) rest = ap mac_of same
    by true is (inr later) rest =
        let first = any_gives (λ (a : Ip4). eqb a.0 ip.0) own_ips is in
        absurd (parts.2 first.0 ip first.1 (Contains-flat_map ips_of others (addr.Host mac ips) ip later among) (eqb-true first.0.0 ip.0 first.2))
    by false not_own (inl same) rest =
        let own_ip : Contains own_ips ip = subst (λ a. Contains (ips_of a) ip) (sym same) among in
        absurd (false≢true (sym not_own ∙ any_from (λ (a : Ip4). eqb a.0 ip.0) own_ips ip own_ip (eq-eqb ip.0 ip.0 refl)))
    by false not_own (inr later) rest = rest later

module _ (net : Network) (port : Port) (ip : Ip4) where
  -- the port has the address where one of its addresses does
  has_ip-from : (mac : ℕ) → HasAddress net port mac ip → has_ip ip.0 port ≡ true
  has_ip-from mac has =
      any_from (λ (a : Ip4). eqb a.0 ip.0) (flat_map ips_of port.addresses) ip (Contains-flat_map ips_of port.addresses (addr.Host mac has.ips) ip has.address has.among) (eq-eqb ip.0 ip.0 refl)

  has_ip-gives : has_ip ip.0 port ≡ true → (mac : ℕ) × HasAddress net port mac ip
  has_ip-gives is =
      let found = any_gives (λ (a : Ip4). eqb a.0 ip.0) (flat_map ips_of port.addresses) is in
      let number = eqb-true found.0.0 ip.0 found.2 in
      let same : found.0 ≡ ip = λ i. record { 0 = number i } in
      let at = Contains-from_flat_map ips_of port.addresses found.0 found.1 in
      by at.0 at.1 (subst (λ a. Contains (ips_of at.0) a) same at.2)
    where
      by : (address : Addr) → Contains port.addresses address → Contains (ips_of address) ip → (mac : ℕ) × HasAddress net port mac ip
      by addr.Unknown there among = absurd (one_of_none ip among)
      by addr.Router there among = absurd (one_of_none ip among)
      by (addr.Host mac ips) there among = (mac, record { ips = ips; address = there; among = among })

-- ---- the stage

-- the only rule of a switch, which passes each packet on
only_passes : (tracking balances unknown : Bool) → rules_at LsInArpRsp (rules_where tracking balances unknown) ≡ passing LsInArpRsp ∷ []
unfolding switch_acl_rules switch_l2_rules stage_place
only_passes true balances true = refl
only_passes true balances false = refl
only_passes false balances true = refl
only_passes false balances false = refl

abbrev is_arp : Stage → Bool
is_arp LsInArpRsp = true
is_arp _ = false

module _ (net : Network) (switch : Switch) (packet : Values) (on : IsOn net switch packet) where
  abbrev dp : ObjId
  dp = switch.id

  -- the address that is asked for
  abbrev asked : Ip4
  asked = record { 0 = value packet ArpTpa }

  -- the port answers for it
  abbrev answers_for : Port → Bool
  answers_for port = is_answering dp asked.0 port

  -- the match on a request holds of a request for the address
  requests-gives : (ip : Ip4) → holds (names net) packet (all_of (requests ip)) ≡ true → (is_request packet ≡ true) × (asked ≡ ip)
  requests-gives ip does =
      let parts = and_parts (is_request packet) (is_there packet ArpTpa && eqb asked.0 ip.0 && true) does in
      let number = eqb-true asked.0 ip.0 (and_parts (is_there packet ArpTpa) (eqb asked.0 ip.0) (and_parts (is_there packet ArpTpa && eqb asked.0 ip.0) true parts.1).0).1 in
      (parts.0, λ i. record { 0 = number i })

  requests-from : is_request packet ≡ true → holds (names net) packet (all_of (requests asked)) ≡ true
  requests-from is =
      let arp = (and_parts (is_there packet ArpOp) (eqb (value packet ArpOp) 1) is).0 in
      and_from (is_request packet) (is_there packet ArpTpa && eqb asked.0 asked.0 && true) is
      (and_from (is_there packet ArpTpa && eqb asked.0 asked.0) true (and_from (is_there packet ArpTpa) (eqb asked.0 asked.0) arp (eq-eqb asked.0 asked.0 refl)) refl)

  -- ---- the rows that take the packet

  abbrev last_row : Row
  last_row = row_of (unit_of_datapath dp) (passing LsInArpRsp)

  abbrev own_row : Port → Row
  own_row port = row_of (unit_of port.switch port.id) (own_rule port.name asked)

  abbrev row_for : Port → Row
  row_for port = row_of (unit_of port.switch port.id) (answer_rule (mac_with asked.0 port.addresses) asked)

  data IsTaker (row : Row) : Type 0 where
    ByOwn : (port : Port) → Contains net.ports port → answers_for port ≡ true → value packet Inport ≡ port.id.0 → row ≡ own_row port → IsTaker row
    ByAnswer : (port : Port) → Contains net.ports port → is_request packet ≡ true → answers_for port ≡ true → row ≡ row_for port → IsTaker row
    ByLast : row ≡ last_row → IsTaker row

  are : rules_at LsInArpRsp (switch_rules net dp) ≡ passing LsInArpRsp ∷ []
  are = only_passes (tracks net dp) (balances net dp) (has_unknown net dp)

  -- an enabled host of the switch with the address is one that answers
  answers_for-from : (port : Port) → is_to_router port ≡ false → port.switch ≡ dp → port.enabled ≡ true → has_ip asked.0 port ≡ true → answers_for port ≡ true
  answers_for-from port host of_dp enabled has =
      and_from (is_open dp port && not (is_to_router port)) (has_ip asked.0 port)
      (and_from (is_open dp port) (not (is_to_router port)) (and_from (eqb port.switch.0 dp.0) port.enabled (eq-eqb port.switch.0 dp.0 (ap (λ (o : ObjId). o.0) of_dp)) enabled)
      (ap not host))
      has

  module _ (row : Row) (takes : holds (names net) packet row.matching ≡ true) where
    by_switch_rule : IsSwitchRule net dp LsInArpRsp row → IsTaker row
    by_switch_rule of =
        let at = among_rules_at LsInArpRsp (switch_rules net dp) of.says of.in_rules of.of_stage in
        ByLast (of.is ∙ ap (row_of (unit_of_datapath dp)) (the_only (passing LsInArpRsp) of.says (subst (λ rs. Contains rs of.says) are at)))

    by_port_rule : IsPortRule net dp LsInArpRsp row → IsTaker row
    by_port_rule of =
        let gives = address_rule-gives net of.port of.says (ap is_before_addresses of.of_stage) of.in_rules in
        by gives.0 gives.1
      where
        as_row : (says : Rule) → of.says ≡ says → row ≡ row_of (unit_of of.port.switch of.port.id) says
        as_row says same = of.is ∙ (λ i. row_of (unit_of (sym of.of_switch i) of.port.id) (same i))

        does : (says : Rule) → of.says ≡ says → holds (names net) packet says.matching ≡ true
        does says same = sym (ap (λ (r : Row). holds (names net) packet r.matching) (as_row says same)) ∙ takes

        by : of.port.enabled ≡ true → IsAddressRule net of.port of.says → IsTaker row
        by enabled (Own host mac ip has same) =
            let parts = and_parts (holds (names net) packet (is_port Inport of.port.name)) (holds (names net) packet (all_of (requests ip))) (does (own_rule of.port.name ip) same) in
            let is_asked = (requests-gives ip parts.1).1 in
            let has_asked = subst (λ (a : Ip4). HasAddress net of.port mac a) (sym is_asked) has in
            ByOwn of.port of.among (answers_for-from of.port host of.of_switch enabled (has_ip-from net of.port asked mac has_asked)) (at_port-gives net packet Inport refl on.sound of.port of.among parts.0)
            (as_row (own_rule of.port.name ip) same ∙ ap (λ a. row_of (unit_of of.port.switch of.port.id) (own_rule of.port.name a)) (sym is_asked))
        by enabled (Asked host mac ip has same) =
            let asks = requests-gives ip (does (answer_rule mac ip) same) in
            let has_asked = subst (λ (a : Ip4). HasAddress net of.port mac a) (sym asks.1) has in
            let its_mac : mac ≡ mac_with asked.0 of.port.addresses = sym (mac_of_ip of.port.addresses mac has_asked.ips asked (port_is_sound net on.sound of.port of.among).ips_apart has_asked.address has_asked.among) in
            ByAnswer of.port of.among asks.0 (answers_for-from of.port host of.of_switch enabled (has_ip-from net of.port asked mac has_asked))
            (as_row (answer_rule mac ip) same ∙ (λ i. row_of (unit_of of.port.switch of.port.id) (answer_rule (its_mac i) (sym asks.1 i))))
        by enabled (ForMac mac has same) = absurd (false≢true (sym (ap (λ (r : Rule). is_arp r.stage) same) ∙ ap is_arp of.of_stage))

    taker : IsRule net dp LsInArpRsp row → IsTaker row
    taker (inl of) = by_switch_rule of
    taker (inr (inl of)) = by_port_rule of
    taker (inr (inr (inl of))) = absurd (false≢true (sym (ap is_of_acls of.of_stage) ∙ acl_rule_stage (acl_on_input net of.acl dp) of.says of.in_rules))
    taker (inr (inr (inr of))) = absurd (of_no_vip net dp LsInArpRsp row refl of)

  -- ---- what is done

  passed_on : run_actions (names net) LsInArpRsp goes_on packet ≡ On LsInL2Lkup packet
  unfolding next_stage stage_at all_stages
  passed_on = refl

  -- where no host is asked for, the packet goes on
  by_last : ((port : Port) → Contains net.ports port → is_request packet ≡ true → answers_for port ≡ true → ⊥) → step (flows_at net dp) LsInArpRsp packet ≡ On LsInL2Lkup packet
  by_last none =
      step_by net switch packet on LsInArpRsp last_row
      (row_of_switch net switch (passing LsInArpRsp) on.among (from_rules_at LsInArpRsp (switch_rules net dp) (passing LsInArpRsp ∷ []) (passing LsInArpRsp) are (one_first (passing LsInArpRsp) [] (passing LsInArpRsp) refl)))
      refl refl refl (λ row of takes. others row (taker row takes of))
      ∙ passed_on
    where
      others : (row : Row) → IsTaker row → (row.actions ≡ goes_on) ⊎ (row.priority < 0)
      others row (ByOwn port there answers at is) = inl (ap (λ (r : Row). r.actions) is)
      others row (ByAnswer port there asks answers is) = absurd (none port there asks answers)
      others row (ByLast is) = inl (ap (λ (r : Row). r.actions) is)

  -- what it says of a port that it answers
  module _ (port : Port) (there : Contains net.ports port) (answering_port : answers_for port ≡ true) where
    parts : ((is_open dp port && not (is_to_router port)) ≡ true) × (has_ip asked.0 port ≡ true)
    parts = and_parts (is_open dp port && not (is_to_router port)) (has_ip asked.0 port) answering_port

    opens : (eqb port.switch.0 dp.0 ≡ true) × (port.enabled ≡ true)
    opens = and_parts (eqb port.switch.0 dp.0) port.enabled (and_parts (is_open dp port) (not (is_to_router port)) parts.0).0

    its_host : is_to_router port ≡ false
    its_host = not-true (is_to_router port) (and_parts (is_open dp port) (not (is_to_router port)) parts.0).1

    its_switch : port.switch ≡ dp
    its_switch = let same = eqb-true port.switch.0 dp.0 opens.0 in λ i. record { 0 = same i }

    its_address : (mac : ℕ) × HasAddress net port mac asked
    its_address = has_ip-gives net port asked parts.1

    is_its_mac : its_address.0 ≡ mac_with asked.0 port.addresses
    is_its_mac = sym (mac_of_ip port.addresses its_address.0 its_address.1.ips asked (port_is_sound net on.sound port there).ips_apart its_address.1.address its_address.1.among)

    own_row_there : Contains (network_rows net) (own_row port)
    own_row_there = row_of_port net port (own_rule port.name asked) there (own-from net port opens.1 its_host its_address.0 asked its_address.1)

    row_there : Contains (network_rows net) (row_for port)
    row_there =
        let says = answer_rule (mac_with asked.0 port.addresses) asked in
        let has = subst (λ (mac : ℕ). HasAddress net port mac asked) is_its_mac its_address.1 in
        row_of_port net port says there (answer-from net port opens.1 its_host (mac_with asked.0 port.addresses) asked has)

    -- where the asker has the address itself, its request goes on
    by_own : value packet Inport ≡ port.id.0 → is_request packet ≡ true → step (flows_at net dp) LsInArpRsp packet ≡ On LsInL2Lkup packet
    by_own at asks =
        step_by net switch packet on LsInArpRsp (own_row port) own_row_there its_switch refl
        (and_from (holds (names net) packet (is_port Inport port.name)) (holds (names net) packet (all_of (requests asked))) (at_port-from net packet Inport refl on.sound port there at) (requests-from asks))
        (λ row of takes. others row (taker row takes of))
        ∙ passed_on
      where
        others : (row : Row) → IsTaker row → (row.actions ≡ goes_on) ⊎ (row.priority < 100)
        others row (ByOwn other there answers at is) = inl (ap (λ (r : Row). r.actions) is)
        others row (ByAnswer other there asks answers is) = inr (subst (λ (r : Row). r.priority < 100) (sym is) (lit< tt))
        others row (ByLast is) = inl (ap (λ (r : Row). r.actions) is)

  -- where a host is asked for by another, it is answered for
  module _ (host : Port) (found : answering net dp asked.0 ≡ Some host) (asks : is_request packet ≡ true) (not_own : (port : Port) → Contains net.ports port → value packet Inport ≡ port.id.0 → answers_for port ≡ true → ⊥) where
    is_found : IsFoundPort answers_for net.ports host
    is_found = found_port answers_for net.ports host (ports_rise net on.sound) found

    host_switch : host.switch ≡ dp
    host_switch = its_switch host is_found.among is_found.does

    -- each other row that takes the packet is after the host's
    others : (row : Row) → IsTaker row → (row ≡ row_for host) ⊎ (is_gt (row_cmp row (row_for host)) ≡ true)
    others row (ByOwn port there answers at is) = absurd (not_own port there at answers)
    others row (ByAnswer port there asks answers is) = by (is_found.others port there answers)
      where
        by : (port ≡ host) ⊎ (host.id.0 < port.id.0) → (row ≡ row_for host) ⊎ (is_gt (row_cmp row (row_for host)) ≡ true)
        by (inl same) = inl (is ∙ ap row_for same)
        by (inr later) = inr (ap (λ (r : Row). is_gt (row_cmp r (row_for host))) is ∙ later_after (row_for port) (row_for host) (its_switch port there answers ∙ sym host_switch) refl refl later)
    others row (ByLast is) = inr (ap (λ (r : Row). is_gt (row_cmp r (row_for host))) is ∙ lower_after last_row (row_for host) (sym host_switch) refl (lit< tt))

    met : select dp LsInArpRsp (names net) packet (network_rows net) ≡ Some (row_for host)
    met =
        first_of_takers (names net) dp LsInArpRsp packet (row_for host) (network_rows net) (network_in_order net) (row_there host is_found.among is_found.does) host_switch refl (requests-from asks)
        (λ row at in_it takes. others row (taker row takes (table-gives net on.sound switch on.among LsInArpRsp row at in_it)))

    replies : (mac : ℕ) → run_actions (names net) LsInArpRsp (steps (answers mac asked)) packet ≡ Ends (Some (Leave (sent_back (arp_reply packet mac)) 0))
    unfolding pipeline_of
    replies mac = ap (λ p. Ends (Some (Leave (sent_back p) 0))) (made-is packet mac)

    by_host : step (flows_at net dp) LsInArpRsp packet ≡ answered_for packet (Some host)
    unfolding step
    by_host = ap (acted (names net) LsInArpRsp packet) met ∙ replies (mac_with asked.0 host.addresses)

-- ---- the law

pub answers_requests : Answers
answers_requests net switch packet on port of at = by (is_request packet) (is_answering switch.id (value packet ArpTpa) port) (answering net switch.id (value packet ArpTpa)) refl refl refl
  where
    its_own : (other : Port) → Contains net.ports other → value packet Inport ≡ other.id.0 → other ≡ port
    its_own other there at_other = same_port net on.sound other port there of.0 (sym at_other ∙ at)

    by : (asks own : Bool) (found : Option Port) → is_request packet ≡ asks → is_answering switch.id (value packet ArpTpa) port ≡ own → answering net switch.id (value packet ArpTpa) ≡ found
        → step (flows_at net switch.id) LsInArpRsp packet ≡ cond (asks && not own) (answered_for packet found) (On LsInL2Lkup packet)
    by false own found r o f = by_last net switch packet on (λ other there asks answers. false≢true (sym r ∙ asks))
    by true true found r o f = by_own net switch packet on port of.0 o at r
    by true false None r o f = by_last net switch packet on (λ other there asks answers. found_none (is_answering switch.id (value packet ArpTpa)) net.ports other f there answers)
    by true false (Some host) r o f =
        by_host net switch packet on host f r
        (λ other there at_other answers. false≢true (sym o ∙ sym (ap (is_answering switch.id (value packet ArpTpa)) (its_own other there at_other)) ∙ answers))
