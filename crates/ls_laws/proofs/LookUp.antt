-- The lookup of destinations finds the port that the meaning finds, and sends what no port has to the ports for unknown addresses.
use Rattle.nv_base.specs.Name.{flood_group, unknown_group}
use Rattle.std.proofs.Common.{◌≡◌, ℕ, ◌<◌, Bool, true, false, cond, List, [], ◌∷◌, eqb, sym, ap, refl, ◌∙◌, subst, ◌⊎◌, inl, inr, lit<}
use Rattle.std.specs.Prelude.{◌||◌, ◌&&◌, Option, Some, None}
use Rattle.std.specs.Ordering.{is_gt}
use Rattle.std.specs.List.{Contains, filter, list_any}
use Rattle.std.proofs.Math.Bool.{or-false}
use Rattle.std.proofs.lemmas.Bool.{false≢true, and_from, and_parts, eq-eqb, eqb-true}
use Rattle.nv_base.specs.declared.object.ObjId.{ObjId}
use Rattle.nv_base.specs.declared.field.Field.TheVariants.{EthDst}
use Rattle.pkt_core.specs.Packet.{Values, value}
use Rattle.expr_core.specs.declared.predicate.Pred.TheVariants.{EthMcast}
use Rattle.expr_eval.specs.MatchMeaning.{holds}
use Rattle.nb_records.specs.declared.switch.Port.{Port}
use Rattle.nb_records.specs.declared.switch.Switch.{Switch}
use Rattle.nb_model.specs.Names.{names}
use Rattle.nb_model.specs.Network.{Network}
use Rattle.sb_model.specs.Make.{takes_each, is_predicate, goes_on, drops, goes_out, goes_out_by}
use Rattle.sb_model.specs.Stage.{all_stages, next_stage, pipeline_of, stage_at, stage_place}
use Rattle.sb_model.specs.declared.row.Row.{Row}
use Rattle.sb_model.specs.declared.stage.Stage.{Stage}
use Rattle.sb_model.specs.declared.stage.Stage.TheVariants.{LsInL2Lkup, LsInL2Unknown}
use Rattle.sb_rows.specs.Match.{select}
use Rattle.sb_rows.specs.Row.{row_cmp}
use Rattle.net_meaning.specs.Address.{is_multicast}
use Rattle.nb_model.specs.Applies.{tracks, balances}
use Rattle.nb_model.specs.Ports.{is_open, takes_unknown}
use Rattle.net_meaning.specs.Switches.{all_macs, has_mac, numbers, port_for}
use Rattle.net_meaning.specs.declared.cause.Cause.TheVariants.{Unknown}
use Rattle.net_rows.specs.Acls.{switch_acl_rules}
use Rattle.net_rows.specs.Build.{acl_on_input, has_unknown, switch_rules}
use Rattle.net_rows.specs.Lookup.{lookup_rule, switch_l2_rules, unknown_rules}
use Rattle.net_rows.specs.Unit.{unit_of, unit_of_datapath, rule, row_of}
use Rattle.net_rows.specs.declared.rule.Rule.{Rule}
use Rattle.net_rows.proofs.Elements.{one_of, one_of_none, one_first, one_later, any_from, any_gives}
use Rattle.net_rows.proofs.Sound.{ports_rise}
use Rattle.lr_units.specs.Network.{network_rows}
use Rattle.lr_units.proofs.Whole.{network_in_order}
use Rattle.tr_stage.specs.declared.outcome.Outcome.TheVariants.{Drop}
use Rattle.tr_stage.specs.Machine.{acted, after, bound_for, run_actions, step}
use Rattle.tr_stage.specs.Machine.StageEnd.{On, Ends}
use Rattle.ls_laws.specs.Steps.{IsOn, LooksUp, FindsNone, flows_at, found_at, leaves_by, sent_unknown}
use Rattle.ls_laws.proofs.AddressRules.{IsAddressRule, address_rule-gives, lookup-from}
use Rattle.ls_laws.proofs.AddressRules.IsAddressRule.{Own, Asked, ForMac}
use Rattle.ls_laws.proofs.FoundPorts.{IsFoundPort, found_port, found_none}
use Rattle.ls_laws.proofs.PortNames.{number_of_port}
use Rattle.ls_laws.proofs.RuleStages.{rules_at, among_rules_at, from_rules_at, is_before_addresses, is_of_acls, is_of_ports, port_rule_stage, rules_where, acl_rule_stage}
use Rattle.ls_laws.proofs.Selected.{first_of_takers}
use Rattle.ls_laws.proofs.Tables.{IsSwitchRule, IsPortRule, IsRule, of_no_vip, row_of_port, row_of_switch, table-gives}
use Rattle.ls_laws.proofs.Takers.{lower_after, later_after, step_by}
use Rattle.nv_base.specs.Object.{flood_number, unknown_number}

-- ---- the lookup

-- the rules of a switch, the highest first
abbrev many_rule : Rule
many_rule = rule LsInL2Lkup 100 (is_predicate EthMcast) (goes_out_by flood_group)

abbrev last_rule : Rule
last_rule = rule LsInL2Lkup 0 takes_each goes_on

lookup_rules : (tracking balances unknown : Bool) → rules_at LsInL2Lkup (rules_where tracking balances unknown) ≡ many_rule ∷ last_rule ∷ []
unfolding switch_acl_rules switch_l2_rules stage_place
lookup_rules true balances true = refl
lookup_rules true balances false = refl
lookup_rules false balances true = refl
lookup_rules false balances false = refl

-- the rules for the MACs of ports are of the lookup
abbrev is_lookup : Stage → Bool
is_lookup LsInL2Lkup = true
is_lookup _ = false

module _ (net : Network) (switch : Switch) (packet : Values) (on : IsOn net switch packet) where
  abbrev dp : ObjId
  dp = switch.id

  -- the MAC that the packet is for
  abbrev mac : ℕ
  mac = value packet EthDst

  -- the port has it
  abbrev leads : Port → Bool
  leads port = is_open dp port && has_mac net mac port

  abbrev many_row : Row
  many_row = row_of (unit_of_datapath dp) many_rule

  abbrev last_row : Row
  last_row = row_of (unit_of_datapath dp) last_rule

  abbrev row_for : Port → Row
  row_for port = row_of (unit_of port.switch port.id) (lookup_rule port.name mac)

  -- ---- the rows that take the packet

  data IsTaker (row : Row) : Type 0 where
    ByMany : is_multicast mac ≡ true → row ≡ many_row → IsTaker row
    ByPort : (port : Port) → Contains net.ports port → leads port ≡ true → row ≡ row_for port → IsTaker row
    ByLast : row ≡ last_row → IsTaker row

  are : rules_at LsInL2Lkup (switch_rules net dp) ≡ many_rule ∷ last_rule ∷ []
  are = lookup_rules (tracks net dp) (balances net dp) (has_unknown net dp)

  module _ (row : Row) (takes : holds (names net) packet row.matching ≡ true) where
    by_switch_rule : IsSwitchRule net dp LsInL2Lkup row → IsTaker row
    by_switch_rule of = by (one_of many_rule (last_rule ∷ []) of.says (subst (λ rs. Contains rs of.says) are (among_rules_at LsInL2Lkup (switch_rules net dp) of.says of.in_rules of.of_stage)))
      where
        last : (last_rule ≡ of.says) ⊎ Contains [] of.says → IsTaker row
        last (inl same) = ByLast (of.is ∙ ap (row_of (unit_of_datapath dp)) (sym same))
        last (inr none) = absurd (one_of_none of.says none)

        by : (many_rule ≡ of.says) ⊎ Contains (last_rule ∷ []) of.says → IsTaker row
        by (inl same) =
            let row_is : row ≡ many_row = of.is ∙ ap (row_of (unit_of_datapath dp)) (sym same) in
            ByMany (sym (or-false (is_multicast mac)) ∙ sym (ap (λ (r : Row). holds (names net) packet r.matching) row_is) ∙ takes) row_is
        by (inr later) = last (one_of last_rule [] of.says later)

    by_port_rule : IsPortRule net dp LsInL2Lkup row → IsTaker row
    by_port_rule of =
        let gives = address_rule-gives net of.port of.says (ap is_before_addresses of.of_stage) of.in_rules in
        by gives.0 gives.1
      where
        by : of.port.enabled ≡ true → IsAddressRule net of.port of.says → IsTaker row
        by enabled (Own host m ip has same) = absurd (false≢true (sym (ap (λ (r : Rule). is_lookup r.stage) same) ∙ ap is_lookup of.of_stage))
        by enabled (Asked host m ip has same) = absurd (false≢true (sym (ap (λ (r : Rule). is_lookup r.stage) same) ∙ ap is_lookup of.of_stage))
        by enabled (ForMac m has same) =
            let row_is : row ≡ row_of (unit_of of.port.switch of.port.id) (lookup_rule of.port.name m) =
            of.is ∙ (λ i. row_of (unit_of (sym of.of_switch i) of.port.id) (same i)) in
            let same_mac : mac ≡ m = eqb-true mac m (sym (ap (λ (r : Row). holds (names net) packet r.matching) row_is) ∙ takes) in
            ByPort of.port of.among
            (and_from (is_open dp of.port) (has_mac net mac of.port)
            (and_from (eqb of.port.switch.0 dp.0) of.port.enabled (eq-eqb of.port.switch.0 dp.0 (ap (λ (o : ObjId). o.0) of.of_switch)) enabled)
            (any_from (λ own. eqb own mac) (all_macs net of.port) m has (eq-eqb m mac (sym same_mac))))
            (row_is ∙ ap (λ n. row_of (unit_of of.port.switch of.port.id) (lookup_rule of.port.name n)) (sym same_mac))

    taker : IsRule net dp LsInL2Lkup row → IsTaker row
    taker (inl of) = by_switch_rule of
    taker (inr (inl of)) = by_port_rule of
    taker (inr (inr (inl of))) = absurd (false≢true (sym (ap is_of_acls of.of_stage) ∙ acl_rule_stage (acl_on_input net of.acl dp) of.says of.in_rules))
    taker (inr (inr (inr of))) = absurd (of_no_vip net dp LsInL2Lkup row refl of)

  -- ---- what is done

  in_switch : (says : Rule) → Contains (many_rule ∷ last_rule ∷ []) says → Contains (network_rows net) (row_of (unit_of_datapath dp) says)
  in_switch says there = row_of_switch net switch says on.among (from_rules_at LsInL2Lkup (switch_rules net dp) (many_rule ∷ last_rule ∷ []) says are there)

  -- what is for many leaves by the group of all ports
  by_many : is_multicast mac ≡ true → step (flows_at net dp) LsInL2Lkup packet ≡ leaves_by packet flood_number
  unfolding pipeline_of
  by_many many =
      step_by net switch packet on LsInL2Lkup many_row (in_switch many_rule (one_first many_rule (last_rule ∷ []) many_rule refl)) refl refl (or-false (is_multicast mac) ∙ many)
      (λ row of takes. others row (taker row takes of))
    where
      others : (row : Row) → IsTaker row → (row.actions ≡ goes_out_by flood_group) ⊎ (row.priority < 100)
      others row (ByMany m is) = inl (ap (λ (r : Row). r.actions) is)
      others row (ByPort port there does is) = inr (subst (λ (r : Row). r.priority < 100) (sym is) (lit< tt))
      others row (ByLast is) = inr (subst (λ (r : Row). r.priority < 100) (sym is) (lit< tt))

  module _ (one : is_multicast mac ≡ false) where
    -- what is for a MAC that no port has goes on
    by_last : port_for net dp mac ≡ None → step (flows_at net dp) LsInL2Lkup packet ≡ On LsInL2Unknown packet
    unfolding next_stage stage_at all_stages
    by_last none =
        step_by net switch packet on LsInL2Lkup last_row (in_switch last_rule (one_later many_rule (last_rule ∷ []) last_rule (one_first last_rule [] last_rule refl))) refl refl refl
        (λ row of takes. others row (taker row takes of))
      where
        others : (row : Row) → IsTaker row → (row.actions ≡ goes_on) ⊎ (row.priority < 0)
        others row (ByMany many is) = absurd (false≢true (sym one ∙ many))
        others row (ByPort port there does is) = absurd (found_none leads net.ports port none there does)
        others row (ByLast is) = inl (ap (λ (r : Row). r.actions) is)

    -- what is for the MAC of a port leaves by it
    module _ (port : Port) (found : port_for net dp mac ≡ Some port) where
      is_found : IsFoundPort leads net.ports port
      is_found = found_port leads net.ports port (ports_rise net on.sound) found

      opens : ((eqb port.switch.0 dp.0 && port.enabled) ≡ true) × (has_mac net mac port ≡ true)
      opens = and_parts (is_open dp port) (has_mac net mac port) is_found.does

      its_switch : port.switch ≡ dp
      its_switch = let same = eqb-true port.switch.0 dp.0 (and_parts (eqb port.switch.0 dp.0) port.enabled opens.0).0 in λ i. record { 0 = same i }

      has_it : Contains (all_macs net port) mac
      has_it = let own = any_gives (λ own. eqb own mac) (all_macs net port) opens.1 in subst (λ n. Contains (all_macs net port) n) (eqb-true own.0 mac own.2) own.1

      its_row : Contains (network_rows net) (row_for port)
      its_row =
          row_of_port net port (lookup_rule port.name mac) is_found.among
          (lookup-from net port (and_parts (eqb port.switch.0 dp.0) port.enabled opens.0).1 mac has_it)

      -- each other row that takes the packet is after it
      others : (row : Row) → IsTaker row → (row ≡ row_for port) ⊎ (is_gt (row_cmp row (row_for port)) ≡ true)
      others row (ByMany many is) = absurd (false≢true (sym one ∙ many))
      others row (ByPort other there does is) = by (is_found.others other there does)
        where
          of_dp : other.switch ≡ dp
          of_dp =
              let same = eqb-true other.switch.0 dp.0 (and_parts (eqb other.switch.0 dp.0) other.enabled (and_parts (is_open dp other) (has_mac net mac other) does).0).0 in
              λ i. record { 0 = same i }

          by : (other ≡ port) ⊎ (port.id.0 < other.id.0) → (row ≡ row_for port) ⊎ (is_gt (row_cmp row (row_for port)) ≡ true)
          by (inl same) = inl (is ∙ ap row_for same)
          by (inr later) = inr (ap (λ (r : Row). is_gt (row_cmp r (row_for port))) is ∙ later_after (row_for other) (row_for port) (of_dp ∙ sym its_switch) refl refl later)
      others row (ByLast is) = inr (ap (λ (r : Row). is_gt (row_cmp r (row_for port))) is ∙ lower_after last_row (row_for port) (sym its_switch) refl (lit< tt))

      met : select dp LsInL2Lkup (names net) packet (network_rows net) ≡ Some (row_for port)
      met =
          first_of_takers (names net) dp LsInL2Lkup packet (row_for port) (network_rows net) (network_in_order net) its_row its_switch refl (eq-eqb mac mac refl)
          (λ row at in_it takes. others row (taker row takes (table-gives net on.sound switch on.among LsInL2Lkup row at in_it)))

      leaves : run_actions (names net) LsInL2Lkup (goes_out_by port.name) packet ≡ leaves_by packet port.id.0
      unfolding pipeline_of
      leaves = ap (λ (number : Option ℕ). after (bound_for number packet) (run_actions (names net) LsInL2Lkup goes_out)) (number_of_port net port on.sound is_found.among)

      by_port : step (flows_at net dp) LsInL2Lkup packet ≡ leaves_by packet port.id.0
      unfolding step
      by_port = ap (acted (names net) LsInL2Lkup packet) met ∙ leaves

  pub looked_up : step (flows_at net dp) LsInL2Lkup packet ≡ cond (is_multicast mac) (leaves_by packet flood_number) (found_at packet (port_for net dp mac))
  looked_up = by (is_multicast mac) (port_for net dp mac) refl refl
    where
      by : (many : Bool) (found : Option Port) → is_multicast mac ≡ many → port_for net dp mac ≡ found
          → step (flows_at net dp) LsInL2Lkup packet ≡ cond many (leaves_by packet flood_number) (found_at packet found)
      by true found m f = by_many m
      by false None m f = by_last m f
      by false (Some port) m f = by_port m port f

-- ---- what no port has

-- the rule that drops it
abbrev drop_rule : Rule
drop_rule = rule LsInL2Unknown 0 takes_each drops

abbrev send_rule : Rule
send_rule = rule LsInL2Unknown 50 takes_each (goes_out_by unknown_group)

rules_for_unknown : (tracking balances unknown : Bool) → rules_at LsInL2Unknown (rules_where tracking balances unknown) ≡ drop_rule ∷ unknown_rules unknown
unfolding switch_acl_rules switch_l2_rules stage_place
rules_for_unknown true balances true = refl
rules_for_unknown true balances false = refl
rules_for_unknown false balances true = refl
rules_for_unknown false balances false = refl

module _ (net : Network) (switch : Switch) (packet : Values) (on : IsOn net switch packet) where
  abbrev at_dp : ObjId
  at_dp = switch.id

  -- the rules of the stage are the switch's, where there are ports for unknown addresses and where there are none
  module _ (unknown : Bool) (is : has_unknown net at_dp ≡ unknown) where
    they_are : rules_at LsInL2Unknown (switch_rules net at_dp) ≡ drop_rule ∷ unknown_rules unknown
    they_are = rules_for_unknown (tracks net at_dp) (balances net at_dp) (has_unknown net at_dp) ∙ ap (λ (b : Bool). drop_rule ∷ unknown_rules b) is

    of_switch : (row : Row) → IsRule net at_dp LsInL2Unknown row → (says : Rule) × Contains (drop_rule ∷ unknown_rules unknown) says × (row ≡ row_of (unit_of_datapath at_dp) says)
    of_switch row (inl of) = (of.says, subst (λ rs. Contains rs of.says) they_are (among_rules_at LsInL2Unknown (switch_rules net at_dp) of.says of.in_rules of.of_stage), of.is)
    of_switch row (inr (inl of)) = absurd (false≢true (sym (ap is_of_ports of.of_stage) ∙ port_rule_stage net of.port of.says of.in_rules))
    of_switch row (inr (inr (inl of))) = absurd (false≢true (sym (ap is_of_acls of.of_stage) ∙ acl_rule_stage (acl_on_input net of.acl at_dp) of.says of.in_rules))
    of_switch row (inr (inr (inr of))) = absurd (of_no_vip net at_dp LsInL2Unknown row refl of)

    -- what the highest rule does is done
    done_by : (r : Rule) → Contains (drop_rule ∷ unknown_rules unknown) r → r.stage ≡ LsInL2Unknown → r.matching ≡ takes_each
        → ((says : Rule) → Contains (drop_rule ∷ unknown_rules unknown) says → (says.actions ≡ r.actions) ⊎ (says.priority < r.priority))
        → step (flows_at net at_dp) LsInL2Unknown packet ≡ run_actions (names net) LsInL2Unknown r.actions packet
    done_by r there of_stage each others =
        step_by net switch packet on LsInL2Unknown (row_of (unit_of_datapath at_dp) r) (row_of_switch net switch r on.among (from_rules_at LsInL2Unknown (switch_rules net at_dp) (drop_rule ∷ unknown_rules unknown) r they_are there))
        refl of_stage (ap (holds (names net) packet) each) (λ row of takes. by row (of_switch row of))
      where
        by : (row : Row) → (says : Rule) × Contains (drop_rule ∷ unknown_rules unknown) says × (row ≡ row_of (unit_of_datapath at_dp) says) → (row.actions ≡ r.actions) ⊎ (row.priority < r.priority)
        by row (says, in_rules, same) = subst (λ (x : Row). (x.actions ≡ r.actions) ⊎ (x.priority < r.priority)) (sym same) (others says in_rules)

  sent_to_them : has_unknown net at_dp ≡ true → step (flows_at net at_dp) LsInL2Unknown packet ≡ leaves_by packet unknown_number
  unfolding pipeline_of
  sent_to_them some =
      done_by true some send_rule (one_later drop_rule (send_rule ∷ []) send_rule (one_first send_rule [] send_rule refl)) refl refl (λ says there. first says (one_of drop_rule (send_rule ∷ []) says there))
    where
      second : (says : Rule) → (send_rule ≡ says) ⊎ Contains [] says → (says.actions ≡ goes_out_by unknown_group) ⊎ (says.priority < 50)
      second says (inl same) = inl (ap (λ (r : Rule). r.actions) (sym same))
      second says (inr none) = absurd (one_of_none says none)

      first : (says : Rule) → (drop_rule ≡ says) ⊎ Contains (send_rule ∷ []) says → (says.actions ≡ goes_out_by unknown_group) ⊎ (says.priority < 50)
      first says (inl same) = inr (subst (λ (r : Rule). r.priority < 50) same (lit< tt))
      first says (inr later) = second says (one_of send_rule [] says later)

  dropped : has_unknown net at_dp ≡ false → step (flows_at net at_dp) LsInL2Unknown packet ≡ Ends (Some (Drop Unknown))
  dropped none = done_by false none drop_rule (one_first drop_rule [] drop_rule refl) refl refl (λ says there. first says (one_of drop_rule [] says there))
    where
      first : (says : Rule) → (drop_rule ≡ says) ⊎ Contains [] says → (says.actions ≡ drops) ⊎ (says.priority < 0)
      first says (inl same) = inl (ap (λ (r : Rule). r.actions) (sym same))
      first says (inr nothing) = absurd (one_of_none says nothing)

-- ports that pass a test are none where none passes
sent_where_any : (passes : Port → Bool) (ports : List Port) (packet : Values) → sent_unknown packet (numbers (filter passes ports)) ≡ cond (list_any passes ports) (leaves_by packet unknown_number) (Ends (Some (Drop Unknown)))
sent_where_any passes [] packet = refl
sent_where_any passes (port ∷ ports) packet = by (passes port) (sent_where_any passes ports packet)
  where
    by : (b : Bool) → sent_unknown packet (numbers (filter passes ports)) ≡ cond (list_any passes ports) (leaves_by packet unknown_number) (Ends (Some (Drop Unknown)))
        → sent_unknown packet (numbers (cond b (port ∷ filter passes ports) (filter passes ports))) ≡ cond (b || list_any passes ports) (leaves_by packet unknown_number) (Ends (Some (Drop Unknown)))
    by true rest = refl
    by false rest = rest

-- ---- the laws

pub looks_up : LooksUp
looks_up net switch packet on = looked_up net switch packet on

pub finds_none : FindsNone
finds_none net switch packet on =
    by (has_unknown net switch.id) refl ∙ sym (sent_where_any (λ (port : Port). is_open switch.id port && takes_unknown port) net.ports packet)
  where
    by : (b : Bool) → has_unknown net switch.id ≡ b → step (flows_at net switch.id) LsInL2Unknown packet ≡ cond b (leaves_by packet unknown_number) (Ends (Some (Drop Unknown)))
    by true some = sent_to_them net switch packet on some
    by false none = dropped net switch packet on none
