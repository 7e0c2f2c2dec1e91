-- On the rows of a sound network actions read only fields that are there.
use Rattle.std.proofs.Common.{◌≡◌, ℕ, ◌+◌, Bool, true, false, cond, List, [], ◌∷◌, ◌++◌, map, refl, ◌∙◌, inl, inr, ◌⊎◌, subst}
use Rattle.std.specs.Prelude.{Option, Some, None}
use Rattle.std.specs.Bool.{IsTrue}
use Rattle.std.specs.List.{Contains, flat_map}
use Rattle.std.proofs.lemmas.Bool.{and_from, and_parts}
use Rattle.std.proofs.lemmas.List.Elements.{Contains-append_cases}
use Rattle.nv_base.specs.declared.field.Field.TheVariants.{EthSrc, EthDst, EthType, ArpOp, ArpSha, ArpTha, ArpSpa}
use Rattle.nv_base.specs.declared.ip4.Ip4.{Ip4}
use Rattle.pkt_core.specs.Packet.{Values, value, with_value}
use Rattle.pkt_core.specs.Prerequisite.{is_there}
use Rattle.expr_core.specs.Lookup.{Lookup}
use Rattle.expr_eval.specs.MatchMeaning.{holds}
use Rattle.act_core.specs.declared.step.Step.TheVariants as step
use Rattle.nb_records.specs.declared.acl.Verdict.{Verdict}
use Rattle.nb_records.specs.declared.acl.Verdict.TheVariants.{Allow, AllowRelated, AllowStateless, Drop, Reject}
use Rattle.nb_records.specs.declared.acl.Way.{Way}
use Rattle.nb_records.specs.declared.switch.Addr.{Addr}
use Rattle.nb_records.specs.declared.switch.Addr.TheVariants as addr
use Rattle.nb_records.specs.declared.switch.Guard.{Guard}
use Rattle.nb_records.specs.declared.switch.Port.{Port}
use Rattle.nb_model.specs.Belongs.{is_router_kind}
use Rattle.nb_model.specs.Names.{names}
use Rattle.nb_model.specs.Network.{Network}
use Rattle.nb_model.specs.Readable.{is_priority}
use Rattle.nb_model.specs.Sound.{IsSound}
use Rattle.nb_model.specs.Applies.{balances, is_empty, tracks}
use Rattle.net_rows.specs.Acls.{acl_on_rules, ending, port_acl_rules, stage_of, switch_acl_rules, tracked_rules, untracking_rules}
use Rattle.net_rows.specs.Build.{acl_on_input, acl_rules_of_port, all_rows, has_unknown, is_untracked, port_acl_input, port_l2_input, port_rules, port_sec_input, switch_rules, vip_input}
use Rattle.net_rows.specs.LoadBalancers.{vip_switch_rule, vip_switch_rules}
use Rattle.net_rows.specs.Lookup.{answers, arp_rules, arp_rules_of, lookup_rule, looked_up, port_l2_rules, requests, switch_l2_rules}
use Rattle.net_rows.specs.PortSecurity.{closed_rules, disabled_rules, guard_rules, guarded_rules, open_rules, port_sec_rules}
use Rattle.net_rows.specs.Unit.{rule}
use Rattle.net_rows.specs.declared.inputs.AclOnInput.{AclOnInput}
use Rattle.net_rows.specs.declared.inputs.PortL2Input.{PortL2Input}
use Rattle.net_rows.specs.declared.inputs.PortSecInput.{PortSecInput}
use Rattle.net_rows.specs.declared.inputs.VipInput.{VipInput}
use Rattle.net_rows.proofs.Elements.{every_append}
use Rattle.net_rows.proofs.Pairs.{every_member}
use Rattle.net_rows.proofs.Units.{IsRow, all_rows-gives}
use Rattle.lr_units.specs.Build.{router_rows}
use Rattle.lr_units.proofs.Whole.{network_members}
use Rattle.sb_model.specs.Make.{all_of, goes_on, goes_out, drops, steps, turns_back}
use Rattle.sb_model.specs.declared.row.Row.{Row}
use Rattle.sb_model.specs.declared.stage.Stage.{Stage}
use Rattle.sb_model.specs.declared.stage.Stage.TheVariants.{LsInArpRsp, LsInCheckPortSec, LsInL2Lkup, LsOutCheckPortSec}
use Rattle.tr_stage.specs.Machine.{bound_for, number_of}
use Rattle.ls_laws.proofs.Packets.{other_value}
use Rattle.ls_laws.proofs.RuleStages.{rules_where, rules_where_tracked, untracked_rule}
use Rattle.ls_ct_laws.proofs.RuleRuns.{every_image, every_piece}
use Rattle.tr_walk.specs.Reads.{FindsWhatItReads, FindWhatTheyRead, actions_find, answer_finds, once_changed}
use Rattle.tr_walk.proofs.Reading.{AllFind, Finds, all_find, any, still_of}
use Rattle.tr_walk.proofs.RouterFinds.{router_row_finds}
use Rattle.sb_model.specs.Stage.{last_table}
use Rattle.sb_model.specs.declared.stage.DatapathKind.TheVariants as datapath

module _ (known : Lookup) where
  -- ---- the rules of switches

  of_switch : (tracking balances unknown : Bool) → AllFind known (rules_where tracking balances unknown)
  unfolding switch_acl_rules switch_l2_rules
  of_switch true true true = all_find known (rules_where true true true) refl
  of_switch true true false = all_find known (rules_where true true false) refl
  of_switch true false true = all_find known (rules_where true false true) refl
  of_switch true false false = all_find known (rules_where true false false) refl
  of_switch false balances true = all_find known (rules_where false balances true) refl
  of_switch false balances false = all_find known (rules_where false balances false) refl

  -- ---- those of ACLs

  -- what answers a rejected packet came in by a port, as each packet did
  rejected : (stage : Stage) (answer : Option Values) → answer_finds known stage (turns_back ++ step.Jump true (last_table datapath.Switch) ∷ []) answer ≡ true
  rejected stage None = refl
  rejected stage (Some packet) = refl

  module _ (priority : ℕ) (matching : _) where
    of_untracked : (stage : Stage) (verdict : Verdict) → Finds known (rule stage priority matching (ending verdict))
    of_untracked stage Allow = any known _ _ _ _ (λ p. refl)
    of_untracked stage AllowRelated = any known _ _ _ _ (λ p. refl)
    of_untracked stage AllowStateless = any known _ _ _ _ (λ p. refl)
    of_untracked stage Drop = any known _ _ _ _ (λ p. refl)
    of_untracked stage Reject = any known _ _ _ _ (λ p. rejected stage _)

    of_untracking : (way : Way) (verdict : Verdict) → AllFind known (untracking_rules way priority matching verdict)
    of_untracking way Allow = tt
    of_untracking way AllowRelated = tt
    of_untracking way AllowStateless = (any known _ _ _ _ (λ p. refl), tt)
    of_untracking way Drop = tt
    of_untracking way Reject = tt

    of_tracked : (stage : Stage) (verdict : Verdict) → AllFind known (tracked_rules stage priority matching verdict)
    of_tracked stage Allow = (any known _ _ _ _ (λ p. refl), tt)
    of_tracked stage AllowRelated = (any known _ _ _ _ (λ p. refl), tt)
    of_tracked stage AllowStateless = (any known _ _ _ _ (λ p. refl), tt)
    of_tracked stage Drop = (any known _ _ _ _ (λ p. refl), (any known _ _ _ _ (λ p. refl), tt))
    of_tracked stage Reject = (any known _ _ _ _ (λ p. rejected stage _), (any known _ _ _ _ (λ p. rejected stage _), tt))

  of_acl : (input : AclOnInput) → AllFind known (acl_on_rules input)
  unfolding acl_on_rules
  of_acl input = by (is_priority input.priority) input.tracks
    where
      by : (b t : Bool) → AllFind known (cond b (cond t (rules_where_tracked input) (untracked_rule input ∷ [])) [])
      by false t = tt
      by true true =
          every_append (Finds known) (untracking_rules input.way (input.priority + 1000) input.matching input.verdict) (tracked_rules (stage_of input.way) (input.priority + 1000) input.matching input.verdict)
          (of_untracking (input.priority + 1000) input.matching input.way input.verdict) (of_tracked (input.priority + 1000) input.matching (stage_of input.way) input.verdict)
      by true false = (of_untracked (input.priority + 1000) input.matching (stage_of input.way) input.verdict, tt)

  -- ---- those of port security

  lets_in : (priority : ℕ) (matching : _) → Finds known (rule LsInCheckPortSec priority matching goes_on)
  lets_in priority matching = any known _ _ _ _ (λ p. refl)

  lets_out : (priority : ℕ) (matching : _) → Finds known (rule LsOutCheckPortSec priority matching goes_out)
  lets_out priority matching = any known _ _ _ _ (λ p. refl)

  shuts : (stage : Stage) (priority : ℕ) (matching : _) → Finds known (rule stage priority matching drops)
  shuts stage priority matching = any known _ _ _ _ (λ p. refl)

  of_guard : (name : List ℕ) (guard : Guard) → AllFind known (guard_rules name guard)
  of_guard name guard = by (is_empty guard.nets)
    where
      by : (b : Bool) → AllFind known (cond b (open_rules name guard) (closed_rules name guard))
      by true = (lets_in _ _, (lets_out _ _, tt))
      by false = (lets_in _ _, (lets_in _ _, (lets_in _ _, (lets_in _ _, (lets_out _ _, (lets_out _ _, tt))))))

  of_guards : (name : List ℕ) (guards : List Guard) → AllFind known (guarded_rules name guards)
  of_guards name [] = tt
  of_guards name (guard ∷ guards) = (shuts _ _ _, (shuts _ _ _, every_piece (Finds known) (guard_rules name) (guard ∷ guards) (λ g at. of_guard name g)))

  of_security : (input : PortSecInput) → AllFind known (port_sec_rules input)
  unfolding port_sec_rules
  of_security input = every_append (Finds known) (disabled_rules input.enabled input.name) (guarded_rules input.name input.security) (by input.enabled) (of_guards input.name input.security)
    where
      by : (b : Bool) → AllFind known (disabled_rules b input.name)
      by true = tt
      by false = (shuts _ _ _, tt)

  -- ---- those of addresses

  -- A request that is answered is ARP, and so it is while the answer is made: the sender's addresses are there when they are read.
  answered : (mac : ℕ) (ip : Ip4) (packet : Values) → IsTrue (holds known packet (all_of (requests ip))) → IsTrue (actions_find known LsInArpRsp (steps (answers mac ip)) packet)
  answered mac ip packet takes = and_from _ _ (and_from _ _ sha_there refl) (and_from _ _ (and_from _ _ spa_there refl) refl)
    where
      is_arp : is_there packet ArpOp ≡ true
      is_arp = (and_parts _ _ (and_parts _ _ takes).0).0

      one : Values
      one = with_value packet EthDst (value packet EthSrc)

      two : Values
      two = with_value one EthSrc mac

      three : Values
      three = with_value two ArpOp 2

      four : Values
      four = with_value three ArpTha (value three ArpSha)

      five : Values
      five = with_value four ArpSha mac

      type_of_three : value three EthType ≡ value packet EthType
      type_of_three = other_value two ArpOp EthType 2 refl ∙ other_value one EthSrc EthType mac refl ∙ other_value packet EthDst EthType (value packet EthSrc) refl

      type_of_five : value five EthType ≡ value packet EthType
      type_of_five = other_value four ArpSha EthType mac refl ∙ other_value three ArpTha EthType (value three ArpSha) refl ∙ type_of_three

      sha_there : is_there three ArpSha ≡ true
      sha_there = still_of packet three 0x806 type_of_three is_arp

      spa_there : is_there five ArpSpa ≡ true
      spa_there = still_of packet five 0x806 type_of_five is_arp

  of_address : (name : List ℕ) (mac : ℕ) (ip : Ip4) → AllFind known (arp_rules name mac ip)
  of_address name mac ip = (any known _ _ _ _ (λ p. refl), (record { there = answered mac ip }, tt))

  of_addresses : (name : List ℕ) (addresses : List Addr) → AllFind known (flat_map (arp_rules_of name) addresses)
  of_addresses name addresses = every_piece (Finds known) (arp_rules_of name) addresses by
    where
      by : (a : Addr) → Contains addresses a → AllFind known (arp_rules_of name a)
      by (addr.Host mac ips) there = every_piece (Finds known) (arp_rules name mac) ips (λ ip at. of_address name mac ip)
      by _ there = tt

  -- a packet goes out by the port of a name, if there is one
  sent : (stage : Stage) (number : Option ℕ) (packet : Values) → once_changed (bound_for number packet) (actions_find known stage goes_out) ≡ true
  sent stage None packet = refl
  sent stage (Some number) packet = refl

  of_lookup : (name : List ℕ) (mac : ℕ) → Finds known (lookup_rule name mac)
  of_lookup name mac = any known _ _ _ _ (λ p. sent LsInL2Lkup (number_of known name) p)

  of_l2 : (input : PortL2Input) → AllFind known (port_l2_rules input)
  unfolding port_l2_rules
  of_l2 input = by input.enabled (is_router_kind input.kind)
    where
      by : (enabled router : Bool) → AllFind known (cond enabled (cond router [] (flat_map (arp_rules_of input.name) input.addresses) ++ map (lookup_rule input.name) (looked_up input)) [])
      by false router = tt
      by true true = every_image (Finds known) (lookup_rule input.name) (looked_up input) (λ mac. of_lookup input.name mac)
      by true false =
          every_append (Finds known) (flat_map (arp_rules_of input.name) input.addresses) (map (lookup_rule input.name) (looked_up input)) (of_addresses input.name input.addresses)
          (every_image (Finds known) (lookup_rule input.name) (looked_up input) (λ mac. of_lookup input.name mac))

  -- ---- those of VIPs

  of_vip : (input : VipInput) → AllFind known (vip_switch_rules input)
  unfolding vip_switch_rules
  of_vip input = by (is_empty input.backends)
    where
      by : (b : Bool) → AllFind known (cond b [] (vip_switch_rule input ∷ []))
      by true = tt
      by false = (any known _ _ _ _ (λ p. refl), tt)

-- ---- the rows

module _ (net : Network) (sound : IsSound net) where
  -- those of a port that leads to a router
  of_port_acl : (port : Port) → AllFind (names net) (acl_rules_of_port net port)
  unfolding port_acl_rules
  of_port_acl port = by (is_untracked net port)
    where
      by : (b : Bool) → AllFind (names net) (cond b (port_acl_rules (port_acl_input port)) [])
      by true = (any (names net) _ _ _ _ (λ p. refl), (any (names net) _ _ _ _ (λ p. refl), tt))
      by false = tt

  of_port_rules : (port : Port) → AllFind (names net) (port_rules net port)
  of_port_rules port =
      every_append (Finds (names net)) (port_sec_rules (port_sec_input port)) (acl_rules_of_port net port ++ port_l2_rules (port_l2_input net port)) (of_security (names net) (port_sec_input port))
      (every_append (Finds (names net)) (acl_rules_of_port net port) (port_l2_rules (port_l2_input net port)) (of_port_acl port) (of_l2 (names net) (port_l2_input net port)))

  of_row : (row : Row) → IsRow net row → FindsWhatItReads (names net) row
  of_row row (inl at) =
      let dp = at.switch.id in
      let all = of_switch (names net) (tracks net dp) (balances net dp) (has_unknown net dp) in
      subst (FindsWhatItReads (names net)) at.is (every_member (Finds (names net)) (switch_rules net dp) at.says all at.in_rules).there
  of_row row (inr (inl at)) =
      subst (FindsWhatItReads (names net)) at.is (every_member (Finds (names net)) (port_rules net at.port) at.says (of_port_rules at.port) at.in_rules).there
  of_row row (inr (inr (inl at))) =
      let input = acl_on_input net at.acl at.switch.id in
      subst (FindsWhatItReads (names net)) at.is (every_member (Finds (names net)) (acl_on_rules input) at.says (of_acl (names net) input) at.in_rules).there
  of_row row (inr (inr (inr at))) =
      let input = vip_input at.lb at.vip in
      subst (FindsWhatItReads (names net)) at.is (every_member (Finds (names net)) (vip_switch_rules input) at.says (of_vip (names net) input) at.in_rules).there

  -- a row is of a switch or of a router
  pub find : FindWhatTheyRead net
  find row there = by (Contains-append_cases (all_rows net) (router_rows net) row ((network_members net row).0 there))
    where
      by : Contains (all_rows net) row ⊎ Contains (router_rows net) row → FindsWhatItReads (names net) row
      by (inl at) = of_row row (all_rows-gives net row at)
      by (inr at) = router_row_finds net row at
