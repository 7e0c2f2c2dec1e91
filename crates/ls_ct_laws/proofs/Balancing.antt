-- What the stage of load balancers does with a packet on a switch that tracks connections: what begins a connection to a VIP goes to one of its
-- backends.
use Rattle.std.proofs.Common.{◌≡◌, ℕ, ◌<◌, Bool, true, false, List, [], ◌∷◌, length, map, sym, ap, refl, ◌∙◌, subst, ◌⊎◌, inl, inr, lit<}
use Rattle.std.specs.Prelude.{◌&&◌, if◌then◌else◌, Option, Some, None, option_and_then, option_map, slice_get}
use Rattle.std.specs.Ordering.{is_gt}
use Rattle.std.specs.List.{Contains}
use Rattle.std.proofs.lemmas.Bool.{false≢true, and_from, and_parts}
use Rattle.nv_base.specs.declared.field.Field.TheVariants.{Inport, Reg0}
use Rattle.nv_base.specs.declared.object.ObjId.{ObjId}
use Rattle.pkt_core.specs.declared.tuple.Tuple.{Tuple}
use Rattle.pkt_core.specs.Packet.{Values, value}
use Rattle.pkt_core.specs.Prerequisite.{is_ip4}
use Rattle.pkt_core.specs.Tuple.{tuple}
use Rattle.ct_core.specs.declared.look.Look.{Look}
use Rattle.ct_core.specs.declared.look.Look.TheVariants.{Invalid, New, Found}
use Rattle.ct_core.specs.declared.zone.Zone.TheVariants.{Port}
use Rattle.ct_core.specs.Translation.{balance, with_destination}
use Rattle.expr_eval.specs.MatchMeaning.{holds}
use Rattle.act_core.specs.declared.action.Action.{Action}
use Rattle.act_core.specs.declared.step.Target.{Target}
use Rattle.nb_records.specs.declared.balancer.Backend.{Backend}
use Rattle.nb_records.specs.declared.balancer.Lb.{Lb}
use Rattle.nb_records.specs.declared.balancer.Vip.{Vip}
use Rattle.nb_records.specs.declared.switch.Switch.{Switch}
use Rattle.nb_model.specs.Applies.{balances, lbs_on, tracks}
use Rattle.nb_model.specs.Names.{names}
use Rattle.nb_model.specs.Network.{Network}
use Rattle.sb_model.specs.Make.{goes_on, steps}
use Rattle.sb_model.specs.Stage.{all_stages, next_stage, pipeline_of, stage_at, stage_place}
use Rattle.sb_model.specs.declared.row.Row.{Row}
use Rattle.sb_model.specs.declared.stage.Pipeline.TheVariants.{Ingress}
use Rattle.sb_model.specs.declared.stage.Stage.TheVariants.{LsInLb, LsInStateful}
use Rattle.sb_rows.specs.Row.{row_cmp}
use Rattle.net_meaning.specs.Balancing.{backend_for, balanced_tuple}
use Rattle.net_meaning.specs.Balancing as meaning
use Rattle.net_rows.specs.Acls.{switch_acl_rules}
use Rattle.net_rows.specs.Build.{acl_on_input, has_unknown, switch_rules, vip_input}
use Rattle.net_rows.specs.LoadBalancers.{balances_to, keeps_no_more, opens, priority_of_vip, target_of, vip_switch_rule}
use Rattle.net_rows.specs.Lookup.{switch_l2_rules}
use Rattle.net_rows.specs.Unit.{row_of, unit_of, unit_of_datapath}
use Rattle.net_rows.specs.declared.rule.Rule.{Rule}
use Rattle.net_rows.proofs.Elements.{one_first}
use Rattle.net_rows.proofs.VipRules.{vip_switch_only}
use Rattle.tr_pipe.specs.Machine.{StageEnd, bound_if, run_actions, step}
use Rattle.tr_pipe.specs.Machine.StageEnd.{On}
use Rattle.tr_pipe.specs.Tracking.{Flight, zone_of}
use Rattle.ls_laws.specs.Steps.{IsOn, flows_at}
use Rattle.ls_laws.proofs.ChosenVips.{some_backends}
use Rattle.ls_laws.proofs.MeantVips.{IsAfter, IsMeant, goes_to, has_tuple, meant, none_meant}
use Rattle.ls_laws.proofs.RuleStages.{acl_rule_stage, among_rules_at, from_rules_at, is_of_acls, is_of_ports, port_rule_stage, rules_at, the_only, vip_rule-from}
use Rattle.ls_laws.proofs.Tables.{IsRule, is_attached_to, row_of_switch, row_of_vip}
use Rattle.ls_laws.proofs.Takers.{later_after, lower_after}
use Rattle.ls_laws.proofs.VipMatches.{balanced_is, is_for, is_new, opens_for_ip4, opens_is, to_backend}
use Rattle.ls_ct_laws.specs.Tracking.{Balances, IsNoted, balanced, kept_no_more}
use Rattle.ls_ct_laws.proofs.Alike.{same_tuple}
use Rattle.ls_ct_laws.proofs.Meets.{meets}
use Rattle.ls_ct_laws.proofs.Noted.{AreAlike, alike_noted, alike_self}
use Rattle.ls_ct_laws.proofs.TrackedRules.{passing, switch_rules-tracked, tracked_switch_rules}

-- the rule of the switch
abbrev last_rule : Rule
last_rule = passing LsInLb

of_switch : (balancing unknown : Bool) → rules_at LsInLb (tracked_switch_rules balancing unknown) ≡ last_rule ∷ []
unfolding switch_acl_rules switch_l2_rules stage_place
of_switch balancing true = refl
of_switch balancing false = refl

-- the rule of a VIP is above it
above : (port : Option ℕ) → 0 < priority_of_vip port
above None = lit< tt
above (Some port) = lit< tt

-- what begins no connection, or is for no VIP, goes on
not_new : (to : Option Tuple) (flight : Flight) (found : Option Look) → is_new found ≡ false → balanced to flight found ≡ On LsInStateful flight
not_new None flight found is = refl
not_new (Some t) flight None is = refl
not_new (Some t) flight (Some Invalid) is = refl
not_new (Some t) flight (Some New) is = absurd (false≢true (sym is))
not_new (Some t) flight (Some (Found place side related blocked)) is = refl

-- what a rule of a VIP does
abbrev sends_to : List Backend → List Action
sends_to backends = steps (keeps_no_more ∷ balances_to backends ∷ [])

module _ (net : Network) (switch : Switch) (flight : Flight) (on : IsOn net switch flight.packet) where
  abbrev dp : ObjId
  dp = switch.id

  abbrev packet : Values
  packet = flight.packet

  -- ---- what rows do

  last_does : run_actions (names net) dp LsInLb goes_on flight ≡ On LsInStateful flight
  unfolding next_stage stage_at all_stages
  last_does = refl

  -- a packet that gets this tuple, if it gets one
  abbrev to : Option Tuple → StageEnd
  to t = bound_if (Some LsInStateful) (zone_of Ingress packet) t (kept_no_more flight)

  -- what is noted changes neither the port nor the connection
  alike : AreAlike (kept_no_more flight).packet packet
  alike = alike_noted packet packet Reg0 _ refl (alike_self packet on.formed.count)

  vip_does : (vip : Vip) → run_actions (names net) dp LsInLb (sends_to vip.backends) flight ≡ to (option_map (to_backend packet) (backend_for packet vip))
  unfolding next_stage stage_at all_stages pipeline_of
  vip_does vip =
      is_bound
      ∙ ap (λ n. bound_if (Some LsInStateful) (Port (record { 0 = n })) (chosen (tuple (kept_no_more flight).packet)) (kept_no_more flight)) (alike.same Inport refl)
      ∙ ap (λ t. to (chosen t)) (same_tuple (kept_no_more flight).packet packet alike)
      ∙ ap to (balanced_is packet vip.backends)
    where
      chosen : Tuple → Option Tuple
      chosen t =
          option_map (λ (target : Target). with_destination target.addr target.port t) (slice_get (map target_of vip.backends) (balance t (length (map target_of vip.backends))))

      is_bound : run_actions (names net) dp LsInLb (sends_to vip.backends) flight
          ≡ bound_if (Some LsInStateful) (Port (record { 0 = value (kept_no_more flight).packet Inport })) (chosen (tuple (kept_no_more flight).packet)) (kept_no_more flight)
      is_bound = refl

  -- ---- the rows that take the packet

  abbrev takes_it : Row → Type 0
  takes_it row = holds (names net) packet row.matching ≡ true

  abbrev last_row : Row
  last_row = row_of (unit_of_datapath dp) last_rule

  abbrev vip_row : Lb → Vip → Row
  vip_row lb vip = row_of (unit_of dp lb.id) (vip_switch_rule (vip_input lb vip))

  data IsTaker (row : Row) : Type 0 where
    ByVip : (lb : Lb) → Contains (lbs_on net dp) lb → (vip : Vip) → Contains lb.vips vip → holds (names net) packet (opens (vip_input lb vip)) ≡ true → row ≡ vip_row lb vip → IsTaker row
    ByLast : row ≡ last_row → IsTaker row

  module _ (tracking : tracks net dp ≡ true) where
    are : rules_at LsInLb (switch_rules net dp) ≡ last_rule ∷ []
    are = ap (rules_at LsInLb) (switch_rules-tracked net dp tracking) ∙ of_switch (balances net dp) (has_unknown net dp)

    taker : (row : Row) → IsRule net dp LsInLb row → takes_it row → IsTaker row
    taker row (inl of) takes =
        let at = among_rules_at LsInLb (switch_rules net dp) of.says of.in_rules of.of_stage in
        ByLast (of.is ∙ ap (row_of (unit_of_datapath dp)) (the_only last_rule of.says (subst (λ rs. Contains rs of.says) are at)))
    taker row (inr (inl of)) takes = absurd (false≢true (sym (ap is_of_ports of.of_stage) ∙ port_rule_stage net of.port of.says of.in_rules))
    taker row (inr (inr (inl of))) takes = absurd (false≢true (sym (ap is_of_acls of.of_stage) ∙ acl_rule_stage (acl_on_input net of.acl dp) of.says of.in_rules))
    taker row (inr (inr (inr of))) takes =
        let is : row ≡ vip_row of.lb of.vip = of.is ∙ ap (row_of (unit_of dp of.lb.id)) (sym (vip_switch_only (vip_input of.lb of.vip) of.says of.in_rules)) in
        ByVip of.lb of.attached of.vip of.in_lb (sym (ap (λ (r : Row). holds (names net) packet r.matching) is) ∙ takes) is

    abbrev Does : StageEnd → Type 0
    Does end = step (flows_at net dp) LsInLb flight ≡ end

    -- ---- where no row of a VIP takes it

    by_last : ((lb : Lb) → Contains (lbs_on net dp) lb → (vip : Vip) → Contains lb.vips vip → holds (names net) packet (opens (vip_input lb vip)) ≡ true → ⊥) → Does (On LsInStateful flight)
    by_last none =
        meets net switch flight on LsInLb last_row
        (row_of_switch net switch last_rule on.among (from_rules_at LsInLb (switch_rules net dp) (last_rule ∷ []) last_rule are (one_first last_rule [] last_rule refl))) refl refl refl
        (λ row of takes. inl (others row (taker row of takes)))
        ∙ last_does
      where
        others : (row : Row) → IsTaker row → row.actions ≡ goes_on
        others row (ByVip lb attached vip in_lb takes is) = absurd (none lb attached vip in_lb takes)
        others row (ByLast is) = ap (λ (r : Row). r.actions) is

    -- ---- packets of IPv4

    module _ (ip4 : is_ip4 packet ≡ true) (noted : IsNoted flight.look packet) where
      opening : (lb : Lb) (vip : Vip) → holds (names net) packet (opens (vip_input lb vip)) ≡ (is_new flight.look && is_for packet lb vip)
      opening lb vip = opens_is (names net) packet ip4 flight.look noted.flags lb vip

      opened : (lb : Lb) (vip : Vip) → holds (names net) packet (opens (vip_input lb vip)) ≡ true → (is_new flight.look ≡ true) × (is_for packet lb vip ≡ true)
      opened lb vip takes = and_parts (is_new flight.look) (is_for packet lb vip) (sym (opening lb vip) ∙ takes)

      -- what begins a connection to a VIP goes to one of its backends
      by_vip : is_new flight.look ≡ true → (vip : Vip) → IsMeant net on.sound (is_attached_to net dp) packet vip → Does (to (option_map (to_backend packet) (backend_for packet vip)))
      by_vip new vip first =
          meets net switch flight on LsInLb its_row
          (row_of_vip net switch first.lb vip (vip_switch_rule (vip_input first.lb vip)) on.among first.attached first.in_lb
          (vip_rule-from (vip_input first.lb vip) (some_backends net on.sound (is_attached_to net dp) first.lb first.attached vip first.in_lb))) refl refl
          (opening first.lb vip ∙ and_from (is_new flight.look) (is_for packet first.lb vip) new first.taken) (λ row of takes. others row (taker row of takes))
          ∙ vip_does vip
        where
          its_row : Row
          its_row = vip_row first.lb vip

          IsOther : Row → Type 0
          IsOther row = (row.actions ≡ sends_to vip.backends) ⊎ (is_gt (row_cmp row its_row) ≡ true)

          after : (row other : Row) → row ≡ other → is_gt (row_cmp other its_row) ≡ true → IsOther row
          after row other is gt = inr (ap (λ (r : Row). is_gt (row_cmp r its_row)) is ∙ gt)

          by : (row : Row) (lb : Lb) (another : Vip) → row ≡ vip_row lb another → IsAfter first.lb vip lb another → IsOther row
          by row lb another is (inl same) = inl (ap (λ (r : Row). r.actions) is ∙ ap (λ (v : Vip). sends_to v.backends) same)
          by row lb another is (inr (inl lower)) = after row (vip_row lb another) is (lower_after (vip_row lb another) its_row refl refl lower)
          by row lb another is (inr (inr later)) = after row (vip_row lb another) is (later_after (vip_row lb another) its_row refl refl later.0 later.1)

          others : (row : Row) → IsTaker row → IsOther row
          others row (ByVip lb attached another in_lb takes is) = by row lb another is (first.others lb attached another in_lb (opened lb another takes).1)
          others row (ByLast is) = after row last_row is (lower_after last_row its_row refl refl (above vip.at.port))

      by_new : is_new flight.look ≡ true → (found : Option Vip) → meaning.vip (lbs_on net dp) packet ≡ found → Does (balanced (balanced_tuple (lbs_on net dp) packet) flight (Some New))
      by_new new (Some vip) is =
          let first = meant net on.sound (is_attached_to net dp) packet vip is in
          let t = has_tuple net on.sound (is_attached_to net dp) packet vip first in
          by_vip new vip first ∙ ap to t.1
          ∙ sym (ap (λ o. balanced o flight (Some New)) (goes_to net on.sound (is_attached_to net dp) packet vip is ∙ t.1))
      by_new new None is =
          by_last (λ lb attached vip in_lb takes. none_meant net on.sound (is_attached_to net dp) packet is lb attached vip in_lb (opened lb vip takes).1)
          ∙ sym (ap (λ v. balanced (option_map (to_backend packet) (option_and_then (backend_for packet) v)) flight (Some New)) is)

      by_known : (found : Option Look) → flight.look ≡ found → is_new found ≡ false → Does (balanced (balanced_tuple (lbs_on net dp) packet) flight found)
      by_known found is known =
          by_last (λ lb attached vip in_lb takes. false≢true (sym (ap is_new is ∙ known) ∙ (opened lb vip takes).0))
          ∙ sym (not_new (balanced_tuple (lbs_on net dp) packet) flight found known)

      by_look : (found : Option Look) → flight.look ≡ found → Does (balanced (balanced_tuple (lbs_on net dp) packet) flight found)
      by_look None is = by_known None is refl
      by_look (Some Invalid) is = by_known (Some Invalid) is refl
      by_look (Some New) is = by_new (ap is_new is) (meaning.vip (lbs_on net dp) packet) refl
      by_look (Some (Found place side related blocked)) is = by_known (Some (Found place side related blocked)) is refl

pub balances_new : Balances
balances_new net switch flight noted on tracking = by (is_ip4 flight.packet) refl
  where
    by : (b : Bool) → is_ip4 flight.packet ≡ b
        → step (flows_at net switch.id) LsInLb flight ≡ (if b then balanced (balanced_tuple (lbs_on net switch.id) flight.packet) flight flight.look else On LsInStateful flight)
    by true ip4 = by_look net switch flight on tracking ip4 noted flight.look refl
    by false other = by_last net switch flight on tracking (λ lb attached vip in_lb takes. false≢true (sym other ∙ opens_for_ip4 (names net) flight.packet (vip_input lb vip) takes))
