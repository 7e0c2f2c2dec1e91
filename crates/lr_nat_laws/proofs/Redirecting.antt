-- What begins a connection goes to a backend of the VIP that the meaning says, else to the logical address of the rule that it says.
use Rattle.std.proofs.Common.{◌≡◌, ℕ, ◌<◌, Bool, true, false, List, [], ◌∷◌, map, eqb, sym, ap, refl, ◌∙◌, subst, ◌⊎◌, inl, inr, lit<, arith}
use Rattle.std.specs.Prelude.{◌&&◌, not, Option, Some, None, option_map, option_and_then}
use Rattle.std.specs.List.{Contains}
use Rattle.std.proofs.lemmas.Bool.{false≢true, and_from, and_parts}
use Rattle.nv_base.specs.declared.field.Field.TheVariants.{Ip4Dst}
use Rattle.nv_base.specs.declared.object.ObjId.{ObjId}
use Rattle.pkt_core.specs.declared.tuple.Tuple.{Tuple}
use Rattle.pkt_core.specs.Packet.{Values, value}
use Rattle.pkt_core.specs.Prerequisite.{is_ip4}
use Rattle.pkt_core.specs.Tuple.{tuple}
use Rattle.ct_core.specs.declared.entry.Entry.{Entry}
use Rattle.ct_core.specs.declared.look.Look.{Look}
use Rattle.ct_core.specs.declared.look.Look.TheVariants.{Invalid, New, Found}
use Rattle.ct_core.specs.declared.zone.Zone.TheVariants.{Dnat}
use Rattle.ct_core.specs.Changes.{recorded}
use Rattle.ct_core.specs.Translation.{begun_as, with_destination}
use Rattle.expr_core.specs.declared.predicate.Pred.TheVariants.{CtNew}
use Rattle.expr_eval.specs.MatchMeaning.{holds}
use Rattle.nb_records.specs.declared.balancer.Lb.{Lb}
use Rattle.nb_records.specs.declared.balancer.Vip.{Vip}
use Rattle.nb_records.specs.declared.router.Nat.{Nat}
use Rattle.nb_records.specs.declared.router.Router.{Router}
use Rattle.nb_model.specs.Belongs.{either, is_snat}
use Rattle.nb_model.specs.Names.{names}
use Rattle.nb_model.specs.Network.{Network, same}
use Rattle.nb_router.specs.Vocabulary.{dnats, is_attached, lbs_of, nats_of}
use Rattle.nv_table.proofs.Found.{found_there, none_passes}
use Rattle.sb_model.specs.Make.{goes_on, is_predicate}
use Rattle.sb_model.specs.Stage.{all_stages, next_stage, stage_at, stage_place}
use Rattle.sb_model.specs.declared.row.Row.{Row}
use Rattle.sb_model.specs.declared.stage.Stage.{Stage}
use Rattle.sb_model.specs.declared.stage.Stage.TheVariants.{LrInDnat, LrInIpRouting}
use Rattle.net_meaning.specs.Balancing as meaning
use Rattle.net_meaning.specs.Balancing.{backend_for}
use Rattle.net_router.specs.Translation.{bound_if, destination_rule, new_tuple}
use Rattle.net_rows.specs.Build.{vip_input}
use Rattle.net_rows.specs.LoadBalancers.{priority_of_vip, target_of}
use Rattle.net_rows.specs.Unit.{row_of, unit_of, unit_of_datapath}
use Rattle.net_rows.specs.declared.rule.Rule.{Rule}
use Rattle.net_rows.proofs.Elements.{one_first}
use Rattle.net_rows.proofs.Pairs.{OfPairs, pairs_filter}
use Rattle.net_rows.proofs.Sound.{rises}
use Rattle.lr_rows.specs.Balancers.{balancing_rule}
use Rattle.lr_rows.specs.Nat.{router_nat_rules}
use Rattle.lr_units.specs.Units.{nat_rule_input, vip_addr_input}
use Rattle.ls_laws.proofs.ChosenVips.{in_pairs, some_backends}
use Rattle.ls_laws.proofs.Firsts.{find-first}
use Rattle.ls_laws.proofs.MeantVips.{IsAfter, IsMeant, goes_to as gets_tuple, has_tuple, meant, none_meant}
use Rattle.ls_laws.proofs.PassingStages.{passing}
use Rattle.ls_laws.proofs.RuleStages.{from_rules_at, rules_at, the_only}
use Rattle.ls_laws.proofs.VipMatches.{and_all, balanced_is, destination_match, is_for, is_new, new_is, opens_is, to_backend}
use Rattle.tr_pipe.specs.Machine as machine
use Rattle.tr_pipe.specs.Machine.{StageEnd, run_actions, step}
use Rattle.tr_pipe.specs.Machine.StageEnd.{On}
use Rattle.tr_pipe.specs.Tracking.{Flight}
use Rattle.tr_pipe.specs.Translating.{balanced_to, redirected_to}
use Rattle.lr_laws.specs.Steps.{IsOnRouter, flows_at}
use Rattle.lr_nat_laws.specs.Steps.{IsFlagged, Redirects, changed_to, redirected_by}
use Rattle.lr_laws.proofs.OwnRules.{own_rule-gives}
use Rattle.lr_laws.proofs.StageLayers.{does, step_by_row}
use Rattle.lr_laws.proofs.Tables.{IsNatRule, IsOwnRule, IsRule, IsVipRule, Translates, nat_of, own_rules, rows-nat, rows-router_nat, rows-vip}
use Rattle.lr_laws.proofs.Tables.Translates.{OfNat, OfVip, OfVipAddr}
use Rattle.lr_laws.proofs.TranslationRules.{IsNatSays, nat_rule-gives, redirecting-from, redirecting_rule, vip_addr_rule-gives, vip_rule-from, vip_rule-gives}
use Rattle.lr_nat_laws.proofs.TranslationStages.{by_origin, goes_to}

-- the rule of a router
abbrev last_rule : Rule
last_rule = passing LrInDnat

of_router : (dnats : Bool) → rules_at LrInDnat (own_rules dnats) ≡ last_rule ∷ []
unfolding router_nat_rules stage_place
of_router true = refl
of_router false = refl

of_translation : (dnats : Bool) → rules_at LrInDnat (router_nat_rules (record { dnats = dnats })) ≡ last_rule ∷ []
unfolding router_nat_rules stage_place
of_translation true = refl
of_translation false = refl

-- the stage
abbrev is_here : Stage → Bool
is_here LrInDnat = true
is_here _ = false

module _ (net : Network) (router : Router) (flight : Flight) (on : IsOnRouter net router flight.packet) (ip4 : is_ip4 flight.packet ≡ true) (flagged : IsFlagged flight) where
  abbrev packet : Values
  packet = flight.packet

  abbrev dp : ObjId
  dp = router.id

  -- a packet that gets this tuple, if it gets one
  abbrev to : Option Tuple → StageEnd
  to t = changed_to LrInIpRouting flight (bound_if (Dnat dp) t packet flight.state)

  abbrev to_logical : Nat → Tuple
  to_logical nat = with_destination nat.logical.base None (tuple packet)

  abbrev to_vip : Vip → StageEnd
  to_vip vip = to (option_map (to_backend packet) (backend_for packet vip))

  abbrev its_does : Row → StageEnd
  its_does = does net router flight on LrInDnat

  -- ---- what rows do

  bound_is : (t : Option Tuple) → machine.bound_if (Some LrInIpRouting) (Dnat dp) t flight ≡ to t
  bound_is None = refl
  bound_is (Some t) = by (recorded (begun_as (Dnat dp) t packet) flight.state.conns) refl
    where
      by : (o : Option (List Entry)) → recorded (begun_as (Dnat dp) t packet) flight.state.conns ≡ o → machine.bound_if (Some LrInIpRouting) (Dnat dp) (Some t) flight ≡ to (Some t)
      by (Some conns) is = rw is refl
      by None is = rw is refl

  vip_does : (lb : Lb) (vip : Vip) → run_actions (names net) dp LrInDnat (balancing_rule (vip_input lb vip)).actions flight ≡ to_vip vip
  unfolding next_stage stage_at all_stages
  vip_does lb vip = bound_is (balanced_to (map target_of vip.backends) packet) ∙ ap to (balanced_is packet vip.backends)

  nat_does : (nat : Nat) → run_actions (names net) dp LrInDnat (redirecting_rule (nat_rule_input nat)).actions flight ≡ to (Some (to_logical nat))
  unfolding next_stage stage_at all_stages
  nat_does nat = bound_is (Some (redirected_to nat.logical.base packet))

  last_does : run_actions (names net) dp LrInDnat goes_on flight ≡ On LrInIpRouting flight
  unfolding next_stage stage_at all_stages
  last_does = goes_to net router flight on LrInDnat LrInIpRouting refl

  -- ---- the matches

  vip_match : (lb : Lb) (vip : Vip) → holds (names net) packet (balancing_rule (vip_input lb vip)).matching ≡ (is_new flight.look && is_for packet lb vip)
  vip_match lb vip = opens_is (names net) packet ip4 flight.look flagged lb vip

  -- a rule changes destinations, and the packet is to its external address
  abbrev redirects : Nat → Bool
  redirects nat = not (is_snat nat.kind) && eqb nat.external.0 (value packet Ip4Dst)

  nat_match : (nat : Nat) → holds (names net) packet (redirecting_rule (nat_rule_input nat)).matching ≡ (is_new flight.look && eqb nat.external.0 (value packet Ip4Dst))
  nat_match nat =
      ap (λ b. holds (names net) packet (is_predicate CtNew) && b) (and_all (is_ip4 packet && eqb (value packet Ip4Dst) nat.external.0))
      ∙ (λ i. new_is (names net) packet flight.look flagged i && destination_match (names net) packet ip4 nat.external.0 i)

  -- ---- the rows that take the packet

  data IsTaker (row : Row) : Type 0 where
    ByVip : is_new flight.look ≡ true → (lb : Lb) → Contains (lbs_of net dp) lb → (vip : Vip) → Contains lb.vips vip → is_for packet lb vip ≡ true → row.priority ≡ priority_of_vip vip.at.port → row.hint ≡ lb.id → its_does row ≡ to_vip vip → IsTaker row
    ByNat : is_new flight.look ≡ true → (nat : Nat) → Contains (nats_of net dp) nat → redirects nat ≡ true → row.priority ≡ 100 → row.hint ≡ nat.id → its_does row ≡ to (Some (to_logical nat)) → IsTaker row
    ByLast : row.priority ≡ 0 → its_does row ≡ On LrInIpRouting flight → IsTaker row

  by_own : (row : Row) → IsOwnRule net dp LrInDnat row → IsTaker row
  by_own row of =
      let is = the_only last_rule of.says (own_rule-gives LrInDnat (last_rule ∷ []) of.says (dnats net dp) of_router of.in_rules of.of_stage) in
      let row_is : row ≡ row_of (unit_of_datapath dp) last_rule = of.is ∙ ap (row_of (unit_of_datapath dp)) is in
      ByLast (ap (λ (r : Row). r.priority) row_is) (ap its_does row_is ∙ last_does)

  by_nat : (row : Row) → IsNatRule net dp LrInDnat row → holds (names net) packet row.matching ≡ true → IsTaker row
  by_nat row of takes = by (nat_rule-gives (nat_rule_input of.nat) of.says of.in_rules)
    where
      elsewhere : (other : Rule) → of.says ≡ other → is_here other.stage ≡ false → IsTaker row
      elsewhere other is apart = absurd (false≢true (sym apart ∙ ap (λ (r : Rule). is_here r.stage) (sym is) ∙ ap is_here of.of_stage))

      by : IsNatSays (nat_rule_input of.nat) of.says → IsTaker row
      by (IsNatSays.Answers is) = elsewhere _ is refl
      by (IsNatSays.GivesBack changes is) = elsewhere _ is refl
      by (IsNatSays.Hides changes is) = elsewhere _ is refl
      by (IsNatSays.Redirects changes is) =
          let row_is : row ≡ row_of (unit_of dp of.nat.id) (redirecting_rule (nat_rule_input of.nat)) = of.is ∙ ap (row_of (unit_of dp of.nat.id)) is in
          let parts = and_parts (is_new flight.look) (eqb of.nat.external.0 (value packet Ip4Dst)) (sym (nat_match of.nat) ∙ (sym (ap (λ (r : Row). holds (names net) packet r.matching) row_is) ∙ takes)) in
          ByNat parts.0 of.nat of.among (and_from (not (is_snat of.nat.kind)) (eqb of.nat.external.0 (value packet Ip4Dst)) changes parts.1) (ap (λ (r : Row). r.priority) row_is) (ap (λ (r : Row). r.hint) row_is)
          (ap its_does row_is ∙ nat_does of.nat)

  by_vip : (row : Row) → IsVipRule net dp LrInDnat row → holds (names net) packet row.matching ≡ true → IsTaker row
  by_vip row of takes =
      ByVip parts.0 of.lb of.among of.vip of.in_lb parts.1 (ap (λ (r : Row). r.priority) row_is) (ap (λ (r : Row). r.hint) row_is) (ap its_does row_is ∙ vip_does of.lb of.vip)
    where
      row_is : row ≡ row_of (unit_of dp of.lb.id) (balancing_rule (vip_input of.lb of.vip))
      row_is = of.is ∙ ap (row_of (unit_of dp of.lb.id)) (vip_rule-gives (vip_input of.lb of.vip) of.says of.in_rules).is

      parts : (is_new flight.look ≡ true) × (is_for packet of.lb of.vip ≡ true)
      parts = and_parts (is_new flight.look) (is_for packet of.lb of.vip) (sym (vip_match of.lb of.vip) ∙ (sym (ap (λ (r : Row). holds (names net) packet r.matching) row_is) ∙ takes))

  by_translation : (row : Row) → Translates net dp LrInDnat row → holds (names net) packet row.matching ≡ true → IsTaker row
  by_translation row (OfNat of) takes = by_nat row of takes
  by_translation row (OfVip of) takes = by_vip row of takes
  by_translation row (OfVipAddr of) takes =
      absurd (false≢true (ap (λ (r : Rule). is_here r.stage) (sym (vip_addr_rule-gives (vip_addr_input of.addr) of.says of.in_rules)) ∙ ap is_here of.of_stage))

  taker : (row : Row) → IsRule net dp LrInDnat row → holds (names net) packet row.matching ≡ true → IsTaker row
  taker row of takes = by_origin net router flight on LrInDnat (record { port = refl; route = refl; host = refl }) row (by_own row) (λ translates. by_translation row translates takes) of

  -- ---- where no row but the last takes it

  abbrev Steps : StageEnd → Type 0
  Steps end = step (flows_at net dp) LrInDnat flight ≡ end

  by_last : ((row : Row) → IsTaker row → its_does row ≡ On LrInIpRouting flight) → Steps (On LrInIpRouting flight)
  by_last all =
      step_by_row net router flight on LrInDnat (row_of (unit_of_datapath dp) last_rule)
      (rows-router_nat net router last_rule on.among
      (from_rules_at LrInDnat (router_nat_rules (record { dnats = dnats net dp })) (last_rule ∷ []) last_rule (of_translation (dnats net dp)) (one_first last_rule [] last_rule refl))) refl refl refl
      (λ row of takes. inl (all row (taker row of takes) ∙ sym last_does))
      ∙ last_does

  by_known : is_new flight.look ≡ false → Steps (On LrInIpRouting flight)
  by_known known = by_last others
    where
      others : (row : Row) → IsTaker row → its_does row ≡ On LrInIpRouting flight
      others row (ByVip new lb attached vip in_lb asks priority hint done) = absurd (false≢true (sym known ∙ new))
      others row (ByNat new nat there passed priority hint done) = absurd (false≢true (sym known ∙ new))
      others row (ByLast priority done) = done

  -- ---- where it begins a connection

  module _ (new : is_new flight.look ≡ true) where
    -- the VIP that the packet is for
    abbrev its_vip : Option Vip
    its_vip = meaning.vip (lbs_of net dp) packet

    -- what follows where each other row is as late
    abbrev IsLater : Row → Row → Type 0
    IsLater r row = (its_does row ≡ its_does r) ⊎ ((row.priority < r.priority) ⊎ ((row.priority ≡ r.priority) × (r.hint.0 < row.hint.0)))

    abbrev vip_row : Lb → Vip → Row
    vip_row lb vip = row_of (unit_of dp lb.id) (balancing_rule (vip_input lb vip))

    by_vip_row : (vip : Vip) → IsMeant net on.sound (is_attached net dp) packet vip → Steps (to_vip vip)
    by_vip_row vip first =
        step_by_row net router flight on LrInDnat its_row
        (rows-vip net router first.lb vip (balancing_rule (vip_input first.lb vip)) on.among first.attached first.in_lb
        (vip_rule-from (vip_input first.lb vip) (some_backends net on.sound (is_attached net dp) first.lb first.attached vip first.in_lb))) refl refl
        (vip_match first.lb vip ∙ and_from (is_new flight.look) (is_for packet first.lb vip) new first.taken) (λ row of takes. others row (taker row of takes))
        ∙ vip_does first.lb vip
      where
        its_row : Row
        its_row = vip_row first.lb vip

        -- the rules of VIPs come before the others
        above_rules : (port : Option ℕ) → 100 < priority_of_vip port
        above_rules None = lit< tt
        above_rules (Some port) = lit< tt

        lower : (row : Row) (n : ℕ) → row.priority ≡ n → n < priority_of_vip vip.at.port → IsLater its_row row
        lower row n is less = inr (inl (rw is less))

        by : (row : Row) (lb : Lb) (another : Vip) → row.priority ≡ priority_of_vip another.at.port → row.hint ≡ lb.id → its_does row ≡ to_vip another → IsAfter first.lb vip lb another → IsLater its_row row
        by row lb another priority hint done (inl same) = inl (done ∙ ap to_vip same ∙ sym (vip_does first.lb vip))
        by row lb another priority hint done (inr (inl less)) = lower row (priority_of_vip another.at.port) priority less
        by row lb another priority hint done (inr (inr later)) = inr (inr (priority ∙ later.0, subst (λ (h : ObjId). first.lb.id.0 < h.0) (sym hint) later.1))

        others : (row : Row) → IsTaker row → IsLater its_row row
        others row (ByVip new lb attached another in_lb asks priority hint done) = by row lb another priority hint done (first.others lb attached another in_lb asks)
        others row (ByNat new nat there passed priority hint done) = lower row 100 priority (above_rules vip.at.port)
        others row (ByLast priority done) = let above : 100 < priority_of_vip vip.at.port = above_rules vip.at.port in lower row 0 priority (omega (arith, above))

    -- it is for none
    module _ (none : its_vip ≡ None) where
      no_vip : (lb : Lb) → Contains (lbs_of net dp) lb → (vip : Vip) → Contains lb.vips vip → is_for packet lb vip ≡ true → ⊥
      no_vip = none_meant net on.sound (is_attached net dp) packet none

      nats_in_pairs : OfPairs (λ (a b : Nat). a.id.0 < b.id.0) (nats_of net dp)
      nats_in_pairs =
          pairs_filter (λ (a b : Nat). a.id.0 < b.id.0) (λ (n : Nat). same dp n.router) net.nats (in_pairs (λ (n : Nat). n.id) net.nats (rises (λ (n : Nat). n.id) net.nats on.sound.numbered.order.nats))

      by_rule : (nat : Nat) → destination_rule net dp packet ≡ Some nat → Steps (to (Some (to_logical nat)))
      by_rule nat found =
          step_by_row net router flight on LrInDnat its_row (rows-nat net nat (redirecting_rule (nat_rule_input nat)) its.0 (redirecting-from (nat_rule_input nat) parts.0)) its.1 refl
          (nat_match nat ∙ and_from (is_new flight.look) (eqb nat.external.0 (value packet Ip4Dst)) new parts.1) (λ row of takes. others row (taker row of takes))
          ∙ nat_does nat
        where
          there : Contains (nats_of net dp) nat × (redirects nat ≡ true)
          there = found_there redirects nat (nats_of net dp) found

          its : Contains net.nats nat × (nat.router ≡ dp)
          its = nat_of net dp nat there.0

          parts : (not (is_snat nat.kind) ≡ true) × (eqb nat.external.0 (value packet Ip4Dst) ≡ true)
          parts = and_parts (not (is_snat nat.kind)) (eqb nat.external.0 (value packet Ip4Dst)) there.1

          its_row : Row
          its_row = row_of (unit_of nat.router nat.id) (redirecting_rule (nat_rule_input nat))

          by : (row : Row) (other : Nat) → row.priority ≡ 100 → row.hint ≡ other.id → its_does row ≡ to (Some (to_logical other)) → (other ≡ nat) ⊎ (nat.id.0 < other.id.0) → IsLater its_row row
          by row other priority hint done (inl same_one) = inl (done ∙ ap (λ (n : Nat). to (Some (to_logical n))) same_one ∙ sym (nat_does nat))
          by row other priority hint done (inr later) = inr (inr (priority, subst (λ (h : ObjId). nat.id.0 < h.0) (sym hint) later))

          others : (row : Row) → IsTaker row → IsLater its_row row
          others row (ByVip new lb attached another in_lb asks priority hint done) = absurd (no_vip lb attached another in_lb asks)
          others row (ByNat new other other_there passed priority hint done) =
              by row other priority hint done (find-first (λ (a b : Nat). a.id.0 < b.id.0) redirects nat other (nats_of net dp) nats_in_pairs found other_there passed)
          others row (ByLast priority done) = inr (inl (rw priority (lit< tt)))

      by_none : destination_rule net dp packet ≡ None → Steps (On LrInIpRouting flight)
      by_none without = by_last others
        where
          others : (row : Row) → IsTaker row → its_does row ≡ On LrInIpRouting flight
          others row (ByVip new lb attached another in_lb asks priority hint done) = absurd (no_vip lb attached another in_lb asks)
          others row (ByNat new other there passed priority hint done) = absurd (false≢true (sym (none_passes redirects other (nats_of net dp) without there) ∙ passed))
          others row (ByLast priority done) = done

      by_rules : (rule : Option Nat) → destination_rule net dp packet ≡ rule → Steps (to (option_map to_logical rule))
      by_rules (Some nat) found = by_rule nat found
      by_rules None without = by_none without

    by_new : (found : Option Vip) → its_vip ≡ found → Steps (to (new_tuple net dp packet))
    by_new (Some vip) is =
        let first = meant net on.sound (is_attached net dp) packet vip is in
        let t = has_tuple net on.sound (is_attached net dp) packet vip first in
        by_vip_row vip first ∙ ap to t.1
        ∙ sym (ap (λ o. to (either o (option_map to_logical (destination_rule net dp packet)))) (gets_tuple net on.sound (is_attached net dp) packet vip is ∙ t.1))
    by_new None is =
        by_rules is (destination_rule net dp packet) refl
        ∙ sym (ap (λ v. to (either (option_map (to_backend packet) (option_and_then (backend_for packet) v)) (option_map to_logical (destination_rule net dp packet)))) is)

  by_look : (look : Option Look) → flight.look ≡ look → Steps (redirected_by net dp flight look)
  by_look None is = by_known (ap is_new is)
  by_look (Some Invalid) is = by_known (ap is_new is)
  by_look (Some New) is =
      let new : is_new flight.look ≡ true = ap is_new is in
      by_new new (its_vip new) refl
  by_look (Some (Found place side related blocked)) is = by_known (ap is_new is)

pub redirects_new : Redirects
redirects_new net router flight on ip4 flagged = by_look net router flight on ip4 flagged flight.look refl
