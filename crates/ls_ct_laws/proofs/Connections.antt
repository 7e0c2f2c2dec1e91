-- What the stages around the decision do with a packet, where a switch tracks connections: the first notes which packets are to be tracked, the
-- second tracks them, and translates them where the switch balances load, and the last keeps the connections that are to be kept.
use Rattle.std.proofs.Common.{◌≡◌, ℕ, ◌+◌, ◌<◌, Bool, true, false, cond, List, [], ◌∷◌, sym, ap, refl, ◌∙◌, subst, ◌⊎◌, inl, inr, arith}
use Rattle.std.specs.Prelude.{◌&&◌, ◌||◌, not, if◌then◌else◌}
use Rattle.std.specs.List.{Contains}
use Rattle.std.proofs.Math.Bool.{or-false}
use Rattle.std.proofs.lemmas.Bool.{false≢true, and_from, and_parts}
use Rattle.nv_base.specs.declared.object.ObjId.{ObjId}
use Rattle.nv_base.specs.Field.{field_prerequisite}
use Rattle.nv_base.specs.declared.field.Field.TheVariants.{EthDst, Reg0}
use Rattle.nv_base.specs.declared.field.Prerequisite.TheVariants.{Nothing}
use Rattle.pkt_core.specs.Packet.{value}
use Rattle.pkt_core.specs.Prerequisite.{is_ip4}
use Rattle.expr_core.specs.Formula.{Formula}
use Rattle.expr_core.specs.declared.predicate.Pred.TheVariants.{EthMcast, Ip4}
use Rattle.expr_core.specs.declared.typed.TypedAtom.{TypedAtom}
use Rattle.expr_eval.specs.MatchMeaning.{holds}
use Rattle.act_core.specs.declared.action.Action.{Action}
use Rattle.act_core.specs.declared.step.Step.TheVariants as action_step
use Rattle.nb_records.specs.declared.acl.Acl.{Acl}
use Rattle.nb_records.specs.declared.acl.Way.{Way}
use Rattle.nb_records.specs.declared.acl.Way.TheVariants.{From, To}
use Rattle.nb_records.specs.declared.switch.Port.{Port}
use Rattle.nb_records.specs.declared.switch.Switch.{Switch}
use Rattle.nb_model.specs.Applies.{acls, applies, balances, tracks}
use Rattle.nb_model.specs.Belongs.{is_to_router, same_way}
use Rattle.nb_model.specs.Names.{names}
use Rattle.nb_model.specs.Network.{Network}
use Rattle.nb_model.specs.Readable.{is_priority}
use Rattle.sb_model.specs.Make.{is_predicate, bit_is_set, steps, goes_on}
use Rattle.sb_model.specs.Stage.{all_stages, next_stage, pipeline_of, stage_at, stage_place}
use Rattle.sb_model.specs.declared.row.Row.{Row}
use Rattle.sb_model.specs.declared.stage.Pipeline.TheVariants.{Ingress, Egress}
use Rattle.sb_model.specs.declared.stage.Stage.{Stage}
use Rattle.sb_model.specs.declared.stage.Stage.TheVariants.{LsInPreAcl, LsInStateful, LsInArpRsp, LsOutStateful, LsOutCheckPortSec}
use Rattle.net_meaning.specs.Address.{is_multicast}
use Rattle.net_meaning.specs.Tracked.{is_stateless, is_tracked, passes_untracked}
use Rattle.net_rows.specs.Acls.{tracking as track, asks_to_track, first_stage_of, stage_of, switch_acl_rules, acl_on_rules}
use Rattle.net_rows.specs.Build.{acl_on_input, has_unknown, switch_rules}
use Rattle.net_rows.specs.Lookup.{switch_l2_rules}
use Rattle.net_rows.specs.Unit.{rule, row_of, unit_of, unit_of_datapath}
use Rattle.net_rows.specs.declared.inputs.AclOnInput.{AclOnInput}
use Rattle.net_rows.specs.declared.rule.Rule.{Rule}
use Rattle.net_rows.proofs.Elements.{one_of, one_of_none, one_first, one_later, any_gives, any_from, Contains-filter, Contains-from_filter}
use Rattle.net_rows.proofs.Sound.{each_passes}
use Rattle.lr_units.specs.Network.{network_rows}
use Rattle.tr_pipe.specs.Machine.{Effect, after, kept, run_actions, step}
use Rattle.tr_pipe.specs.Machine.StageEnd.{On}
use Rattle.tr_pipe.specs.Tracking.{Flight, committed, tracked, zone_of}
use Rattle.tr_pipe.specs.Translating.{tracked_by}
use Rattle.ct_core.specs.Translation.{followed}
use Rattle.ls_laws.specs.Steps.{IsOn, IsPortOf, flows_at}
use Rattle.ls_laws.proofs.AtPort.{at_port-from, at_port-gives, same_port}
use Rattle.ls_laws.proofs.RuleStages.{rules_at, among_rules_at, from_rules_at, is_first, is_of_balancing, is_of_ports, port_rule_stage}
use Rattle.ls_laws.proofs.Tables.{IsSwitchRule, IsPortRule, IsAclRule, IsRule, filter_passes, of_no_vip, row_of_acl, row_of_port, row_of_switch}
use Rattle.ls_ct_laws.specs.Tracking.{Asks, Keeps, LooksUp, after_stateful, has_bit, keeps, looked_up, pipeline_for, port_field, pre_stateful, stateful, with_bit}
use Rattle.ls_ct_laws.proofs.Meets.{meets_above}
use Rattle.ls_ct_laws.proofs.TrackedRules.{passing, tracked_switch_rules, switch_rules-tracked, acl_rule_stages, first_from, first_gives, first_rules, is_deciding, own_rules, own_stage, port_rule, port_rule-from, port_rule-gives, tracked_from, tracked_gives}

-- ---- actions

module _ (net : Network) (dp : ObjId) (flight : Flight) where
  first_passes : (w : Way) → run_actions (names net) dp (first_stage_of w) goes_on flight ≡ On (pre_stateful w) flight
  unfolding next_stage stage_at all_stages
  first_passes From = refl
  first_passes To = refl

  first_notes : (w : Way) → run_actions (names net) dp (first_stage_of w) (steps (asks_to_track ∷ action_step.Next ∷ [])) flight ≡ On (pre_stateful w) (with_bit 0 flight)
  unfolding next_stage stage_at all_stages
  first_notes From = refl
  first_notes To = refl

  second_passes : (w : Way) → run_actions (names net) dp (pre_stateful w) goes_on flight ≡ On (stage_of w) flight
  unfolding next_stage stage_at all_stages
  second_passes From = refl
  second_passes To = refl

  second_tracks : (balancing : Bool) (w : Way)
      → run_actions (names net) dp (pre_stateful w) (track balancing) flight
      ≡ On (stage_of w) (if balancing then tracked_by followed (zone_of (pipeline_for w) flight.packet) flight else tracked (zone_of (pipeline_for w) flight.packet) flight)
  unfolding next_stage stage_at all_stages pipeline_of
  second_tracks true From = refl
  second_tracks true To = refl
  second_tracks false From = refl
  second_tracks false To = refl

  last_passes : (w : Way) → run_actions (names net) dp (stateful w) goes_on flight ≡ On (after_stateful w) flight
  unfolding next_stage stage_at all_stages
  last_passes From = refl
  last_passes To = refl

  last_keeps : (w : Way) → run_actions (names net) dp (stateful w) (steps (action_step.CtCommit false ∷ action_step.Next ∷ [])) flight ≡ keeps w flight
  unfolding next_stage stage_at all_stages pipeline_of
  last_keeps From = by (kept flight (committed (zone_of Ingress flight.packet) false flight.packet flight.state flight.look))
    where
      by : (e : Effect) → after e (run_actions (names net) dp LsInStateful (steps (action_step.Next ∷ []))) ≡ after e (λ later. On LsInArpRsp later)
      by (Effect.Changed later) = refl
      by (Effect.Done end) = refl
  last_keeps To = by (kept flight (committed (zone_of Egress flight.packet) false flight.packet flight.state flight.look))
    where
      by : (e : Effect) → after e (run_actions (names net) dp LsOutStateful (steps (action_step.Next ∷ []))) ≡ after e (λ later. On LsOutCheckPortSec later)
      by (Effect.Changed later) = refl
      by (Effect.Done end) = refl

-- ---- the rules of the stages

-- the actions of the rules that note and that track
abbrev notes : List Action
notes = steps (asks_to_track ∷ action_step.Next ∷ [])

abbrev keeps_it : List Action
keeps_it = steps (action_step.CtCommit false ∷ action_step.Next ∷ [])

first_are : (w : Way) (balancing unknown : Bool) → rules_at (first_stage_of w) (tracked_switch_rules balancing unknown)
    ≡ passing (first_stage_of w) ∷ rule (first_stage_of w) 110 (is_predicate EthMcast) goes_on ∷ rule (first_stage_of w) 100 (is_predicate Ip4) notes ∷ []
unfolding switch_acl_rules switch_l2_rules stage_place
first_are From balancing true = refl
first_are From balancing false = refl
first_are To balancing true = refl
first_are To balancing false = refl

second_are : (w : Way) (balancing unknown : Bool) → rules_at (pre_stateful w) (tracked_switch_rules balancing unknown) ≡ passing (pre_stateful w) ∷ rule (pre_stateful w) 100 (bit_is_set Reg0 0) (track balancing) ∷ []
unfolding switch_acl_rules switch_l2_rules stage_place
second_are From balancing true = refl
second_are From balancing false = refl
second_are To balancing true = refl
second_are To balancing false = refl

last_are : (w : Way) (balancing unknown : Bool) → rules_at (stateful w) (tracked_switch_rules balancing unknown) ≡ passing (stateful w) ∷ rule (stateful w) 100 (bit_is_set Reg0 1) keeps_it ∷ []
unfolding switch_acl_rules switch_l2_rules stage_place
last_are From balancing true = refl
last_are From balancing false = refl
last_are To balancing true = refl
last_are To balancing false = refl

-- neither a port nor an ACL nor a VIP has a rule in the second and in the last
abbrev of_acls : Stage → Bool
of_acls stage = is_first stage || is_deciding stage

second_not_ports : (w : Way) → is_of_ports (pre_stateful w) ≡ false
second_not_ports From = refl
second_not_ports To = refl

second_not_acls : (w : Way) → of_acls (pre_stateful w) ≡ false
second_not_acls From = refl
second_not_acls To = refl

second_not_vips : (w : Way) → is_of_balancing (pre_stateful w) ≡ false
second_not_vips From = refl
second_not_vips To = refl

last_not_ports : (w : Way) → is_of_ports (stateful w) ≡ false
last_not_ports From = refl
last_not_ports To = refl

last_not_acls : (w : Way) → of_acls (stateful w) ≡ false
last_not_acls From = refl
last_not_acls To = refl

last_not_vips : (w : Way) → is_of_balancing (stateful w) ≡ false
last_not_vips From = refl
last_not_vips To = refl

-- nor has a VIP one in the first
first_not_vips : (w : Way) → is_of_balancing (first_stage_of w) ≡ false
first_not_vips From = refl
first_not_vips To = refl

-- ---- directions

same_way-is : (v w : Way) → same_way v w ≡ true → v ≡ w
same_way-is From From is = refl
same_way-is From To is = absurd (false≢true is)
same_way-is To From is = absurd (false≢true is)
same_way-is To To is = refl

same_way-self : (w : Way) → same_way w w ≡ true
same_way-self From = refl
same_way-self To = refl

abbrev is_pre_acl : Stage → Bool
is_pre_acl LsInPreAcl = true
is_pre_acl _ = false

first_tells : (v w : Way) → first_stage_of v ≡ first_stage_of w → v ≡ w
first_tells From From is = refl
first_tells From To is = absurd (false≢true (sym (ap is_pre_acl is)))
first_tells To From is = absurd (false≢true (ap is_pre_acl is))
first_tells To To is = refl

first_is : (w : Way) → is_first (first_stage_of w) ≡ true
first_is From = refl
first_is To = refl

own_not_first : (w : Way) → is_first (stage_of w) ≡ false
own_not_first From = refl
own_not_first To = refl

module _ (net : Network) (switch : Switch) (flight : Flight) (on : IsOn net switch flight.packet) (tracking : tracks net switch.id ≡ true) where
  abbrev dp : ObjId
  dp = switch.id

  abbrev row_at : Rule → Row
  row_at says = row_of (unit_of_datapath dp) says

  -- the rows of the switch in a stage, by its rules there
  module _ (stage : Stage) (some : List Rule) (are : (unknown : Bool) → rules_at stage (tracked_switch_rules (balances net dp) unknown) ≡ some) where
    at_stage : rules_at stage (switch_rules net dp) ≡ some
    at_stage = ap (rules_at stage) (switch_rules-tracked net dp tracking) ∙ are (has_unknown net dp)

    row_there : (says : Rule) → Contains some says → Contains (network_rows net) (row_at says)
    row_there says there = row_of_switch net switch says on.among (from_rules_at stage (switch_rules net dp) some says at_stage there)

    among_some : (x : Row) (of : IsSwitchRule net dp stage x) → Contains some of.says
    among_some x of = subst (λ rs. Contains rs of.says) at_stage (among_rules_at stage (switch_rules net dp) of.says of.in_rules of.of_stage)

  of_no_port : (stage : Stage) → is_of_ports stage ≡ false → (x : Row) → IsPortRule net dp stage x → ⊥
  of_no_port stage no_port x of = false≢true (sym no_port ∙ sym (ap is_of_ports of.of_stage) ∙ port_rule_stage net of.port of.says of.in_rules)

  of_no_acl : (stage : Stage) → of_acls stage ≡ false → (x : Row) → IsAclRule net dp stage x → ⊥
  of_no_acl stage no_acl x of = false≢true (sym no_acl ∙ sym (ap of_acls of.of_stage) ∙ acl_rule_stages (acl_on_input net of.acl dp) of.says tracking of.in_rules)

  -- ---- a stage with two rules: of the packets that the second takes, and of others

  module _ (stage : Stage) (m : Formula TypedAtom) (actions : List Action) (are : (unknown : Bool) → rules_at stage (tracked_switch_rules (balances net dp) unknown) ≡ passing stage ∷ rule stage 100 m actions ∷ [])
      (no_port : is_of_ports stage ≡ false) (no_acl : of_acls stage ≡ false) (no_vip : is_of_balancing stage ≡ false) where
    abbrev low : Rule
    low = passing stage

    abbrev high : Rule
    high = rule stage 100 m actions

    abbrev takes : Formula TypedAtom → Bool
    takes matching = holds (names net) flight.packet matching

    one_of_two : (says : Rule) → Contains (low ∷ high ∷ []) says → (low ≡ says) ⊎ (high ≡ says)
    one_of_two says there = by (one_of low (high ∷ []) says there)
      where
        last : (high ≡ says) ⊎ Contains [] says → (low ≡ says) ⊎ (high ≡ says)
        last (inl is) = inr is
        last (inr none) = absurd (one_of_none says none)

        by : (low ≡ says) ⊎ Contains (high ∷ []) says → (low ≡ says) ⊎ (high ≡ says)
        by (inl is) = inl is
        by (inr later) = last (one_of high [] says later)

    of_switch : (x : Row) → IsSwitchRule net dp stage x → (x ≡ row_at low) ⊎ (x ≡ row_at high)
    of_switch x of = by (one_of_two of.says (among_some stage (low ∷ high ∷ []) are x of))
      where
        by : (low ≡ of.says) ⊎ (high ≡ of.says) → (x ≡ row_at low) ⊎ (x ≡ row_at high)
        by (inl is) = inl (of.is ∙ sym (ap row_at is))
        by (inr is) = inr (of.is ∙ sym (ap row_at is))

    of_rule : (x : Row) → IsRule net dp stage x → (x ≡ row_at low) ⊎ (x ≡ row_at high)
    of_rule x (inl of) = of_switch x of
    of_rule x (inr (inl of)) = absurd (of_no_port stage no_port x of)
    of_rule x (inr (inr (inl of))) = absurd (of_no_acl stage no_acl x of)
    of_rule x (inr (inr (inr of))) = absurd (of_no_vip net dp stage x no_vip of)

    two_rules : step (flows_at net dp) stage flight ≡ run_actions (names net) dp stage (cond (takes m) actions goes_on) flight
    two_rules = by (takes m) refl
      where
        below : (x : Row) → (x ≡ row_at low) ⊎ (x ≡ row_at high) → (x.actions ≡ actions) ⊎ (x.priority < 100)
        below x (inl is) = inr (subst (λ (r : Row). r.priority < 100) (sym is) (omega arith))
        below x (inr is) = inl (ap (λ (r : Row). r.actions) is)

        only : (x : Row) → takes m ≡ false → takes x.matching ≡ true → (x ≡ row_at low) ⊎ (x ≡ row_at high) → x.actions ≡ goes_on
        only x none takes_x (inl is) = ap (λ (r : Row). r.actions) is
        only x none takes_x (inr is) = absurd (false≢true (sym none ∙ sym (ap (λ (r : Row). takes r.matching) is) ∙ takes_x))

        by : (b : Bool) → takes m ≡ b → step (flows_at net dp) stage flight ≡ run_actions (names net) dp stage (cond b actions goes_on) flight
        by true it_takes =
            meets_above net switch flight on stage (row_at high) (row_there stage (low ∷ high ∷ []) are high (one_later low (high ∷ []) high (one_first high [] high refl))) refl refl it_takes
            (λ x of takes_x. below x (of_rule x of))
        by false none =
            meets_above net switch flight on stage (row_at low) (row_there stage (low ∷ high ∷ []) are low (one_first low (high ∷ []) low refl)) refl refl refl
            (λ x of takes_x. inl (only x none takes_x (of_rule x of)))

-- ---- the second stage and the last

module _ (net : Network) (switch : Switch) (flight : Flight) (on : IsOn net switch flight.packet) (tracking : tracks net switch.id ≡ true) where
  -- what is noted to be tracked is tracked
  pub tracks_noted : (way : Way) → step (flows_at net switch.id) (pre_stateful way) flight ≡ On (stage_of way) (if has_bit 0 flight.packet then looked_up net switch.id (zone_of (pipeline_for way) flight.packet) flight else flight)
  tracks_noted way =
      two_rules net switch flight on tracking (pre_stateful way) (bit_is_set Reg0 0) (track (balances net switch.id)) (second_are way (balances net switch.id)) (second_not_ports way) (second_not_acls way) (second_not_vips way)
      ∙ by (has_bit 0 flight.packet)
    where
      by : (b : Bool) → run_actions (names net) switch.id (pre_stateful way) (cond b (track (balances net switch.id)) goes_on) flight
          ≡ On (stage_of way) (cond b (looked_up net switch.id (zone_of (pipeline_for way) flight.packet) flight) flight)
      by true = second_tracks net switch.id flight (balances net switch.id) way
      by false = second_passes net switch.id flight way

  -- the connection of what is noted to be kept is kept
  pub keeps_noted : (way : Way) → step (flows_at net switch.id) (stateful way) flight ≡ (if has_bit 1 flight.packet then keeps way flight else On (after_stateful way) flight)
  keeps_noted way =
      two_rules net switch flight on tracking (stateful way) (bit_is_set Reg0 1) keeps_it (last_are way (balances net switch.id)) (last_not_ports way) (last_not_acls way) (last_not_vips way)
      ∙ by (has_bit 1 flight.packet)
    where
      by : (b : Bool) → run_actions (names net) switch.id (stateful way) (cond b keeps_it goes_on) flight ≡ cond b (keeps way flight) (On (after_stateful way) flight)
      by true = last_keeps net switch.id flight way
      by false = last_passes net switch.id flight way

-- ---- the first stage

module _ (net : Network) (switch : Switch) (flight : Flight) (on : IsOn net switch flight.packet) (tracking : tracks net switch.id ≡ true) (way : Way) (port : Port) (of_it : IsPortOf net switch port) (here : value flight.packet (port_field way) ≡ port.id.0) where
  abbrev at : Stage
  at = first_stage_of way

  abbrev switch_row : Rule → Row
  switch_row says = row_of (unit_of_datapath switch.id) says

  abbrev held : Formula TypedAtom → Bool
  held matching = holds (names net) flight.packet matching

  abbrev of_many : Rule
  of_many = rule at 110 (is_predicate EthMcast) goes_on

  abbrev of_ip4 : Rule
  of_ip4 = rule at 100 (is_predicate Ip4) notes

  abbrev three : List Rule
  three = passing at ∷ of_many ∷ of_ip4 ∷ []

  held_many : held (is_predicate EthMcast) ≡ is_multicast (value flight.packet EthDst)
  held_many = or-false _

  held_ip4 : held (is_predicate Ip4) ≡ is_ip4 flight.packet
  held_ip4 = or-false _

  -- ---- rows of ACLs there

  -- what an ACL says there
  abbrev untracking : Acl → Rule
  untracking acl = rule at (acl.priority + 1000) acl.matching goes_on

  abbrev untracking_row : Acl → Row
  untracking_row acl = row_of (unit_of switch.id acl.id) (untracking acl)

  record IsUntracking (x : Row) : Type 0 where
    pub acl : Acl
    pub applied : Contains (acls net switch.id way) acl
    pub stateless : is_stateless acl.verdict ≡ true
    pub is : x ≡ untracking_row acl

  of_acl : (x : Row) → IsAclRule net switch.id at x → IsUntracking x
  of_acl x of = by (tracked_gives input of.says tracking of.in_rules)
    where
      input : AclOnInput
      input = acl_on_input net of.acl switch.id

      by : Contains (first_rules input) of.says ⊎ Contains (own_rules input) of.says → IsUntracking x
      by (inl there) =
          let gives = first_gives of.acl.way (of.acl.priority + 1000) of.acl.matching of.acl.verdict of.says there in
          let of_way : of.acl.way ≡ way = first_tells of.acl.way way (sym (ap (λ (r : Rule). r.stage) gives.1) ∙ of.of_stage) in
          record {
            acl = of.acl;
            applied = Contains-filter (λ (a : Acl). applies net switch.id a && same_way a.way way) net.acls of.acl of.among (and_from (applies net switch.id of.acl) (same_way of.acl.way way) of.applied (ap (λ w. same_way w way) of_way ∙ same_way-self way));
            stateless = gives.0;
            is = of.is ∙ ap (row_of (unit_of switch.id of.acl.id)) (gives.1 ∙ ap (λ w. rule (first_stage_of w) (of.acl.priority + 1000) of.acl.matching goes_on) of_way);
          }
      by (inr there) = absurd (false≢true (sym (ap is_first (sym of.of_stage ∙ own_stage input of.says there) ∙ own_not_first of.acl.way) ∙ first_is way))

  -- where one takes the packet, it passes untracked
  untracked_by : (x : Row) → IsUntracking x → held x.matching ≡ true → passes_untracked net switch.id way flight.packet ≡ true
  untracked_by x of takes =
      any_from (λ (acl : Acl). is_stateless acl.verdict && holds (names net) flight.packet acl.matching) (acls net switch.id way) of.acl of.applied
      (and_from (is_stateless of.acl.verdict) (held of.acl.matching) of.stateless (sym (ap (λ (r : Row). held r.matching) of.is) ∙ takes))

  -- each such ACL has one
  module _ (acl : Acl) (applied : Contains (acls net switch.id way) acl) (stateless : is_stateless acl.verdict ≡ true) where
    listed : Contains net.acls acl
    listed = Contains-from_filter (λ (a : Acl). applies net switch.id a && same_way a.way way) net.acls acl applied

    parts : (applies net switch.id acl ≡ true) × (same_way acl.way way ≡ true)
    parts = and_parts (applies net switch.id acl) (same_way acl.way way) (filter_passes (λ (a : Acl). applies net switch.id a && same_way a.way way) net.acls acl applied)

    in_range : is_priority acl.priority ≡ true
    in_range = each_passes (λ (a : Acl). is_priority a.priority) net.acls acl on.sound.readable.priorities listed

    in_rules : Contains (acl_on_rules (acl_on_input net acl switch.id)) (untracking acl)
    in_rules =
        tracked_from (acl_on_input net acl switch.id) (untracking acl) tracking in_range
        (inl (subst (λ w. Contains (first_rules (acl_on_input net acl switch.id)) (rule (first_stage_of w) (acl.priority + 1000) acl.matching goes_on)) (same_way-is acl.way way parts.1)
        (first_from acl.way (acl.priority + 1000) acl.matching acl.verdict stateless)))

    untracking_there : Contains (network_rows net) (untracking_row acl)
    untracking_there = row_of_acl net acl switch (untracking acl) listed (Contains-filter (λ (s : Switch). applies net s.id acl) net.switches switch on.among parts.0) in_rules

  -- ---- rows of ports there

  -- what is said of a port that leads to a router
  abbrev port_row : Port → Row
  port_row other = row_of (unit_of switch.id other.id) (port_rule way other.name)

  record IsOfRouter (x : Row) : Type 0 where
    pub other : Port
    pub among : Contains net.ports other
    pub leads : is_to_router other ≡ true
    pub is : x ≡ port_row other

  of_router : (x : Row) → IsPortRule net switch.id at x → IsOfRouter x
  of_router x of =
      let gives = port_rule-gives net of.port way of.says of.in_rules of.of_stage in
      record {
        other = of.port;
        among = of.among;
        leads = (and_parts (is_to_router of.port) (tracks net of.port.switch) gives.0).0;
        is = of.is ∙ ap (row_of (unit_of switch.id of.port.id)) gives.1;
      }

  plain_field : (w : Way) → field_prerequisite (port_field w) ≡ Nothing
  plain_field From = refl
  plain_field To = refl

  -- where one takes the packet, the packet's port leads to a router
  router_by : (x : Row) → IsOfRouter x → held x.matching ≡ true → is_to_router port ≡ true
  router_by x of takes =
      let does = sym (ap (λ (r : Row). held r.matching) of.is) ∙ takes in
      let number = at_port-gives net flight.packet (port_field way) (plain_field way) on.sound of.other of.among does in
      ap is_to_router (same_port net on.sound port of.other of_it.0 of.among (sym here ∙ number)) ∙ of.leads

  -- and there is one for it where it does
  router_row : is_to_router port ≡ true → Contains (network_rows net) (row_of (unit_of port.switch port.id) (port_rule way port.name))
  router_row leads = row_of_port net port (port_rule way port.name) of_it.0 (port_rule-from net port way (and_from (is_to_router port) (tracks net port.switch) leads (ap (tracks net) of_it.1 ∙ tracking)))

  -- ---- all rows there

  abbrev IsOneOf : Row → Type 0
  IsOneOf x = (x ≡ switch_row (passing at)) ⊎ ((x ≡ switch_row of_many) ⊎ ((x ≡ switch_row of_ip4) ⊎ (IsUntracking x ⊎ IsOfRouter x)))

  of_three : (x : Row) (says : Rule) → x ≡ switch_row says → Contains three says → IsOneOf x
  of_three x says is there = first (one_of (passing at) (of_many ∷ of_ip4 ∷ []) says there)
    where
      third : (of_ip4 ≡ says) ⊎ Contains [] says → IsOneOf x
      third (inl same) = inr (inr (inl (is ∙ sym (ap switch_row same))))
      third (inr none) = absurd (one_of_none says none)

      second : (of_many ≡ says) ⊎ Contains (of_ip4 ∷ []) says → IsOneOf x
      second (inl same) = inr (inl (is ∙ sym (ap switch_row same)))
      second (inr later) = third (one_of of_ip4 [] says later)

      first : (passing at ≡ says) ⊎ Contains (of_many ∷ of_ip4 ∷ []) says → IsOneOf x
      first (inl same) = inl (is ∙ sym (ap switch_row same))
      first (inr later) = second (one_of of_many (of_ip4 ∷ []) says later)

  each_row : (x : Row) → IsRule net switch.id at x → IsOneOf x
  each_row x (inl of) = of_three x of.says of.is (among_some net switch flight on tracking at three (first_are way (balances net switch.id)) x of)
  each_row x (inr (inl of)) = inr (inr (inr (inr (of_router x of))))
  each_row x (inr (inr (inl of))) = inr (inr (inr (inl (of_acl x of))))
  each_row x (inr (inr (inr of))) = absurd (of_no_vip net switch.id at x (first_not_vips way) of)

  three_there : (says : Rule) → Contains three says → Contains (network_rows net) (switch_row says)
  three_there says there = row_there net switch flight on tracking at three (first_are way (balances net switch.id)) says there

  -- but those of IPv4 packets, all rows say that the packet goes on
  going : (x : Row) (priority : ℕ) → 100 < priority → IsOneOf x → (x.actions ≡ goes_on) ⊎ (x.priority < priority)
  going x priority above (inl is) = inl (ap (λ (r : Row). r.actions) is)
  going x priority above (inr (inl is)) = inl (ap (λ (r : Row). r.actions) is)
  going x priority above (inr (inr (inl is))) = inr (subst (λ (r : Row). r.priority < priority) (sym is) above)
  going x priority above (inr (inr (inr (inl of)))) = inl (ap (λ (r : Row). r.actions) of.is)
  going x priority above (inr (inr (inr (inr of)))) = inl (ap (λ (r : Row). r.actions) of.is)

  -- ---- what becomes of the packet

  -- a packet for many goes on
  many_go : is_multicast (value flight.packet EthDst) ≡ true → step (flows_at net switch.id) at flight ≡ On (pre_stateful way) flight
  many_go many =
      meets_above net switch flight on at (switch_row of_many) (three_there of_many (one_later (passing at) (of_many ∷ of_ip4 ∷ []) of_many (one_first of_many (of_ip4 ∷ []) of_many refl))) refl refl (held_many ∙ many)
      (λ x of takes. going x 110 (omega arith) (each_row x of))
      ∙ first_passes net switch.id flight way

  -- what a stateless ACL takes goes on
  stateless_go : passes_untracked net switch.id way flight.packet ≡ true → step (flows_at net switch.id) at flight ≡ On (pre_stateful way) flight
  stateless_go passes =
      let found = any_gives (λ (acl : Acl). is_stateless acl.verdict && holds (names net) flight.packet acl.matching) (acls net switch.id way) passes in
      let both = and_parts (is_stateless found.0.verdict) (held found.0.matching) found.2 in
      meets_above net switch flight on at (untracking_row found.0) (untracking_there found.0 found.1 both.0) refl refl both.1
      (λ x of takes. going x (found.0.priority + 1000) (omega arith) (each_row x of))
      ∙ first_passes net switch.id flight way

  -- what is of a port that leads to a router goes on
  router_go : is_to_router port ≡ true → step (flows_at net switch.id) at flight ≡ On (pre_stateful way) flight
  router_go leads =
      meets_above net switch flight on at (row_of (unit_of port.switch port.id) (port_rule way port.name)) (router_row leads) of_it.1 refl
      (at_port-from net flight.packet (port_field way) (plain_field way) on.sound port of_it.0 here) (λ x of takes. going x 110 (omega arith) (each_row x of))
      ∙ first_passes net switch.id flight way

  -- what is not of IPv4 goes on
  others_go : is_ip4 flight.packet ≡ false → step (flows_at net switch.id) at flight ≡ On (pre_stateful way) flight
  others_go other =
      meets_above net switch flight on at (switch_row (passing at)) (three_there (passing at) (one_first (passing at) (of_many ∷ of_ip4 ∷ []) (passing at) refl)) refl refl refl (λ x of takes. inl (same x takes (each_row x of)))
      ∙ first_passes net switch.id flight way
    where
      same : (x : Row) → held x.matching ≡ true → IsOneOf x → x.actions ≡ goes_on
      same x takes (inl is) = ap (λ (r : Row). r.actions) is
      same x takes (inr (inl is)) = ap (λ (r : Row). r.actions) is
      same x takes (inr (inr (inl is))) = absurd (false≢true (sym (held_ip4 ∙ other) ∙ sym (ap (λ (r : Row). held r.matching) is) ∙ takes))
      same x takes (inr (inr (inr (inl of)))) = ap (λ (r : Row). r.actions) of.is
      same x takes (inr (inr (inr (inr of)))) = ap (λ (r : Row). r.actions) of.is

  -- and what is left is noted
  rest_noted : is_ip4 flight.packet ≡ true → is_multicast (value flight.packet EthDst) ≡ false → is_to_router port ≡ false → passes_untracked net switch.id way flight.packet ≡ false
      → step (flows_at net switch.id) at flight ≡ On (pre_stateful way) (with_bit 0 flight)
  rest_noted ip4 one host not_passed =
      meets_above net switch flight on at (switch_row of_ip4)
      (three_there of_ip4 (one_later (passing at) (of_many ∷ of_ip4 ∷ []) of_ip4 (one_later of_many (of_ip4 ∷ []) of_ip4 (one_first of_ip4 [] of_ip4 refl)))) refl refl (held_ip4 ∙ ip4)
      (λ x of takes. same x takes (each_row x of))
      ∙ first_notes net switch.id flight way
    where
      same : (x : Row) → held x.matching ≡ true → IsOneOf x → (x.actions ≡ notes) ⊎ (x.priority < 100)
      same x takes (inl is) = inr (subst (λ (r : Row). r.priority < 100) (sym is) (omega arith))
      same x takes (inr (inl is)) = absurd (false≢true (sym (held_many ∙ one) ∙ sym (ap (λ (r : Row). held r.matching) is) ∙ takes))
      same x takes (inr (inr (inl is))) = inl (ap (λ (r : Row). r.actions) is)
      same x takes (inr (inr (inr (inl of)))) = absurd (false≢true (sym not_passed ∙ untracked_by x of takes))
      same x takes (inr (inr (inr (inr of)))) = absurd (false≢true (sym host ∙ router_by x of takes))

  -- so the packets that are to be tracked are noted
  pub notes_wanted : step (flows_at net switch.id) at flight ≡ On (pre_stateful way) (if is_tracked net way port flight.packet then with_bit 0 flight else flight)
  notes_wanted =
      by (tracks net port.switch) (is_ip4 flight.packet) (is_multicast (value flight.packet EthDst)) (is_to_router port) (passes_untracked net port.switch way flight.packet) refl refl refl refl refl
    where
      by : (t ip4 many router passed : Bool) → tracks net port.switch ≡ t → is_ip4 flight.packet ≡ ip4 → is_multicast (value flight.packet EthDst) ≡ many → is_to_router port ≡ router
          → passes_untracked net port.switch way flight.packet ≡ passed
          → step (flows_at net switch.id) at flight ≡ On (pre_stateful way) (cond (t && ip4 && not many && not router && not passed) (with_bit 0 flight) flight)
      by false ip4 many router passed t i m r p = absurd (false≢true (sym t ∙ ap (tracks net) of_it.1 ∙ tracking))
      by true false many router passed t i m r p = others_go i
      by true true true router passed t i m r p = many_go m
      by true true false true passed t i m r p = router_go r
      by true true false false true t i m r p = stateless_go (ap (λ dp. passes_untracked net dp way flight.packet) (sym of_it.1) ∙ p)
      by true true false false false t i m r p = rest_noted i m r (ap (λ dp. passes_untracked net dp way flight.packet) (sym of_it.1) ∙ p)

-- ---- the laws

pub asks_of : (way : Way) → Asks way
asks_of From net switch flight port of_it here on tracking = notes_wanted net switch flight on tracking From port of_it here
asks_of To net switch flight port of_it here on tracking = notes_wanted net switch flight on tracking To port of_it here

pub looks_up_of : (way : Way) → LooksUp way
looks_up_of From net switch flight on tracking = tracks_noted net switch flight on tracking From
looks_up_of To net switch flight on tracking = tracks_noted net switch flight on tracking To

pub keeps_of : (way : Way) → Keeps way
keeps_of From net switch flight on tracking = keeps_noted net switch flight on tracking From
keeps_of To net switch flight on tracking = keeps_noted net switch flight on tracking To
