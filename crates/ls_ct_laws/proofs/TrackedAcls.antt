-- What the stages of ACLs do with a packet on a switch that tracks connections.
use Rattle.std.proofs.Common.{◌≡◌, ℕ, ◌+◌, ◌<◌, Bool, true, false, cond, List, [], ◌∷◌, ◌++◌, sym, ap, refl, ◌∙◌, subst, ◌⊎◌, inl, inr, arith}
use Rattle.std.specs.Prelude.{◌&&◌, not, Option, Some, None, fold}
use Rattle.std.specs.Ordering.{is_gt}
use Rattle.std.specs.List.{Contains, filter}
use Rattle.std.proofs.lemmas.Bool.{false≢true, and_from, and_parts}
use Rattle.std.proofs.lemmas.Bool.Decides.{nat_tests}
use Rattle.std.proofs.lemmas.List.Elements.{Contains-append_cases, Contains-append_right}
use Rattle.nv_base.specs.declared.object.ObjId.{ObjId}
use Rattle.pkt_core.specs.Packet.{Values}
use Rattle.ct_core.specs.declared.look.Look.{Look}
use Rattle.ct_core.specs.declared.look.Look.TheVariants.{Invalid, New, Found}
use Rattle.ct_core.specs.declared.look.Side.TheVariants.{Orig, Reply}
use Rattle.expr_core.specs.Lookup.{Lookup}
use Rattle.expr_core.specs.Formula.{Formula}
use Rattle.expr_core.specs.Formula.Formula.{Not}
use Rattle.expr_core.specs.declared.predicate.Pred.TheVariants.{CtEst}
use Rattle.expr_core.specs.declared.typed.TypedAtom.{TypedAtom}
use Rattle.expr_eval.specs.MatchMeaning.{holds, negation_holds}
use Rattle.act_core.specs.declared.action.Action.{Action}
use Rattle.act_core.specs.declared.action.Action.TheVariants as action
use Rattle.act_core.specs.declared.step.Step.TheVariants as step
use Rattle.nb_records.specs.declared.acl.Acl.{Acl}
use Rattle.nb_records.specs.declared.acl.Verdict.{Verdict}
use Rattle.nb_records.specs.declared.acl.Verdict.TheVariants as verdict
use Rattle.nb_records.specs.declared.acl.Way.{Way}
use Rattle.nb_records.specs.declared.acl.Way.TheVariants.{From, To}
use Rattle.nb_records.specs.declared.switch.Switch.{Switch}
use Rattle.nb_model.specs.Applies.{acls, applies, balances, tracks}
use Rattle.nb_model.specs.Belongs.{same_way}
use Rattle.nb_model.specs.Names.{names}
use Rattle.nb_model.specs.Network.{Network}
use Rattle.nb_model.specs.Readable.{is_priority}
use Rattle.sb_model.specs.Make.{takes_each, is_predicate, all_of, goes_on, drops}
use Rattle.sb_model.specs.Stage.{all_stages, next_stage, stage_at, stage_place}
use Rattle.sb_model.specs.declared.row.Row.{Row}
use Rattle.sb_model.specs.declared.stage.Stage.{Stage}
use Rattle.sb_rows.specs.Row.{row_cmp}
use Rattle.net_meaning.specs.AclVerdict.{deciding, decided_by, decision_of, higher}
use Rattle.net_meaning.specs.Tracked.{is_stateless, is_to_keep}
use Rattle.net_meaning.specs.declared.cause.Cause.TheVariants.{Acl as acl_cause}
use Rattle.net_rows.specs.Acls.{acl_on_rules, ending, first_stage_of, is_reply, is_shut_out, passes, rejects, stage_of, switch_acl_rules, tracked_rules, untracking_rules}
use Rattle.net_rows.specs.Build.{acl_on_input, has_unknown, switch_rules}
use Rattle.net_rows.specs.LoadBalancers.{switch_lb_rules}
use Rattle.net_rows.specs.Lookup.{switch_l2_rules}
use Rattle.net_rows.specs.PortSecurity.{switch_sec_rules}
use Rattle.net_rows.specs.Unit.{rule, row_of, unit_of, unit_of_datapath}
use Rattle.net_rows.specs.declared.inputs.AclOnInput.{AclOnInput}
use Rattle.net_rows.specs.declared.rule.Rule.{Rule}
use Rattle.net_rows.proofs.Elements.{one_of, one_of_none, Contains-filter, Contains-from_filter}
use Rattle.net_rows.proofs.Sound.{each_passes, rises}
use Rattle.lr_units.specs.Network.{network_rows}
use Rattle.tr_stage.specs.declared.outcome.Outcome.TheVariants.{Drop}
use Rattle.tr_stage.proofs.PacketRuns as steps_of
use Rattle.tr_pipe.specs.Machine.{StageEnd, ended, run_actions, step as flight_step}
use Rattle.tr_pipe.specs.Machine.StageEnd.{On, Ends}
use Rattle.tr_pipe.specs.Tracking.{Flight}
use Rattle.tr_pipe.proofs.Plain.{plain_actions}
use Rattle.ls_laws.specs.Steps.{IsOn, decided, flows_at}
use Rattle.ls_laws.proofs.AclEval.{does, next_of, not_of_balancing, not_of_ports, same_way-is, same_way-self, stage_tells}
use Rattle.ls_laws.proofs.Deciding.{Rises, IsAfter, IsFirst, first_of, rises_kept}
use Rattle.ls_laws.proofs.RuleStages.{rules_at, among_rules_at, from_rules_at, the_only, is_of_decisions, is_of_ports, port_rule_stage}
use Rattle.ls_laws.proofs.Tables.{IsSwitchRule, IsPortRule, IsAclRule, IsVipRule, IsRule, filter_passes, of_no_vip, row_of_acl, row_of_switch}
use Rattle.ls_laws.proofs.Takers.{lower_after, later_after}
use Rattle.ls_ct_laws.specs.Tracking.{IsNoted, Rules, goes, goes_again, marking, ruled_on, with_bit}
use Rattle.ls_ct_laws.proofs.Flags.{is_est, is_answer, is_refused, est_is, not_est_is, answer_is, refused_is}
use Rattle.ls_ct_laws.proofs.Meets.{meets}

-- ---- the rules of an ACL

-- what an ACL refuses, of a connection or not
abbrev refused_match : Bool → Formula TypedAtom → Formula TypedAtom
refused_match true matching = all_of (is_predicate CtEst ∷ matching ∷ [])
refused_match false matching = all_of (Not (is_predicate CtEst) ∷ matching ∷ [])

abbrev taken_match : Verdict → Bool → Formula TypedAtom → Formula TypedAtom
taken_match verdict.Drop est matching = refused_match est matching
taken_match verdict.Reject est matching = refused_match est matching
taken_match _ est matching = matching

abbrev blocks : Bool → List Action → List Action
blocks true actions = action.Step (step.CtCommit true) ∷ actions
blocks false actions = actions

abbrev taken_actions : Verdict → Bool → List Action
taken_actions verdict.Allow est = passes true
taken_actions verdict.AllowRelated est = passes true
taken_actions verdict.AllowStateless est = goes_on
taken_actions verdict.Drop est = blocks est drops
taken_actions verdict.Reject est = blocks est (rejects ∷ [])

-- the rule of an ACL that takes the packets of a connection, or others
abbrev taken_rule : Stage → ℕ → Formula TypedAtom → Verdict → Bool → Rule
taken_rule stage priority matching v est = rule stage priority (taken_match v est matching) (taken_actions v est)

module _ (stage : Stage) (priority : ℕ) (matching : Formula TypedAtom) where
  taken_there : (v : Verdict) (est : Bool) → Contains (tracked_rules stage priority matching v) (taken_rule stage priority matching v est)
  taken_there verdict.Allow est = (0, omega arith, refl)
  taken_there verdict.AllowRelated est = (0, omega arith, refl)
  taken_there verdict.AllowStateless est = (0, omega arith, refl)
  taken_there verdict.Drop true = (0, omega arith, refl)
  taken_there verdict.Drop false = (1, omega arith, refl)
  taken_there verdict.Reject true = (0, omega arith, refl)
  taken_there verdict.Reject false = (1, omega arith, refl)

module _ (known : Lookup) (packet : Values) (found : Option Look) (noted : IsNoted found packet) where
  abbrev est : Bool
  est = is_est found

  -- the rule takes the packets that the match holds of
  refuses : (e : Bool) (matching : Formula TypedAtom) → est ≡ e → holds known packet matching ≡ true → holds known packet (refused_match e matching) ≡ true
  refuses true matching is held = rw (est_is known packet found noted ∙ is, held) refl
  refuses false matching is held = rw (not_est_is known packet found noted ∙ ap not is, held) refl

  taken_holds : (v : Verdict) (matching : Formula TypedAtom) → holds known packet matching ≡ true → holds known packet (taken_match v est matching) ≡ true
  taken_holds verdict.Allow matching held = held
  taken_holds verdict.AllowRelated matching held = held
  taken_holds verdict.AllowStateless matching held = held
  taken_holds verdict.Drop matching held = refuses est matching refl held
  taken_holds verdict.Reject matching held = refuses est matching refl held

  -- and others do not take them
  refused_gives : (e : Bool) (matching : Formula TypedAtom) → holds known packet (refused_match e matching) ≡ true → (est ≡ e) × (holds known packet matching ≡ true)
  refused_gives true matching held =
      let parts = and_parts (holds known packet (is_predicate CtEst)) (holds known packet matching && true) held in
      (sym (est_is known packet found noted) ∙ parts.0, (and_parts (holds known packet matching) true parts.1).0)
  refused_gives false matching held =
      let parts = and_parts (negation_holds known packet (is_predicate CtEst)) (holds known packet matching && true) held in
      (by est (sym (not_est_is known packet found noted) ∙ parts.0), (and_parts (holds known packet matching) true parts.1).0)
    where
      by : (e : Bool) → not e ≡ true → e ≡ false
      by true is = absurd (false≢true is)
      by false is = refl

  module _ (stage : Stage) (priority : ℕ) (matching : Formula TypedAtom) where
    -- the rule of an ACL that takes the packet is this one
    abbrev IsTaken : Verdict → Rule → Type 0
    IsTaken v says = (says ≡ taken_rule stage priority matching v est) × (holds known packet matching ≡ true)

    alone : (actions : List Action) (says : Rule) → Contains (rule stage priority matching actions ∷ []) says → holds known packet says.matching ≡ true
        → (says ≡ rule stage priority matching actions) × (holds known packet matching ≡ true)
    alone actions says there takes = let is = the_only (rule stage priority matching actions) says there in (is, sym (ap (λ (r : Rule). holds known packet r.matching) is) ∙ takes)

    either : (ends : List Action) (says : Rule)
        → Contains (rule stage priority (refused_match true matching) (blocks true ends) ∷ rule stage priority (refused_match false matching) (blocks false ends) ∷ []) says
        → holds known packet says.matching ≡ true → (says ≡ rule stage priority (refused_match est matching) (blocks est ends)) × (holds known packet matching ≡ true)
    either ends says there takes = by (one_of (of true) (of false ∷ []) says there)
      where
        of : Bool → Rule
        of e = rule stage priority (refused_match e matching) (blocks e ends)

        this : (e : Bool) → says ≡ of e → (says ≡ of est) × (holds known packet matching ≡ true)
        this e is = let gives = refused_gives e matching (sym (ap (λ (r : Rule). holds known packet r.matching) is) ∙ takes) in (is ∙ ap of (sym gives.0), gives.1)

        by : (of true ≡ says) ⊎ Contains (of false ∷ []) says → (says ≡ of est) × (holds known packet matching ≡ true)
        by (inl is) = this true (sym is)
        by (inr later) = this false (the_only (of false) says later)

    pub takers : (v : Verdict) (says : Rule) → Contains (tracked_rules stage priority matching v) says → holds known packet says.matching ≡ true → IsTaken v says
    takers verdict.Allow says there takes = alone (passes true) says there takes
    takers verdict.AllowRelated says there takes = alone (passes true) says there takes
    takers verdict.AllowStateless says there takes = alone goes_on says there takes
    takers verdict.Drop says there takes = either drops says there takes
    takers verdict.Reject says there takes = either (rejects ∷ []) says there takes

-- the stages of ACLs are those where they decide
its_stage_decides : (w : Way) → is_of_decisions (stage_of w) ≡ true
its_stage_decides From = refl
its_stage_decides To = refl

-- where an ACL keeps packets from being tracked, none decides
first_not : (w : Way) → is_of_decisions (first_stage_of w) ≡ false
first_not From = refl
first_not To = refl

untracking_stage : (w : Way) (priority : ℕ) (matching : Formula TypedAtom) (v : Verdict) (says : Rule) → Contains (untracking_rules w priority matching v) says → is_of_decisions says.stage ≡ false
untracking_stage w priority matching verdict.Allow says there = absurd (one_of_none says there)
untracking_stage w priority matching verdict.AllowRelated says there = absurd (one_of_none says there)
untracking_stage w priority matching verdict.AllowStateless says there = ap (λ (r : Rule). is_of_decisions r.stage) (the_only (rule (first_stage_of w) priority matching goes_on) says there) ∙ first_not w
untracking_stage w priority matching verdict.Drop says there = absurd (one_of_none says there)
untracking_stage w priority matching verdict.Reject says there = absurd (one_of_none says there)

abbrev rules_where_tracked : AclOnInput → List Rule
rules_where_tracked input =
    untracking_rules input.way (input.priority + 1000) input.matching input.verdict ++ tracked_rules (stage_of input.way) (input.priority + 1000) input.matching input.verdict

-- a rule of an ACL in a stage of ACLs, on a switch that tracks
pub tracked_gives : (input : AclOnInput) (says : Rule) → input.tracks ≡ true → Contains (acl_on_rules input) says → is_of_decisions says.stage ≡ true
    → Contains (tracked_rules (stage_of input.way) (input.priority + 1000) input.matching input.verdict) says
unfolding acl_on_rules
tracked_gives input says is there of = by (is_priority input.priority) input.tracks is there
  where
    here : Contains (untracking_rules input.way (input.priority + 1000) input.matching input.verdict) says ⊎ Contains (tracked_rules (stage_of input.way) (input.priority + 1000) input.matching input.verdict) says
        → Contains (tracked_rules (stage_of input.way) (input.priority + 1000) input.matching input.verdict) says
    here (inl at) = absurd (false≢true (sym (untracking_stage input.way (input.priority + 1000) input.matching input.verdict says at) ∙ of))
    here (inr at) = at

    by : (b t : Bool) → t ≡ true → Contains (cond b (cond t (rules_where_tracked input) (rule (stage_of input.way) (input.priority + 1000) input.matching (ending input.verdict) ∷ [])) []) says
        → Contains (tracked_rules (stage_of input.way) (input.priority + 1000) input.matching input.verdict) says
    by false t e at = absurd (one_of_none says at)
    by true false e at = absurd (false≢true e)
    by true true e at = here (Contains-append_cases (untracking_rules input.way (input.priority + 1000) input.matching input.verdict) (tracked_rules (stage_of input.way) (input.priority + 1000) input.matching input.verdict) says at)

tracked_in : (input : AclOnInput) (says : Rule) → input.tracks ≡ true → is_priority input.priority ≡ true → Contains (tracked_rules (stage_of input.way) (input.priority + 1000) input.matching input.verdict) says
    → Contains (acl_on_rules input) says
unfolding acl_on_rules
tracked_in input says is in_range there = rw (in_range, is) (Contains-append_right (untracking_rules input.way (input.priority + 1000) input.matching input.verdict) (tracked_rules (stage_of input.way) (input.priority + 1000) input.matching input.verdict) says there)

-- ---- the rules of the switch

abbrev keeping_rule : Stage → Rule
keeping_rule stage = rule stage 0 takes_each (passes true)

abbrev shut_rule : Stage → Rule
shut_rule stage = rule stage 65532 is_shut_out drops

abbrev answer_rule : Stage → Rule
answer_rule stage = rule stage 65531 is_reply goes_on

abbrev switch_rules_where_tracked : Bool → Bool → List Rule
switch_rules_where_tracked balanced unknown =
    switch_sec_rules ++ (switch_acl_rules (record { tracks = true; balances = balanced }) ++ (switch_lb_rules ++ switch_l2_rules (record { unknown = unknown })))

three_rules : (w : Way) (balanced unknown : Bool) → rules_at (stage_of w) (switch_rules_where_tracked balanced unknown) ≡ keeping_rule (stage_of w) ∷ shut_rule (stage_of w) ∷ answer_rule (stage_of w) ∷ []
unfolding switch_acl_rules switch_l2_rules stage_place
three_rules From balanced true = refl
three_rules From balanced false = refl
three_rules To balanced true = refl
three_rules To balanced false = refl

-- ---- what actions do

-- actions that ask for no connection do to a flight what they do to its packet
ending_run : (known : Lookup) (w : Way) (v : Verdict) → steps_of.are_run known (stage_of w) (ending v) ≡ true
unfolding next_stage stage_at all_stages
ending_run known From verdict.Allow = refl
ending_run known From verdict.AllowRelated = refl
ending_run known From verdict.AllowStateless = refl
ending_run known From verdict.Drop = refl
ending_run known From verdict.Reject = refl
ending_run known To verdict.Allow = refl
ending_run known To verdict.AllowRelated = refl
ending_run known To verdict.AllowStateless = refl
ending_run known To verdict.Drop = refl
ending_run known To verdict.Reject = refl

module _ (net : Network) (dp : ObjId) (w : Way) where
  ends_with : (v : Verdict) (flight : Flight) → run_actions (names net) dp (stage_of w) (ending v) flight ≡ ended flight (decided (decision_of v) (next_of w) flight.packet)
  ends_with v flight = plain_actions (names net) dp (stage_of w) (ending v) flight (ending_run (names net) w v) ∙ ap (ended flight) (does net w flight.packet v)

  keeps_on : (v : Way) (flight : Flight) → run_actions (names net) dp (stage_of v) (passes true) flight ≡ On (next_of v) (with_bit 1 flight)
  unfolding next_stage stage_at all_stages
  keeps_on From flight = refl
  keeps_on To flight = refl

  -- what an ACL does with a packet of no connection
  does_fresh : (v : Verdict) (flight : Flight) → run_actions (names net) dp (stage_of w) (taken_actions v false) flight ≡ goes (not (is_stateless v)) (decision_of v) (next_of w) flight
  does_fresh verdict.Allow flight = keeps_on w flight
  does_fresh verdict.AllowRelated flight = keeps_on w flight
  does_fresh verdict.AllowStateless flight = ends_with verdict.AllowStateless flight
  does_fresh verdict.Drop flight = ends_with verdict.Drop flight
  does_fresh verdict.Reject flight = ends_with verdict.Reject flight

  -- and with one in the original direction of a connection
  module _ (place : ℕ) (blocked : Bool) where
    abbrev found_again : Flight → Flight
    found_again flight = record flight { look = Some (Found place Orig false blocked) }

    does_found : (v : Verdict) (flight : Flight) → run_actions (names net) dp (stage_of w) (taken_actions v true) (found_again flight) ≡ goes_again (not (is_stateless v)) (decision_of v) place (next_of w) (found_again flight)
    does_found verdict.Allow flight = keeps_on w (found_again flight)
    does_found verdict.AllowRelated flight = keeps_on w (found_again flight)
    does_found verdict.AllowStateless flight = ends_with verdict.AllowStateless (found_again flight)
    does_found verdict.Drop flight = ends_with verdict.Drop (marking place true (found_again flight))
    does_found verdict.Reject flight = ends_with verdict.Reject (marking place true (found_again flight))

    does_again : (v : Verdict) (flight : Flight) → flight.look ≡ Some (Found place Orig false blocked)
        → run_actions (names net) dp (stage_of w) (taken_actions v true) flight ≡ goes_again (not (is_stateless v)) (decision_of v) place (next_of w) flight
    does_again v flight is =
        subst (λ (f : Flight). run_actions (names net) dp (stage_of w) (taken_actions v true) f ≡ goes_again (not (is_stateless v)) (decision_of v) place (next_of w) f)
        (sym (ap (λ l. record flight { look = l }) is)) (does_found v flight)

-- ---- the stage

module _ (net : Network) (switch : Switch) (way : Way) (flight : Flight) (on : IsOn net switch flight.packet) (tracking : tracks net switch.id ≡ true) (noted : IsNoted flight.look flight.packet) where
  abbrev dp : ObjId
  dp = switch.id

  abbrev stage : Stage
  stage = stage_of way

  abbrev packet : Values
  packet = flight.packet

  abbrev found : Option Look
  found = flight.look

  abbrev known : Lookup
  known = names net

  -- ACLs that apply and hold
  abbrev holding : List Acl
  holding = filter (λ acl. holds known packet acl.matching) (acls net dp way)

  are : rules_at stage (switch_rules net dp) ≡ keeping_rule stage ∷ shut_rule stage ∷ answer_rule stage ∷ []
  are =
      ap (λ (t : Bool). rules_at stage (switch_sec_rules ++ (switch_acl_rules (record { tracks = t; balances = balances net dp }) ++ (switch_lb_rules ++ switch_l2_rules (record { unknown = has_unknown net dp }))))) tracking
      ∙ three_rules way (balances net dp) (has_unknown net dp)

  abbrev row_at : Rule → Row
  row_at says = row_of (unit_of_datapath dp) says

  its_row : (says : Rule) → Contains (keeping_rule stage ∷ shut_rule stage ∷ answer_rule stage ∷ []) says → Contains (network_rows net) (row_at says)
  its_row says there = row_of_switch net switch says on.among (from_rules_at stage (switch_rules net dp) _ says are there)

  keeping_in : Contains (network_rows net) (row_at (keeping_rule stage))
  keeping_in = its_row (keeping_rule stage) (0, omega arith, refl)

  shut_in : Contains (network_rows net) (row_at (shut_rule stage))
  shut_in = its_row (shut_rule stage) (1, omega arith, refl)

  answer_in : Contains (network_rows net) (row_at (answer_rule stage))
  answer_in = its_row (answer_rule stage) (2, omega arith, refl)

  -- a row of the switch is one of the three
  of_switch : (x : Row) → IsSwitchRule net dp stage x → (x ≡ row_at (keeping_rule stage)) ⊎ ((x ≡ row_at (shut_rule stage)) ⊎ (x ≡ row_at (answer_rule stage)))
  of_switch x of = by (one_of (keeping_rule stage) (shut_rule stage ∷ answer_rule stage ∷ []) of.says at)
    where
      at : Contains (keeping_rule stage ∷ shut_rule stage ∷ answer_rule stage ∷ []) of.says
      at = subst (λ rs. Contains rs of.says) are (among_rules_at stage (switch_rules net dp) of.says of.in_rules of.of_stage)

      is : (says : Rule) → says ≡ of.says → x ≡ row_at says
      is says same = of.is ∙ ap row_at (sym same)

      then_by : (shut_rule stage ≡ of.says) ⊎ Contains (answer_rule stage ∷ []) of.says → (x ≡ row_at (keeping_rule stage)) ⊎ ((x ≡ row_at (shut_rule stage)) ⊎ (x ≡ row_at (answer_rule stage)))
      then_by (inl same) = inr (inl (is (shut_rule stage) same))
      then_by (inr later) = inr (inr (is (answer_rule stage) (sym (the_only (answer_rule stage) of.says later))))

      by : (keeping_rule stage ≡ of.says) ⊎ Contains (shut_rule stage ∷ answer_rule stage ∷ []) of.says → (x ≡ row_at (keeping_rule stage)) ⊎ ((x ≡ row_at (shut_rule stage)) ⊎ (x ≡ row_at (answer_rule stage)))
      by (inl same) = inl (is (keeping_rule stage) same)
      by (inr later) = then_by (one_of (shut_rule stage) (answer_rule stage ∷ []) of.says later)

  of_no_port : (x : Row) → IsPortRule net dp stage x → ⊥
  of_no_port x of = false≢true (sym (not_of_ports way) ∙ sym (ap is_of_ports of.of_stage) ∙ port_rule_stage net of.port of.says of.in_rules)

  of_no_balancer : (x : Row) → IsVipRule net dp stage x → ⊥
  of_no_balancer x of = of_no_vip net dp stage x (not_of_balancing way) of

  -- ---- rows of ACLs

  abbrev rule_for : Acl → Rule
  rule_for acl = taken_rule (stage_of acl.way) (acl.priority + 1000) acl.matching acl.verdict (is_est found)

  abbrev row_for : Acl → Row
  row_for acl = row_of (unit_of dp acl.id) (rule_for acl)

  in_range : (acl : Acl) → Contains net.acls acl → is_priority acl.priority ≡ true
  in_range acl there = each_passes (λ (a : Acl). is_priority a.priority) net.acls acl on.sound.readable.priorities there

  -- a row of an ACL that takes the packet
  record IsTaking (x : Row) (acl : Acl) : Type 0 where
    is : x ≡ row_for acl
    of_way : acl.way ≡ way
    held : Contains holding acl

  of_acl : (x : Row) (of : IsAclRule net dp stage x) → holds known packet x.matching ≡ true → IsTaking x of.acl
  of_acl x of takes = record {
    is = of.is ∙ ap (row_of (unit_of dp of.acl.id)) taken.0;
    of_way = its_way;
    held = Contains-filter (λ (a : Acl). holds known packet a.matching) (acls net dp way) of.acl
        (Contains-filter (λ (a : Acl). applies net dp a && same_way a.way way) net.acls of.acl of.among (and_from (applies net dp of.acl) (same_way of.acl.way way) of.applied (ap (λ w. same_way w way) its_way ∙ same_way-self way))) taken.1;
  }
    where
      in_stage : is_of_decisions of.says.stage ≡ true
      in_stage = ap is_of_decisions of.of_stage ∙ its_stage_decides way

      among : Contains (tracked_rules (stage_of of.acl.way) (of.acl.priority + 1000) of.acl.matching of.acl.verdict) of.says
      among = tracked_gives (acl_on_input net of.acl dp) of.says tracking of.in_rules in_stage

      taken : (of.says ≡ rule_for of.acl) × (holds known packet of.acl.matching ≡ true)
      taken = takers known packet found noted (stage_of of.acl.way) (of.acl.priority + 1000) of.acl.matching of.acl.verdict of.says among (sym (ap (λ (r : Row). holds known packet r.matching) of.is) ∙ takes)

      its_way : of.acl.way ≡ way
      its_way = stage_tells of.acl.way way (sym (ap (λ (r : Rule). r.stage) taken.0) ∙ of.of_stage)

  -- its priority is below those of the switch's first rules
  below_all : (acl : Acl) → Contains net.acls acl → acl.priority + 1000 < 65531
  below_all acl there = below acl.priority (in_range acl there)
    where
      below : (p : ℕ) → is_priority p ≡ true → p + 1000 < 65531
      below p is = grind (arith, nat_tests)

  acl_below : (r : Row) → r.dp ≡ dp → r.stage ≡ stage → 65530 < r.priority → (x : Row) (of : IsAclRule net dp stage x) → holds known packet x.matching ≡ true → is_gt (row_cmp x r) ≡ true
  acl_below r of_dp of_stage high x of takes =
      let is = of_acl x of takes in
      ap (λ (y : Row). is_gt (row_cmp y r)) is.is ∙ lower_after (row_for of.acl) r (sym of_dp) (ap stage_of is.of_way ∙ sym of_stage) (omega (arith, below_all of.acl of.among, high))

  -- ---- packets that are refused, and answers

  abbrev IsOther : Row → Row → Type 0
  IsOther r x = (x.actions ≡ r.actions) ⊎ (is_gt (row_cmp x r) ≡ true)

  same : (r x : Row) → x ≡ r → IsOther r x
  same r x is = inl (ap (λ (y : Row). y.actions) is)

  lower : (says other : Rule) (x : Row) → x ≡ row_at other → other.stage ≡ says.stage → other.priority < says.priority → IsOther (row_at says) x
  lower says other x is stages less = inr (ap (λ (y : Row). is_gt (row_cmp y (row_at says))) is ∙ lower_after (row_at other) (row_at says) refl stages less)

  shut : is_refused found ≡ true → flight_step (flows_at net dp) stage flight ≡ Ends (Some (Drop acl_cause)) flight.state
  shut is = meets net switch flight on stage (row_at (shut_rule stage)) shut_in refl refl (refused_is known packet found noted ∙ is) others ∙ ends_with net dp way verdict.Drop flight
    where
      switch_by : (x : Row) → (x ≡ row_at (keeping_rule stage)) ⊎ ((x ≡ row_at (shut_rule stage)) ⊎ (x ≡ row_at (answer_rule stage))) → IsOther (row_at (shut_rule stage)) x
      switch_by x (inl one) = lower (shut_rule stage) (keeping_rule stage) x one refl (omega arith)
      switch_by x (inr (inl one)) = same (row_at (shut_rule stage)) x one
      switch_by x (inr (inr one)) = lower (shut_rule stage) (answer_rule stage) x one refl (omega arith)

      others : (x : Row) → IsRule net dp stage x → holds known packet x.matching ≡ true → IsOther (row_at (shut_rule stage)) x
      others x (inl of) takes = switch_by x (of_switch x of)
      others x (inr (inl of)) takes = absurd (of_no_port x of)
      others x (inr (inr (inl of))) takes = inr (acl_below (row_at (shut_rule stage)) refl refl (omega arith) x of takes)
      others x (inr (inr (inr of))) takes = absurd (of_no_balancer x of)

  -- where the rule that shuts out does not take the packet
  module _ (let_on : is_refused found ≡ false) where
    not_shut : (x : Row) → x ≡ row_at (shut_rule stage) → holds known packet x.matching ≡ true → ⊥
    not_shut x one takes = false≢true (sym let_on ∙ sym (refused_is known packet found noted) ∙ sym (ap (λ (y : Row). holds known packet y.matching) one) ∙ takes)

    answered : is_answer found ≡ true → flight_step (flows_at net dp) stage flight ≡ On (next_of way) flight
    answered is = meets net switch flight on stage (row_at (answer_rule stage)) answer_in refl refl (answer_is known packet found noted ∙ is) others ∙ ends_with net dp way verdict.AllowStateless flight
      where
        switch_by : (x : Row) → holds known packet x.matching ≡ true → (x ≡ row_at (keeping_rule stage)) ⊎ ((x ≡ row_at (shut_rule stage)) ⊎ (x ≡ row_at (answer_rule stage))) → IsOther (row_at (answer_rule stage)) x
        switch_by x takes (inl one) = lower (answer_rule stage) (keeping_rule stage) x one refl (omega arith)
        switch_by x takes (inr (inl one)) = absurd (not_shut x one takes)
        switch_by x takes (inr (inr one)) = same (row_at (answer_rule stage)) x one

        others : (x : Row) → IsRule net dp stage x → holds known packet x.matching ≡ true → IsOther (row_at (answer_rule stage)) x
        others x (inl of) takes = switch_by x takes (of_switch x of)
        others x (inr (inl of)) takes = absurd (of_no_port x of)
        others x (inr (inr (inl of))) takes = inr (acl_below (row_at (answer_rule stage)) refl refl (omega arith) x of takes)
        others x (inr (inr (inr of))) takes = absurd (of_no_balancer x of)

    -- ---- packets on which ACLs decide

    module _ (asks : is_answer found ≡ false) where
      not_answer : (x : Row) → x ≡ row_at (answer_rule stage) → holds known packet x.matching ≡ true → ⊥
      not_answer x one takes = false≢true (sym asks ∙ sym (answer_is known packet found noted) ∙ sym (ap (λ (y : Row). holds known packet y.matching) one) ∙ takes)

      -- of the switch's rules only the last takes them
      switch_last : (x : Row) → IsSwitchRule net dp stage x → holds known packet x.matching ≡ true → x ≡ row_at (keeping_rule stage)
      switch_last x of takes = by (of_switch x of)
        where
          by : (x ≡ row_at (keeping_rule stage)) ⊎ ((x ≡ row_at (shut_rule stage)) ⊎ (x ≡ row_at (answer_rule stage))) → x ≡ row_at (keeping_rule stage)
          by (inl one) = one
          by (inr (inl one)) = absurd (not_shut x one takes)
          by (inr (inr one)) = absurd (not_answer x one takes)

      -- where none holds, the packet goes on and is to be kept
      none_decides : holding ≡ [] → flight_step (flows_at net dp) stage flight ≡ On (next_of way) (with_bit 1 flight)
      none_decides none = meets net switch flight on stage (row_at (keeping_rule stage)) keeping_in refl refl refl others ∙ keeps_on net dp way way flight
        where
          others : (x : Row) → IsRule net dp stage x → holds known packet x.matching ≡ true → IsOther (row_at (keeping_rule stage)) x
          others x (inl of) takes = same (row_at (keeping_rule stage)) x (switch_last x of takes)
          others x (inr (inl of)) takes = absurd (of_no_port x of)
          others x (inr (inr (inr of))) takes = absurd (of_no_balancer x of)
          others x (inr (inr (inl of))) takes = absurd (one_of_none of.acl (subst (λ list. Contains list of.acl) none (of_acl x of takes).held))

      -- where one decides, its row is met
      module _ (f : Acl) (more : List Acl) (some : holding ≡ f ∷ more) where
        rising : Rises holding
        rising = rises_kept (λ acl. holds known packet acl.matching) (acls net dp way) (rises_kept (λ (a : Acl). applies net dp a && same_way a.way way) net.acls (rises (λ (a : Acl). a.id) net.acls on.sound.numbered.order.acls))

        first : IsFirst (f ∷ more) (fold higher (Some f) more)
        first = first_of f more (subst Rises some rising)

        abbrev acl : Acl
        acl = first.acl

        held : Contains holding acl
        held = subst (λ list. Contains list acl) (sym some) first.among

        applying : Contains (acls net dp way) acl
        applying = Contains-from_filter (λ (a : Acl). holds known packet a.matching) (acls net dp way) acl held

        there : Contains net.acls acl
        there = Contains-from_filter (λ (a : Acl). applies net dp a && same_way a.way way) net.acls acl applying

        both : (applies net dp acl ≡ true) × (same_way acl.way way ≡ true)
        both = and_parts (applies net dp acl) (same_way acl.way way) (filter_passes (λ (a : Acl). applies net dp a && same_way a.way way) net.acls acl applying)

        its_rule : Contains (acl_on_rules (acl_on_input net acl dp)) (rule_for acl)
        its_rule = tracked_in (acl_on_input net acl dp) (rule_for acl) tracking (in_range acl there) (taken_there (stage_of acl.way) (acl.priority + 1000) acl.matching acl.verdict (is_est found))

        acl_row : Contains (network_rows net) (row_for acl)
        acl_row = row_of_acl net acl switch (rule_for acl) there (Contains-filter (λ (s : Switch). applies net s.id acl) net.switches switch on.among both.0) its_rule

        its_stage : (row_for acl).stage ≡ stage
        its_stage = ap stage_of (same_way-is acl.way way both.1)

        takes_it : holds known packet (row_for acl).matching ≡ true
        takes_it = taken_holds known packet found noted acl.verdict acl.matching (filter_passes (λ (a : Acl). holds known packet a.matching) (acls net dp way) acl held)

        others : (x : Row) → IsRule net dp stage x → holds known packet x.matching ≡ true → IsOther (row_for acl) x
        others x (inl of) takes =
            inr (ap (λ (r : Row). is_gt (row_cmp r (row_for acl))) (switch_last x of takes) ∙ lower_after (row_at (keeping_rule stage)) (row_for acl) refl (sym its_stage) (omega arith))
        others x (inr (inl of)) takes = absurd (of_no_port x of)
        others x (inr (inr (inr of))) takes = absurd (of_no_balancer x of)
        others x (inr (inr (inl of))) takes = by (first.others of.acl (subst (λ list. Contains list of.acl) some taking.held))
          where
            taking : IsTaking x of.acl
            taking = of_acl x of takes

            stages : (row_for of.acl).stage ≡ (row_for acl).stage
            stages = ap stage_of taking.of_way ∙ sym its_stage

            by : IsAfter of.acl acl → IsOther (row_for acl) x
            by (inl one) = same (row_for acl) x (taking.is ∙ ap row_for one)
            by (inr (inl less)) = inr (ap (λ (r : Row). is_gt (row_cmp r (row_for acl))) taking.is ∙ lower_after (row_for of.acl) (row_for acl) refl stages (omega (arith, less)))
            by (inr (inr level)) = inr (ap (λ (r : Row). is_gt (row_cmp r (row_for acl))) taking.is ∙ later_after (row_for of.acl) (row_for acl) refl stages (ap (λ n. n + 1000) level.0) level.1)

        one_decides : flight_step (flows_at net dp) stage flight ≡ run_actions known dp stage (taken_actions acl.verdict (is_est found)) flight
        one_decides = meets net switch flight on stage (row_for acl) acl_row refl its_stage takes_it others

      -- so the stage does what this says of the ACL that decides
      module _ (says : Option Acl → StageEnd) (by_none : On (next_of way) (with_bit 1 flight) ≡ says None) (by_one : (a : Acl) → run_actions known dp stage (taken_actions a.verdict (is_est found)) flight ≡ says (Some a)) where
        asked : flight_step (flows_at net dp) stage flight ≡ says (deciding net dp way packet)
        asked = by holding refl
          where
            by : (all : List Acl) → holding ≡ all → flight_step (flows_at net dp) stage flight ≡ says (deciding net dp way packet)
            by [] none = none_decides none ∙ by_none ∙ sym (ap (λ (list : List Acl). says (fold higher None list)) none)
            by (f ∷ more) some =
                one_decides f more some ∙ by_one (first f more some).acl
                ∙ sym (ap (λ (list : List Acl). says (fold higher None list)) some ∙ ap says (first f more some).is)

  abbrev To_be : Option Look → Type 0
  To_be l = flight_step (flows_at net dp) stage flight ≡ ruled_on (deciding net dp way packet) (next_of way) flight l

  -- the stage does what the look-up and the ACL that decides say
  pub rules_tracked : flight_step (flows_at net dp) stage flight ≡ ruled_on (deciding net dp way packet) (next_of way) flight found
  rules_tracked = by found refl
    where
      fresh : (l : Option Look) → found ≡ l → is_refused l ≡ false → is_answer l ≡ false → is_est l ≡ false
          → flight_step (flows_at net dp) stage flight ≡ goes (is_to_keep (deciding net dp way packet)) (decided_by (deciding net dp way packet)) (next_of way) flight
      fresh l is on_it asks begins =
          asked (ap is_refused is ∙ on_it) (ap is_answer is ∙ asks) (λ a. goes (is_to_keep a) (decided_by a) (next_of way) flight) refl
          (λ a. ap (λ e. run_actions known dp stage (taken_actions a.verdict e) flight) (ap is_est is ∙ begins) ∙ does_fresh net dp way a.verdict flight)

      again : (place : ℕ) (blocked : Bool) → found ≡ Some (Found place Orig false blocked) → To_be (Some (Found place Orig false blocked))
      again place blocked is =
          asked (ap is_refused is) (ap is_answer is) (λ a. goes_again (is_to_keep a) (decided_by a) place (next_of way) flight) refl
          (λ a. ap (λ e. run_actions known dp stage (taken_actions a.verdict e) flight) (ap is_est is) ∙ does_again net dp way place blocked a.verdict flight is)

      by : (l : Option Look) → found ≡ l → To_be l
      by None is = fresh None is refl refl refl
      by (Some Invalid) is = shut (ap is_refused is)
      by (Some New) is = fresh (Some New) is refl refl refl
      by (Some (Found place Orig false blocked)) is = again place blocked is
      by (Some (Found place Orig true true)) is = shut (ap is_refused is)
      by (Some (Found place Orig true false)) is = answered (ap is_refused is) (ap is_answer is)
      by (Some (Found place Reply true true)) is = shut (ap is_refused is)
      by (Some (Found place Reply false true)) is = shut (ap is_refused is)
      by (Some (Found place Reply true false)) is = answered (ap is_refused is) (ap is_answer is)
      by (Some (Found place Reply false false)) is = answered (ap is_refused is) (ap is_answer is)

-- in either direction
pub rules_of : (way : Way) → Rules way
rules_of From net switch flight noted on tracking = rules_tracked net switch From flight on tracking noted
rules_of To net switch flight noted on tracking = rules_tracked net switch To flight on tracking noted
