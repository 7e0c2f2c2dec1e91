-- Which rules a switch that tracks connections has in a stage, those of its ports, and those of ACLs that apply to it.
use Rattle.std.proofs.Common.{◌≡◌, ℕ, ◌+◌, Bool, true, false, cond, List, [], ◌∷◌, ◌++◌, sym, ap, refl, ◌∙◌, ◌⊎◌, inl, inr, subst}
use Rattle.std.specs.Prelude.{◌||◌}
use Rattle.std.specs.List.{AllByRecursion, Contains}
use Rattle.std.proofs.lemmas.Bool.{false≢true}
use Rattle.std.proofs.lemmas.List.Elements.{Contains-append_cases, Contains-append_left, Contains-append_right}
use Rattle.nv_base.specs.declared.object.ObjId.{ObjId}
use Rattle.expr_core.specs.Formula.{Formula}
use Rattle.expr_core.specs.declared.typed.TypedAtom.{TypedAtom}
use Rattle.nb_records.specs.declared.acl.Verdict.{Verdict}
use Rattle.nb_records.specs.declared.acl.Verdict.TheVariants.{Allow, AllowRelated, AllowStateless, Drop, Reject}
use Rattle.nb_records.specs.declared.acl.Way.{Way}
use Rattle.nb_records.specs.declared.acl.Way.TheVariants.{From, To}
use Rattle.nb_records.specs.declared.switch.Port.{Port}
use Rattle.nb_model.specs.Applies.{balances, tracks}
use Rattle.nb_model.specs.Network.{Network}
use Rattle.nb_model.specs.Readable.{is_priority}
use Rattle.sb_model.specs.Make.{takes_each, goes_on, is_port}
use Rattle.sb_model.specs.declared.stage.Stage.{Stage}
use Rattle.sb_model.specs.declared.stage.Stage.TheVariants.{LsInPreAcl, LsInAclEval, LsOutAclEval}
use Rattle.net_meaning.specs.Tracked.{is_stateless}
use Rattle.net_rows.specs.Acls.{port_acl_rules, first_stage_of, stage_of, acl_rules_at, acl_on_rules, tracked_rules, untracking_rules}
use Rattle.net_rows.specs.Build.{acl_rules_of_port, has_unknown, is_untracked, port_acl_input, port_l2_input, port_rules, port_sec_input, switch_rules}
use Rattle.net_rows.specs.Lookup.{port_l2_rules}
use Rattle.net_rows.specs.PortSecurity.{port_sec_rules}
use Rattle.net_rows.specs.Unit.{rule}
use Rattle.net_rows.specs.declared.inputs.AclOnInput.{AclOnInput}
use Rattle.net_rows.specs.declared.rule.Rule.{Rule}
use Rattle.net_rows.proofs.Elements.{one_first, one_later, one_of, one_of_none}
use Rattle.ls_laws.proofs.RuleStages.{acl_rules_of_port-gives, each_of, is_first, is_of_addresses, is_of_security, later_rules, of_port_l2, of_port_sec, rules_where, the_only}
use Rattle.ls_ct_laws.specs.Tracking.{port_field}

-- ---- the rules of a switch

-- the rule that passes each packet on
abbrev pub passing : Stage → Rule
passing stage = rule stage 0 takes_each goes_on

-- those of a switch that tracks, to which load balancers are attached or not
abbrev pub tracked_switch_rules : (balances unknown : Bool) → List Rule
tracked_switch_rules balances unknown = rules_where true balances unknown

pub switch_rules-tracked : (net : Network) (switch : ObjId) → tracks net switch ≡ true → switch_rules net switch ≡ tracked_switch_rules (balances net switch) (has_unknown net switch)
switch_rules-tracked net switch tracking = ap (λ (t : Bool). rules_where t (balances net switch) (has_unknown net switch)) tracking

-- ---- the rules of ports in the first stage of a direction

-- what is of a port that leads to a router is passed on
abbrev pub port_rule : Way → List ℕ → Rule
port_rule way name = rule (first_stage_of way) 110 (is_port (port_field way) name) goes_on

not_security : (way : Way) → is_of_security (first_stage_of way) ≡ false
not_security From = refl
not_security To = refl

not_addresses : (way : Way) → is_of_addresses (first_stage_of way) ≡ false
not_addresses From = refl
not_addresses To = refl

module _ (net : Network) (port : Port) (way : Way) where
  abbrev own : List Rule
  own = port_acl_rules (port_acl_input port)

  -- the rule of a direction among the two
  of_way : (says : Rule) → Contains own says → says.stage ≡ first_stage_of way → says ≡ port_rule way port.name
  unfolding port_acl_rules
  of_way says there of_stage = by way (one_of (port_rule From port.name) (port_rule To port.name ∷ []) says there) of_stage
    where
      is_in : Stage → Bool
      is_in LsInPreAcl = true
      is_in _ = false

      by : (w : Way) → (port_rule From port.name ≡ says) ⊎ Contains (port_rule To port.name ∷ []) says → says.stage ≡ first_stage_of w → says ≡ port_rule w port.name
      by From (inl same) stage = sym same
      by From (inr later) stage = absurd (false≢true (sym (ap (λ (r : Rule). is_in r.stage) (the_only (port_rule To port.name) says later)) ∙ ap is_in stage))
      by To (inl same) stage = absurd (false≢true (sym (ap is_in stage) ∙ sym (ap (λ (r : Rule). is_in r.stage) same)))
      by To (inr later) stage = the_only (port_rule To port.name) says later

  in_own : Contains own (port_rule way port.name)
  unfolding port_acl_rules
  in_own = by way
    where
      by : (w : Way) → Contains (port_rule From port.name ∷ port_rule To port.name ∷ []) (port_rule w port.name)
      by From = one_first (port_rule From port.name) (port_rule To port.name ∷ []) (port_rule From port.name) refl
      by To = one_later (port_rule From port.name) (port_rule To port.name ∷ []) (port_rule To port.name) (one_first (port_rule To port.name) [] (port_rule To port.name) refl)

  -- it is the only one there, and is there where the port leads to a router and its switch tracks
  pub port_rule-gives : (says : Rule) → Contains (port_rules net port) says → says.stage ≡ first_stage_of way → (is_untracked net port ≡ true) × (says ≡ port_rule way port.name)
  port_rule-gives says there of_stage = by (Contains-append_cases (port_sec_rules (port_sec_input port)) (later_rules net port) says there)
    where
      later : Contains (acl_rules_of_port net port) says ⊎ Contains (port_l2_rules (port_l2_input net port)) says → (is_untracked net port ≡ true) × (says ≡ port_rule way port.name)
      later (inl at) = let gives = acl_rules_of_port-gives net port says at in (gives.0, of_way says gives.1 of_stage)
      later (inr at) =
          let addresses = each_of (λ (r : Rule). is_of_addresses r.stage ≡ true) (port_l2_rules (port_l2_input net port)) says (of_port_l2 (port_l2_input net port)) at in
          absurd (false≢true (sym (not_addresses way) ∙ sym (ap is_of_addresses of_stage) ∙ addresses))

      by : Contains (port_sec_rules (port_sec_input port)) says ⊎ Contains (later_rules net port) says → (is_untracked net port ≡ true) × (says ≡ port_rule way port.name)
      by (inl at) =
          let security = each_of (λ (r : Rule). is_of_security r.stage ≡ true) (port_sec_rules (port_sec_input port)) says (of_port_sec (port_sec_input port)) at in
          absurd (false≢true (sym (not_security way) ∙ sym (ap is_of_security of_stage) ∙ security))
      by (inr at) = later (Contains-append_cases (acl_rules_of_port net port) (port_l2_rules (port_l2_input net port)) says at)

  pub port_rule-from : is_untracked net port ≡ true → Contains (port_rules net port) (port_rule way port.name)
  port_rule-from untracked =
      let says = port_rule way port.name in
      Contains-append_right (port_sec_rules (port_sec_input port)) (later_rules net port) says
      (Contains-append_left (acl_rules_of_port net port) (port_l2_rules (port_l2_input net port)) says (subst (λ (b : Bool). Contains (cond b own []) says) (sym untracked) in_own))

-- ---- the rules of ACLs

-- on a switch that tracks an ACL has rules in the first stage of its direction and in its own
abbrev pub is_deciding : Stage → Bool
is_deciding LsInAclEval = true
is_deciding LsOutAclEval = true
is_deciding _ = false

-- those of the first stage, and those of its own
abbrev pub first_rules : AclOnInput → List Rule
first_rules input = untracking_rules input.way (input.priority + 1000) input.matching input.verdict

abbrev pub own_rules : AclOnInput → List Rule
own_rules input = tracked_rules (stage_of input.way) (input.priority + 1000) input.matching input.verdict

pub tracked_gives : (input : AclOnInput) (says : Rule) → input.tracks ≡ true → Contains (acl_on_rules input) says → Contains (first_rules input) says ⊎ Contains (own_rules input) says
unfolding acl_on_rules
tracked_gives input says tracking there = by (is_priority input.priority) input.tracks tracking there
  where
    by : (b t : Bool) → t ≡ true → Contains (cond b (cond t (first_rules input ++ own_rules input) (acl_rules_at (input.priority + 1000) (record input { tracks = false }))) []) says
        → Contains (first_rules input) says ⊎ Contains (own_rules input) says
    by false t e at = absurd (one_of_none says at)
    by true false e at = absurd (false≢true e)
    by true true e at = Contains-append_cases (first_rules input) (own_rules input) says at

-- each of these is a rule
pub tracked_from : (input : AclOnInput) (says : Rule) → input.tracks ≡ true → is_priority input.priority ≡ true → Contains (first_rules input) says ⊎ Contains (own_rules input) says → Contains (acl_on_rules input) says
unfolding acl_on_rules
tracked_from input says tracking fits there = rw (fits, tracking) (by there)
  where
    by : Contains (first_rules input) says ⊎ Contains (own_rules input) says → Contains (first_rules input ++ own_rules input) says
    by (inl at) = Contains-append_left (first_rules input) (own_rules input) says at
    by (inr at) = Contains-append_right (first_rules input) (own_rules input) says at

-- what an ACL says in the first stage: where it is stateless, that the packet goes on
pub first_gives : (way : Way) (priority : ℕ) (matching : Formula TypedAtom) (verdict : Verdict) (says : Rule) → Contains (untracking_rules way priority matching verdict) says
    → (is_stateless verdict ≡ true) × (says ≡ rule (first_stage_of way) priority matching goes_on)
first_gives way priority matching AllowStateless says there = (refl, the_only (rule (first_stage_of way) priority matching goes_on) says there)
first_gives way priority matching Allow says there = absurd (one_of_none says there)
first_gives way priority matching AllowRelated says there = absurd (one_of_none says there)
first_gives way priority matching Drop says there = absurd (one_of_none says there)
first_gives way priority matching Reject says there = absurd (one_of_none says there)

pub first_from : (way : Way) (priority : ℕ) (matching : Formula TypedAtom) (verdict : Verdict) → is_stateless verdict ≡ true
    → Contains (untracking_rules way priority matching verdict) (rule (first_stage_of way) priority matching goes_on)
first_from way priority matching AllowStateless is = one_first (rule (first_stage_of way) priority matching goes_on) [] (rule (first_stage_of way) priority matching goes_on) refl
first_from way priority matching Allow is = absurd (false≢true is)
first_from way priority matching AllowRelated is = absurd (false≢true is)
first_from way priority matching Drop is = absurd (false≢true is)
first_from way priority matching Reject is = absurd (false≢true is)

-- what it says elsewhere is of its own stage
of_own_stage : (stage : Stage) (priority : ℕ) (matching : Formula TypedAtom) (verdict : Verdict) → AllByRecursion (λ (r : Rule). r.stage ≡ stage) (tracked_rules stage priority matching verdict)
of_own_stage stage priority matching Allow = (refl, tt)
of_own_stage stage priority matching AllowRelated = (refl, tt)
of_own_stage stage priority matching AllowStateless = (refl, tt)
of_own_stage stage priority matching Drop = (refl, (refl, tt))
of_own_stage stage priority matching Reject = (refl, (refl, tt))

pub own_stage : (input : AclOnInput) (says : Rule) → Contains (own_rules input) says → says.stage ≡ stage_of input.way
own_stage input says there =
    each_of (λ (r : Rule). r.stage ≡ stage_of input.way) (own_rules input) says (of_own_stage (stage_of input.way) (input.priority + 1000) input.matching input.verdict) there

first_is : (way : Way) → is_first (first_stage_of way) ≡ true
first_is From = refl
first_is To = refl

deciding_is : (way : Way) → is_deciding (stage_of way) ≡ true
deciding_is From = refl
deciding_is To = refl

-- the stages of all its rules
pub acl_rule_stages : (input : AclOnInput) (says : Rule) → input.tracks ≡ true → Contains (acl_on_rules input) says → (is_first says.stage || is_deciding says.stage) ≡ true
acl_rule_stages input says tracking there = by (tracked_gives input says tracking there)
  where
    either : (b : Bool) → (b || true) ≡ true
    either true = refl
    either false = refl

    by : Contains (first_rules input) says ⊎ Contains (own_rules input) says → (is_first says.stage || is_deciding says.stage) ≡ true
    by (inl at) =
        let is = (first_gives input.way (input.priority + 1000) input.matching input.verdict says at).1 in
        ap (λ (s : Rule). is_first s.stage || is_deciding s.stage) is ∙ ap (λ c. c || is_deciding (first_stage_of input.way)) (first_is input.way)
    by (inr at) =
        ap (λ s. is_first s || is_deciding s) (own_stage input says at) ∙ ap (λ c. is_first (stage_of input.way) || c) (deciding_is input.way) ∙ either (is_first (stage_of input.way))
