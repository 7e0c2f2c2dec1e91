-- The stages of ACLs decide as the ACLs do, where a switch tracks no connections.
use Rattle.std.proofs.Common.{◌≡◌, ◌+◌, Bool, true, false, cond, List, [], ◌∷◌, ◌++◌, sym, ap, refl, ◌∙◌, subst, ◌⊎◌, inl, inr, arith}
use Rattle.std.specs.Prelude.{◌&&◌, Option, Some, None, fold}
use Rattle.std.specs.Ordering.{is_gt}
use Rattle.std.specs.List.{Contains, filter}
use Rattle.std.proofs.lemmas.Bool.{false≢true, and_from, and_parts}
use Rattle.nv_base.specs.declared.object.ObjId.{ObjId}
use Rattle.nv_base.specs.declared.field.Prerequisite.TheVariants.{Tcp}
use Rattle.pkt_core.specs.Packet.{Values}
use Rattle.pkt_core.specs.Prerequisite.{meets}
use Rattle.pkt_core.specs.Replies.{is_answerable, reset, icmp_error}
use Rattle.pkt_core.specs.declared.replies.IcmpReason.TheVariants.{PortUnreachable}
use Rattle.expr_eval.specs.MatchMeaning.{holds}
use Rattle.act_core.specs.declared.step.Step.{Step}
use Rattle.act_core.specs.declared.step.Step.TheVariants.{Jump}
use Rattle.nb_records.specs.declared.acl.Acl.{Acl}
use Rattle.nb_records.specs.declared.acl.Verdict.{Verdict}
use Rattle.nb_records.specs.declared.acl.Verdict.TheVariants as verdict
use Rattle.nb_records.specs.declared.acl.Way.{Way}
use Rattle.nb_records.specs.declared.acl.Way.TheVariants.{From, To}
use Rattle.nb_records.specs.declared.switch.Switch.{Switch}
use Rattle.nb_model.specs.Belongs.{same_way}
use Rattle.nb_model.specs.Names.{names}
use Rattle.nb_model.specs.Network.{Network}
use Rattle.nb_model.specs.Readable.{is_priority}
use Rattle.sb_model.specs.Make.{goes_on, drops, turns_back}
use Rattle.sb_model.specs.Stage.{all_stages, next_stage, stage_at, stage_place}
use Rattle.sb_model.specs.declared.row.Row.{Row}
use Rattle.sb_model.specs.declared.stage.Stage.{Stage}
use Rattle.sb_model.specs.declared.stage.Stage.TheVariants.{LsInAclEval, LsInLb, LsOutStateful}
use Rattle.sb_rows.specs.Match.{select}
use Rattle.sb_rows.specs.Row.{row_cmp}
use Rattle.net_meaning.specs.AclVerdict.{decision, decided_by, decision_of, higher}
use Rattle.nb_model.specs.Applies.{acls, applies, balances}
use Rattle.net_meaning.specs.Switches.{rejection}
use Rattle.net_meaning.specs.declared.answer.Answer.TheVariants.{Reject}
use Rattle.net_meaning.specs.declared.cause.Cause.TheVariants.{Acl as acl_cause}
use Rattle.net_rows.specs.Acls.{switch_acl_rules, acl_on_rules, stage_of, ending, rejects}
use Rattle.net_rows.specs.Build.{acl_on_input, has_unknown, switch_rules}
use Rattle.net_rows.specs.Lookup.{switch_l2_rules}
use Rattle.net_rows.specs.Unit.{unit_of, unit_of_datapath, row_of}
use Rattle.net_rows.specs.declared.rule.Rule.{Rule}
use Rattle.net_rows.proofs.Elements.{one_first, one_of_none, Contains-filter, Contains-from_filter}
use Rattle.net_rows.proofs.Sound.{each_passes, rises}
use Rattle.lr_units.specs.Network.{network_rows}
use Rattle.lr_units.proofs.Whole.{network_in_order}
use Rattle.tr_stage.specs.declared.outcome.Outcome.TheVariants.{Made, Drop}
use Rattle.tr_stage.specs.Machine.{acted, answer_for, answered, run_actions, step}
use Rattle.tr_stage.specs.Machine.StageEnd.{On, Ends}
use Rattle.ls_laws.specs.Steps.{IsOn, IsUntracked, DecidesIn, DecidesOut, decided, flows_at, rejected, sent_back}
use Rattle.ls_laws.proofs.Deciding.{Rises, IsAfter, IsFirst, first_of, rises_kept}
use Rattle.ls_laws.proofs.PassingStages.{passing}
use Rattle.ls_laws.proofs.RuleStages.{rules_at, among_rules_at, from_rules_at, the_only, is_of_balancing, is_of_ports, port_rule_stage, untracked_rule, rules_where, switch_rules-untracked, acl_rule-gives}
use Rattle.ls_laws.proofs.Selected.{first_of_takers}
use Rattle.ls_laws.proofs.Tables.{IsSwitchRule, IsPortRule, IsAclRule, IsVipRule, IsRule, filter_passes, of_no_vip, row_of_acl, row_of_switch, table-gives}
use Rattle.ls_laws.proofs.Takers.{lower_after, later_after, step_by}
use Rattle.sb_model.specs.Stage.{last_table}
use Rattle.sb_model.specs.declared.stage.DatapathKind.TheVariants as datapath

-- ---- what the actions of an ACL do

-- what the answer to a rejected packet is
answer_is : (packet : Values) → answer_for packet ≡ cond (is_answerable packet) (Some (rejection packet)) None
answer_is packet = by (meets packet Tcp) refl (is_answerable packet)
  where
    by : (tcp : Bool) → meets packet Tcp ≡ tcp → (may : Bool)
        → cond tcp (cond (may && meets packet Tcp) (Some (reset packet)) None) (cond may (Some (icmp_error packet PortUnreachable)) None)
        ≡ cond may (Some (cond tcp (reset packet) (icmp_error packet PortUnreachable))) None
    by true is true = rw is refl
    by true is false = refl
    by false is true = refl
    by false is false = refl

-- what is done to the packet that answers
abbrev block : List Step
block = turns_back ++ Jump true (last_table datapath.Switch) ∷ []

-- the stage after that of a direction
abbrev pub next_of : Way → Stage
next_of From = LsInLb
next_of To = LsOutStateful

module _ (net : Network) (way : Way) (packet : Values) where
  goes_to : (w : Way) → run_actions (names net) (stage_of w) goes_on packet ≡ On (next_of w) packet
  unfolding next_stage stage_at all_stages
  goes_to From = refl
  goes_to To = refl

  dropped : (w : Way) → run_actions (names net) (stage_of w) drops packet ≡ Ends (Some (Drop acl_cause))
  dropped From = refl
  dropped To = refl

  rejected_is : (w : Way) → run_actions (names net) (stage_of w) (rejects ∷ []) packet ≡ rejected packet
  rejected_is w = ap (answered (names net) (stage_of w) block) (answer_is packet) ∙ by w (is_answerable packet)
    where
      by : (v : Way) (may : Bool) → answered (names net) (stage_of v) block (cond may (Some (rejection packet)) None)
          ≡ cond may (Ends (Some (Made (sent_back (rejection packet)) (last_table datapath.Switch) Reject))) (Ends (Some (Drop acl_cause)))
      by From true = refl
      by From false = refl
      by To true = refl
      by To false = refl

  pub does : (v : Verdict) → run_actions (names net) (stage_of way) (ending v) packet ≡ decided (decision_of v) (next_of way) packet
  does verdict.Allow = goes_to way
  does verdict.AllowRelated = goes_to way
  does verdict.AllowStateless = goes_to way
  does verdict.Drop = dropped way
  does verdict.Reject = rejected_is way

-- ---- ACLs of a direction

pub same_way-is : (v w : Way) → same_way v w ≡ true → v ≡ w
same_way-is From From is = refl
same_way-is From To is = absurd (false≢true is)
same_way-is To From is = absurd (false≢true is)
same_way-is To To is = refl

pub same_way-self : (w : Way) → same_way w w ≡ true
same_way-self From = refl
same_way-self To = refl

-- the direction that a stage is of
abbrev is_from : Stage → Bool
is_from LsInAclEval = true
is_from _ = false

pub stage_tells : (v w : Way) → stage_of v ≡ stage_of w → v ≡ w
stage_tells From From is = refl
stage_tells From To is = absurd (false≢true (sym (ap is_from is)))
stage_tells To From is = absurd (false≢true (ap is_from is))
stage_tells To To is = refl

pub not_of_ports : (w : Way) → is_of_ports (stage_of w) ≡ false
not_of_ports From = refl
not_of_ports To = refl

pub not_of_balancing : (w : Way) → is_of_balancing (stage_of w) ≡ false
not_of_balancing From = refl
not_of_balancing To = refl

-- the only rule of a switch in the stage, which passes each packet on
only_rule : (w : Way) (balances unknown : Bool) → rules_at (stage_of w) (rules_where false balances unknown) ≡ passing (stage_of w) ∷ []
unfolding switch_acl_rules switch_l2_rules stage_place
only_rule From balances true = refl
only_rule From balances false = refl
only_rule To balances true = refl
only_rule To balances false = refl

module _ (net : Network) (switch : Switch) (way : Way) (packet : Values) (on : IsOn net switch packet) (none_tracked : IsUntracked net switch) where
  abbrev dp : ObjId
  dp = switch.id

  abbrev stage : Stage
  stage = stage_of way

  -- those that apply and hold
  abbrev holding : List Acl
  holding = filter (λ acl. holds (names net) packet acl.matching) (acls net dp way)

  in_holding : (acl : Acl) → Contains net.acls acl → applies net dp acl ≡ true → acl.way ≡ way → holds (names net) packet acl.matching ≡ true → Contains holding acl
  in_holding acl there applied of_way held =
      Contains-filter (λ (a : Acl). holds (names net) packet a.matching) (acls net dp way) acl
      (Contains-filter (λ (a : Acl). applies net dp a && same_way a.way way) net.acls acl there (and_from (applies net dp acl) (same_way acl.way way) applied (ap (λ w. same_way w way) of_way ∙ same_way-self way))) held

  -- the rule of the switch
  are : rules_at stage (switch_rules net dp) ≡ passing stage ∷ []
  are = ap (rules_at stage) (switch_rules-untracked net dp none_tracked) ∙ only_rule way (balances net dp) (has_unknown net dp)

  of_switch : (x : Row) → IsSwitchRule net dp stage x → x ≡ row_of (unit_of_datapath dp) (passing stage)
  of_switch x of =
      let at = among_rules_at stage (switch_rules net dp) of.says of.in_rules of.of_stage in
      of.is ∙ ap (row_of (unit_of_datapath dp)) (the_only (passing stage) of.says (subst (λ rs. Contains rs of.says) are at))

  of_no_port : (x : Row) → IsPortRule net dp stage x → ⊥
  of_no_port x of = false≢true (sym (not_of_ports way) ∙ sym (ap is_of_ports of.of_stage) ∙ port_rule_stage net of.port of.says of.in_rules)

  of_no_balancer : (x : Row) → IsVipRule net dp stage x → ⊥
  of_no_balancer x of = of_no_vip net dp stage x (not_of_balancing way) of

  -- the rule of an ACL
  abbrev rule_for : Acl → Rule
  rule_for acl = untracked_rule (acl_on_input net acl dp)

  abbrev row_for : Acl → Row
  row_for acl = row_of (unit_of dp acl.id) (rule_for acl)

  of_acl-row : (x : Row) (of : IsAclRule net dp stage x) → x ≡ row_for of.acl
  of_acl-row x of = of.is ∙ ap (row_of (unit_of dp of.acl.id)) (acl_rule-gives net dp none_tracked of.acl of.says of.in_rules)

  of_acl-way : (x : Row) (of : IsAclRule net dp stage x) → of.acl.way ≡ way
  of_acl-way x of = stage_tells of.acl.way way (sym (ap (λ (r : Rule). r.stage) (acl_rule-gives net dp none_tracked of.acl of.says of.in_rules)) ∙ of.of_stage)

  of_acl-held : (x : Row) (of : IsAclRule net dp stage x) → holds (names net) packet x.matching ≡ true → Contains holding of.acl
  of_acl-held x of takes = in_holding of.acl of.among of.applied (of_acl-way x of) (sym (ap (λ (r : Row). holds (names net) packet r.matching) (of_acl-row x of)) ∙ takes)

  -- where none holds, the packet goes on
  module _ (none : holding ≡ []) where
    passed_on : step (flows_at net dp) stage packet ≡ On (next_of way) packet
    passed_on =
        step_by net switch packet on stage (row_of (unit_of_datapath dp) (passing stage))
        (row_of_switch net switch (passing stage) on.among (from_rules_at stage (switch_rules net dp) (passing stage ∷ []) (passing stage) are (one_first (passing stage) [] (passing stage) refl)))
        refl refl refl (λ x of takes. inl (by x of takes))
        ∙ goes_to net way packet way
      where
        by : (x : Row) → IsRule net dp stage x → holds (names net) packet x.matching ≡ true → x.actions ≡ goes_on
        by x (inl of) takes = ap (λ (r : Row). r.actions) (of_switch x of)
        by x (inr (inl of)) takes = absurd (of_no_port x of)
        by x (inr (inr (inl of))) takes = absurd (one_of_none of.acl (subst (λ list. Contains list of.acl) none (of_acl-held x of takes)))
        by x (inr (inr (inr of))) takes = absurd (of_no_balancer x of)

  -- where one decides, its row is met
  module _ (f : Acl) (more : List Acl) (some : holding ≡ f ∷ more) where
    rising : Rises holding
    rising = rises_kept (λ acl. holds (names net) packet acl.matching) (acls net dp way) (rises_kept (λ (a : Acl). applies net dp a && same_way a.way way) net.acls (rises (λ (a : Acl). a.id) net.acls on.sound.numbered.order.acls))

    first : IsFirst (f ∷ more) (fold higher (Some f) more)
    first = first_of f more (subst Rises some rising)

    abbrev acl : Acl
    acl = first.acl

    held : Contains holding acl
    held = subst (λ list. Contains list acl) (sym some) first.among

    applying : Contains (acls net dp way) acl
    applying = Contains-from_filter (λ (a : Acl). holds (names net) packet a.matching) (acls net dp way) acl held

    there : Contains net.acls acl
    there = Contains-from_filter (λ (a : Acl). applies net dp a && same_way a.way way) net.acls acl applying

    passes : (applies net dp acl ≡ true) × (same_way acl.way way ≡ true)
    passes = and_parts (applies net dp acl) (same_way acl.way way) (filter_passes (λ (a : Acl). applies net dp a && same_way a.way way) net.acls acl applying)

    of_way : acl.way ≡ way
    of_way = same_way-is acl.way way passes.1

    in_range : is_priority acl.priority ≡ true
    in_range = each_passes (λ (a : Acl). is_priority a.priority) net.acls acl on.sound.readable.priorities there

    its_rule : Contains (acl_on_rules (acl_on_input net acl dp)) (rule_for acl)
    unfolding acl_on_rules
    its_rule = rw (in_range, none_tracked) (one_first (rule_for acl) [] (rule_for acl) refl)

    its_row : Contains (network_rows net) (row_for acl)
    its_row = row_of_acl net acl switch (rule_for acl) there (Contains-filter (λ (s : Switch). applies net s.id acl) net.switches switch on.among passes.0) its_rule

    its_stage : (row_for acl).stage ≡ stage
    its_stage = ap stage_of of_way

    takes_it : holds (names net) packet (row_for acl).matching ≡ true
    takes_it = filter_passes (λ (a : Acl). holds (names net) packet a.matching) (acls net dp way) acl held

    -- each other row that takes the packet is after it
    others : (x : Row) → IsRule net dp stage x → holds (names net) packet x.matching ≡ true → (x ≡ row_for acl) ⊎ (is_gt (row_cmp x (row_for acl)) ≡ true)
    others x (inl of) takes =
        inr (ap (λ (r : Row). is_gt (row_cmp r (row_for acl))) (of_switch x of) ∙ lower_after (row_of (unit_of_datapath dp) (passing stage)) (row_for acl) refl (sym its_stage) (omega arith))
    others x (inr (inl of)) takes = absurd (of_no_port x of)
    others x (inr (inr (inr of))) takes = absurd (of_no_balancer x of)
    others x (inr (inr (inl of))) takes = by (first.others of.acl (subst (λ list. Contains list of.acl) some (of_acl-held x of takes)))
      where
        stages : (row_for of.acl).stage ≡ (row_for acl).stage
        stages = ap stage_of (of_acl-way x of) ∙ sym its_stage

        by : IsAfter of.acl acl → (x ≡ row_for acl) ⊎ (is_gt (row_cmp x (row_for acl)) ≡ true)
        by (inl same) = inl (of_acl-row x of ∙ ap row_for same)
        by (inr (inl lower)) = inr (ap (λ (r : Row). is_gt (row_cmp r (row_for acl))) (of_acl-row x of) ∙ lower_after (row_for of.acl) (row_for acl) refl stages (omega (arith, lower)))
        by (inr (inr level)) =
            inr (ap (λ (r : Row). is_gt (row_cmp r (row_for acl))) (of_acl-row x of) ∙ later_after (row_for of.acl) (row_for acl) refl stages (ap (λ n. n + 1000) level.0) level.1)

    met : select dp stage (names net) packet (network_rows net) ≡ Some (row_for acl)
    met = first_of_takers (names net) dp stage packet (row_for acl) (network_rows net) (network_in_order net) its_row refl its_stage takes_it (λ x at in_it takes. others x (table-gives net on.sound switch on.among stage x at in_it) takes)

    decided_on : step (flows_at net dp) stage packet ≡ decided (decision_of acl.verdict) (next_of way) packet
    unfolding step
    decided_on = ap (acted (names net) stage packet) met ∙ does net way packet acl.verdict

  -- so the stage does what the ACLs decide
  pub decides : step (flows_at net dp) stage packet ≡ decided (decision net dp way packet) (next_of way) packet
  decides = by holding refl
    where
      by : (all : List Acl) → holding ≡ all → step (flows_at net dp) stage packet ≡ decided (decision net dp way packet) (next_of way) packet
      by [] none = passed_on none ∙ sym (ap (λ (list : List Acl). decided (decided_by (fold higher None list)) (next_of way) packet) none)
      by (f ∷ more) some =
          decided_on f more some
          ∙ sym (ap (λ (list : List Acl). decided (decided_by (fold higher None list)) (next_of way) packet) some
          ∙ ap (λ (found : Option Acl). decided (decided_by found) (next_of way) packet) (first f more some).is)

-- ---- the laws

pub decides_in : DecidesIn
decides_in net switch packet on none = decides net switch From packet on none

pub decides_out : DecidesOut
decides_out net switch packet on none = decides net switch To packet on none
