-- Parts of the rules of ACLs, as the functions make them.
use Rattle.std.specs.Prelude.{ℕ, Bool, true, false, List, [], ◌∷◌, ◌++◌}
use Rattle.nv_base.specs.declared.field.Field.{Field}
use Rattle.nv_base.specs.declared.field.Field.TheVariants.{Reg0}
use Rattle.expr_core.specs.Formula.Formula.{Not}
use Rattle.expr_core.specs.declared.predicate.Pred.TheVariants.{EthMcast, Ip4, CtEst}
use Rattle.act_core.specs.declared.action.Action.{Action}
use Rattle.act_core.specs.declared.action.Action.TheVariants as action
use Rattle.act_core.specs.declared.step.Step.TheVariants as step
use Rattle.nb_records.specs.declared.acl.Verdict.{Verdict}
use Rattle.sb_model.specs.Make.{takes_each, is_predicate, is_port, bit_is_set, all_of, steps, goes_on, drops}
use Rattle.sb_model.specs.declared.stage.Stage.{Stage}
use Rattle.sb_model.specs.declared.stage.Stage.TheVariants.{LsInPreAcl, LsInPreStateful, LsInAclEval, LsInStateful, LsOutPreAcl, LsOutPreStateful, LsOutAclEval, LsOutStateful}
use Rattle.net_rows.specs.Acls.{stage_of, passes, ending, asks_to_track, tracking, is_shut_out, is_reply}
use Rattle.net_rows.specs.Unit.{rule}
use Rattle.net_rows.specs.declared.inputs.AclOnInput.{AclOnInput}
use Rattle.net_rows.specs.declared.rule.Rule.{Rule}

-- a rule of ingress, and the same rule in a stage of egress
abbrev pub both : Rule → Stage → List Rule
both r egress = r ∷ rule egress r.priority r.matching r.actions ∷ []

-- a rule that takes each packet, after all others of its stage
abbrev pub default_rule : Stage → List Action → Rule
default_rule stage actions = rule stage 0 takes_each actions

-- the default rules of the stages of ACLs
abbrev pub default_rules : Bool → List Rule
default_rules tracks =
    both (default_rule LsInPreAcl goes_on) LsOutPreAcl
    ++ both (default_rule LsInPreStateful goes_on) LsOutPreStateful
    ++ both (default_rule LsInAclEval (passes tracks)) LsOutAclEval
    ++ both (default_rule LsInStateful goes_on) LsOutStateful

-- the rules by which packets are tracked
abbrev pub rule_for_many : Rule
rule_for_many = rule LsInPreAcl 110 (is_predicate EthMcast) goes_on

abbrev pub asking_rule : Rule
asking_rule = rule LsInPreAcl 100 (is_predicate Ip4) (steps (asks_to_track ∷ step.Next ∷ []))

abbrev pub tracking_rule : Bool → Rule
tracking_rule balances = rule LsInPreStateful 100 (bit_is_set Reg0 0) (tracking balances)

abbrev pub rules_to_track : Bool → List Rule
rules_to_track balances = both rule_for_many LsOutPreAcl ++ both asking_rule LsOutPreAcl ++ both (tracking_rule balances) LsOutPreStateful

-- the rules by what is known of a packet's connection
abbrev pub rule_for_shut_out : Rule
rule_for_shut_out = rule LsInAclEval 65532 is_shut_out drops

abbrev pub rule_for_replies : Rule
rule_for_replies = rule LsInAclEval 65531 is_reply goes_on

abbrev pub rules_for_replies : List Rule
rules_for_replies = both rule_for_replies LsOutAclEval

abbrev pub keeping_rule : Rule
keeping_rule = rule LsInStateful 100 (bit_is_set Reg0 1) (steps (step.CtCommit false ∷ step.Next ∷ []))

abbrev pub rules_of_connections : List Rule
rules_of_connections = both rule_for_shut_out LsOutAclEval ++ rules_for_replies ++ both keeping_rule LsOutStateful

-- a rule of a port whose packets are not tracked
abbrev pub untracked_rule : Stage → Field → List ℕ → Rule
untracked_rule stage port name = rule stage 110 (is_port port name) goes_on

-- the connection is blocked, and then the packet meets its end
abbrev pub blocks : Verdict → List Action
blocks verdict = action.Step (step.CtCommit true) ∷ ending verdict

-- the rules of an ACL that refuses packets, where the switch tracks: for established packets, and for others
abbrev pub blocking_rule : ℕ → AclOnInput → Rule
blocking_rule priority acl = rule (stage_of acl.way) priority (all_of (is_predicate CtEst ∷ acl.matching ∷ [])) (blocks acl.verdict)

abbrev pub refusing_rule : ℕ → AclOnInput → Rule
refusing_rule priority acl = rule (stage_of acl.way) priority (all_of (Not (is_predicate CtEst) ∷ acl.matching ∷ [])) (ending acl.verdict)
