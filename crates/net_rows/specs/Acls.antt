-- The rows of ACLs (ovn-northd(8), 'from-lport ACLs' and 'to-lport ACLs'; stages, registers and priorities are not from OVN).
use Rattle.std.specs.Prelude.{ℕ, ◌+◌, Bool, true, false, if◌then◌else◌, List, [], ◌∷◌, ◌++◌}
use Rattle.nv_base.specs.declared.field.Field.TheVariants.{CtMarkBlocked, Inport, Outport, Reg0}
use Rattle.expr_core.specs.Formula.{Formula}
use Rattle.expr_core.specs.Formula.Formula.{Leaf, Not}
use Rattle.expr_core.specs.declared.part.Bits.TheVariants.{Whole, Bit}
use Rattle.expr_core.specs.declared.predicate.Pred.TheVariants.{EthMcast, Ip4, CtEst, CtRel, CtRpl, CtInv}
use Rattle.expr_core.specs.declared.typed.TypedAtom.{TypedAtom}
use Rattle.expr_core.specs.declared.typed.TypedAtom.TheVariants.{Bare}
use Rattle.act_core.specs.declared.action.Action.{Action}
use Rattle.act_core.specs.declared.action.Action.TheVariants as action
use Rattle.act_core.specs.declared.step.Step.{Step}
use Rattle.act_core.specs.declared.step.Step.TheVariants as step
use Rattle.nb_records.specs.declared.acl.Verdict.{Verdict}
use Rattle.nb_records.specs.declared.acl.Verdict.TheVariants.{Allow, AllowRelated, AllowStateless, Drop, Reject}
use Rattle.nb_records.specs.declared.acl.Way.{Way}
use Rattle.nb_records.specs.declared.acl.Way.TheVariants.{From, To}
use Rattle.nb_model.specs.Readable.{is_priority}
use Rattle.sb_model.specs.Make.{takes_each, is_predicate, is_port, in_decimal, bit_is_set, all_of, one_of, steps, goes_on, drops, turns_back}
use Rattle.sb_model.specs.declared.stage.Stage.{Stage}
use Rattle.sb_model.specs.declared.stage.Stage.TheVariants.{LsInPreAcl, LsInPreStateful, LsInAclEval, LsInStateful, LsOutPreAcl, LsOutPreStateful, LsOutAclEval, LsOutStateful}
use Rattle.net_rows.specs.Unit.{rule}
use Rattle.net_rows.specs.declared.inputs.AclOnInput.{AclOnInput}
use Rattle.net_rows.specs.declared.inputs.PortAclInput.{PortAclInput}
use Rattle.net_rows.specs.declared.inputs.SwitchAclInput.{SwitchAclInput}
use Rattle.net_rows.specs.declared.rule.Rule.{Rule}
use Rattle.sb_model.specs.Stage.{last_table}
use Rattle.sb_model.specs.declared.stage.DatapathKind.TheVariants.{Switch}

-- `reg0[0] = 1`: the packet is to be tracked; `reg0[1] = 1`: its connection is to be kept
abbrev pub asks_to_track : Step
asks_to_track = step.Set Reg0 (Bit 0) (in_decimal 1)

abbrev pub asks_to_keep : Step
asks_to_keep = step.Set Reg0 (Bit 1) (in_decimal 1)

-- the packet goes on, and its connection is to be kept where the switch tracks
abbrev pub passes : Bool → List Action
passes tracks = if tracks then steps (asks_to_keep ∷ step.Next ∷ []) else goes_on

-- ---- the rules of each switch

-- a rule in the stage of either direction
abbrev pub in_both : Stage → Stage → ℕ → Formula TypedAtom → List Action → List Rule
in_both ingress egress priority matching actions = rule ingress priority matching actions ∷ rule egress priority matching actions ∷ []

-- an invalid packet, or one of a blocked connection that is no new request
abbrev pub is_shut_out : Formula TypedAtom
is_shut_out =
    one_of (is_predicate CtInv ∷ all_of (one_of (is_predicate CtRpl ∷ is_predicate CtRel ∷ []) ∷ Leaf (Bare CtMarkBlocked Whole) ∷ []) ∷ [])

-- a reply, or what is related to a connection
abbrev pub is_reply : Formula TypedAtom
is_reply = one_of (is_predicate CtRpl ∷ is_predicate CtRel ∷ [])

-- the packet is tracked, and translated where load balancers are attached
abbrev pub tracking : Bool → List Action
tracking balances = steps ((if balances then step.CtLb else step.CtNext) ∷ [])

-- the rules of a switch that tracks
abbrev pub tracking_rules : Bool → List Rule
tracking_rules balances =
    in_both LsInPreAcl LsOutPreAcl 110 (is_predicate EthMcast) goes_on
    ++ in_both LsInPreAcl LsOutPreAcl 100 (is_predicate Ip4) (steps (asks_to_track ∷ step.Next ∷ []))
    ++ in_both LsInPreStateful LsOutPreStateful 100 (bit_is_set Reg0 0) (tracking balances)
    ++ in_both LsInAclEval LsOutAclEval 65532 is_shut_out drops
    ++ in_both LsInAclEval LsOutAclEval 65531 is_reply goes_on
    ++ in_both LsInStateful LsOutStateful 100 (bit_is_set Reg0 1) (steps (step.CtCommit false ∷ step.Next ∷ []))

-- the rules of a switch
unfoldable pub switch_acl_rules : SwitchAclInput → List Rule
switch_acl_rules input =
    in_both LsInPreAcl LsOutPreAcl 0 takes_each goes_on
    ++ in_both LsInPreStateful LsOutPreStateful 0 takes_each goes_on
    ++ in_both LsInAclEval LsOutAclEval 0 takes_each (passes input.tracks)
    ++ in_both LsInStateful LsOutStateful 0 takes_each goes_on
    ++ (if input.tracks then tracking_rules input.balances else [])

-- ---- the rules of a port that leads to a router, on a switch that tracks

-- what comes in by it and what goes out by it is not tracked
unfoldable pub port_acl_rules : PortAclInput → List Rule
port_acl_rules input = rule LsInPreAcl 110 (is_port Inport input.name) goes_on ∷ rule LsOutPreAcl 110 (is_port Outport input.name) goes_on ∷ []

-- ---- the rules of an ACL on a switch

-- the stages of a direction
abbrev pub first_stage_of : Way → Stage
first_stage_of From = LsInPreAcl
first_stage_of To = LsOutPreAcl

abbrev pub stage_of : Way → Stage
stage_of From = LsInAclEval
stage_of To = LsOutAclEval

-- the packet is rejected: what answers it goes back by the port that it came in by
abbrev pub rejects : Action
rejects = action.Reject (turns_back ++ step.Jump true (last_table Switch) ∷ [])

-- what becomes of the packet
abbrev pub ending : Verdict → List Action
ending Reject = rejects ∷ []
ending Drop = drops
ending _ = goes_on

-- the rules of an ACL in its stage, on a switch that tracks
abbrev pub refusing_rules : Stage → ℕ → Formula TypedAtom → Verdict → List Rule
refusing_rules stage priority matching verdict =
    rule stage priority (all_of (is_predicate CtEst ∷ matching ∷ [])) (action.Step (step.CtCommit true) ∷ ending verdict)
    ∷ rule stage priority (all_of (Not (is_predicate CtEst) ∷ matching ∷ [])) (ending verdict)
    ∷ []

abbrev pub tracked_rules : Stage → ℕ → Formula TypedAtom → Verdict → List Rule
tracked_rules stage priority matching Allow = rule stage priority matching (passes true) ∷ []
tracked_rules stage priority matching AllowRelated = rule stage priority matching (passes true) ∷ []
tracked_rules stage priority matching AllowStateless = rule stage priority matching goes_on ∷ []
tracked_rules stage priority matching Drop = refusing_rules stage priority matching Drop
tracked_rules stage priority matching Reject = refusing_rules stage priority matching Reject

-- what an `allow-stateless` ACL takes is not tracked
abbrev pub untracking_rules : Way → ℕ → Formula TypedAtom → Verdict → List Rule
untracking_rules way priority matching AllowStateless = rule (first_stage_of way) priority matching goes_on ∷ []
untracking_rules way priority matching _ = []

-- the rules of an ACL, at a priority of rows
abbrev pub acl_rules_at : ℕ → AclOnInput → List Rule
acl_rules_at priority input =
    if input.tracks then untracking_rules input.way priority input.matching input.verdict ++ tracked_rules (stage_of input.way) priority input.matching input.verdict
    else rule (stage_of input.way) priority input.matching (ending input.verdict) ∷ []

-- the rules of an ACL on a switch; none has a greater priority than 32,767
unfoldable pub acl_on_rules : AclOnInput → List Rule
acl_on_rules input = if is_priority input.priority then acl_rules_at (input.priority + 1000) input else []
