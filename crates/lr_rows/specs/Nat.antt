-- The rows of network address translation (ovn-northd(8), 'UNSNAT', 'DEFRAG', 'DNAT', 'UNDNAT' and 'SNAT'; stages and priorities are not
-- from OVN).
use Rattle.std.specs.Prelude.{◌+◌, Bool, if◌then◌else◌, List, [], ◌∷◌, ◌++◌}
use Rattle.nv_base.specs.declared.field.Field.TheVariants.{Ip4Src, Ip4Dst}
use Rattle.expr_core.specs.Formula.Formula.{Not}
use Rattle.expr_core.specs.declared.predicate.Pred.TheVariants.{Ip4, CtNew, CtRpl}
use Rattle.act_core.specs.declared.step.Step.TheVariants as step
use Rattle.nb_records.specs.declared.router.NatKind.TheVariants.{Snat, Dnat, DnatAndSnat}
use Rattle.sb_model.specs.Make.{takes_each, is_predicate, equals, as_ip4, all_of, steps, goes_on}
use Rattle.sb_model.specs.declared.stage.Stage.TheVariants.{LrInUnsnat, LrInDefrag, LrInDnat, LrOutUndnat, LrOutSnat}
use Rattle.net_rows.specs.Unit.{rule}
use Rattle.net_rows.specs.declared.rule.Rule.{Rule}
use Rattle.nb_records.specs.declared.router.NatKind.{NatKind}
use Rattle.lr_rows.specs.Make.{is_within, arp_rule_for}
use Rattle.lr_rows.specs.declared.inputs.NatRuleInput.{NatRuleInput}
use Rattle.lr_rows.specs.declared.inputs.RouterNatInput.{RouterNatInput}

-- ---- the rules of each router

-- what no rule takes goes on
abbrev pub passing_rules : List Rule
passing_rules =
    rule LrInUnsnat 0 takes_each goes_on
    ∷ rule LrInDefrag 0 takes_each goes_on
    ∷ rule LrInDnat 0 takes_each goes_on
    ∷ rule LrOutUndnat 0 takes_each goes_on
    ∷ rule LrOutSnat 0 takes_each goes_on
    ∷ []

-- where destinations are changed, connections are looked up on both ways
abbrev pub connection_rules : Bool → List Rule
connection_rules dnats =
    if dnats then
    rule LrInDefrag 100 (is_predicate Ip4) (steps (step.CtDnat ∷ []))
    ∷ rule LrOutUndnat 100 (is_predicate Ip4) (steps (step.CtDnat ∷ []))
    ∷ []
    else []

unfoldable pub router_nat_rules : RouterNatInput → List Rule
router_nat_rules input = passing_rules ++ connection_rules input.dnats

-- ---- the rules of a NAT rule

-- the source of what leaves becomes the external address, and back; the longest logical prefix decides
abbrev pub source_rules : NatRuleInput → List Rule
source_rules input =
    rule LrInUnsnat 90 (equals Ip4Dst (as_ip4 input.external.0)) (steps (step.CtSnat ∷ []))
    ∷ rule LrOutSnat (input.logical.len + 1) (all_of (Not (is_predicate CtRpl) ∷ is_within Ip4Src input.logical ∷ [])) (steps (step.CtSnatTo input.external ∷ []))
    ∷ []

-- the destination of a new connection to the external address becomes the logical one
abbrev pub destination_rules : NatRuleInput → List Rule
destination_rules input =
    rule LrInDnat 100 (all_of (is_predicate CtNew ∷ equals Ip4Dst (as_ip4 input.external.0) ∷ [])) (steps (step.CtDnatTo input.logical.base ∷ [])) ∷ []

-- by the type of the rule
abbrev pub translating_rules : NatKind → NatRuleInput → List Rule
translating_rules Snat input = source_rules input
translating_rules Dnat input = destination_rules input
translating_rules DnatAndSnat input = source_rules input ++ destination_rules input

unfoldable pub nat_rules : NatRuleInput → List Rule
nat_rules input = arp_rule_for input.external ∷ translating_rules input.kind input
