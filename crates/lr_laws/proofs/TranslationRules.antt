-- What the rules are by which a router translates: those of a NAT rule, of a VIP and of an address of VIPs, and in which stages they are.
use Rattle.std.proofs.Common.{◌≡◌, Bool, true, false, cond, List, [], ◌∷◌, refl, sym, ap, ◌∙◌}
use Rattle.std.specs.Prelude.{◌+◌, not}
use Rattle.std.specs.List.{Contains}
use Rattle.std.proofs.lemmas.Bool.{false≢true}
use Rattle.nv_base.specs.declared.field.Field.TheVariants.{Ip4Src, Ip4Dst}
use Rattle.nv_base.specs.declared.object.ObjId.{ObjId}
use Rattle.expr_core.specs.Formula.Formula.{Not}
use Rattle.expr_core.specs.declared.predicate.Pred.TheVariants.{CtNew, CtRpl}
use Rattle.act_core.specs.declared.step.Step.TheVariants as act
use Rattle.nb_records.specs.declared.balancer.Backend.{Backend}
use Rattle.nb_records.specs.declared.router.NatKind.{NatKind}
use Rattle.nb_records.specs.declared.router.NatKind.TheVariants as kind
use Rattle.nb_model.specs.Applies.{is_empty}
use Rattle.nb_model.specs.Belongs.{is_snat}
use Rattle.nb_model.specs.Network.{Network}
use Rattle.sb_model.specs.Make.{all_of, as_ip4, equals, is_predicate, steps}
use Rattle.sb_model.specs.declared.row.Row.{Row}
use Rattle.sb_model.specs.declared.stage.Stage.{Stage}
use Rattle.sb_model.specs.declared.stage.Stage.TheVariants.{LrInIpInput, LrInUnsnat, LrInDnat, LrOutSnat}
use Rattle.net_router.specs.Translation.{changes_source}
use Rattle.net_rows.specs.Build.{vip_input}
use Rattle.net_rows.specs.Unit.{rule}
use Rattle.net_rows.specs.declared.inputs.VipInput.{VipInput}
use Rattle.net_rows.specs.declared.rule.Rule.{Rule}
use Rattle.net_rows.proofs.Elements.{one_first, one_later}
use Rattle.lr_rows.specs.Balancers.{balancing_rule, vip_addr_rules, vip_router_rules}
use Rattle.lr_rows.specs.Make.{arp_rule_for, is_within}
use Rattle.lr_rows.specs.Nat.{nat_rules, translating_rules}
use Rattle.lr_rows.specs.declared.inputs.NatRuleInput.{NatRuleInput}
use Rattle.lr_rows.specs.declared.inputs.VipAddrInput.{VipAddrInput}
use Rattle.lr_units.specs.Units.{nat_rule_input, vip_addr_input}
use Rattle.lr_laws.proofs.Members.{of_first, of_none}
use Rattle.lr_laws.proofs.Tables.{Translates}
use Rattle.lr_laws.proofs.Tables.Translates.{OfNat, OfVip, OfVipAddr}

-- ---- the rules of a NAT rule

-- what comes to the external address gets its destination back
abbrev pub back_rule : NatRuleInput → Rule
back_rule input = rule LrInUnsnat 90 (equals Ip4Dst (as_ip4 input.external.0)) (steps (act.CtSnat ∷ []))

-- what leaves from the logical network comes from the external address
abbrev pub hiding_rule : NatRuleInput → Rule
hiding_rule input = rule LrOutSnat (input.logical.len + 1) (all_of (Not (is_predicate CtRpl) ∷ is_within Ip4Src input.logical ∷ [])) (steps (act.CtSnatTo input.external ∷ []))

-- what begins a connection to the external address goes to the logical one
abbrev pub redirecting_rule : NatRuleInput → Rule
redirecting_rule input = rule LrInDnat 100 (all_of (is_predicate CtNew ∷ equals Ip4Dst (as_ip4 input.external.0) ∷ [])) (steps (act.CtDnatTo input.logical.base ∷ []))

pub data IsNatSays (input : NatRuleInput) (says : Rule) : Type 0 where
  Answers : says ≡ arp_rule_for input.external → IsNatSays input says
  GivesBack : changes_source input.kind ≡ true → says ≡ back_rule input → IsNatSays input says
  Hides : changes_source input.kind ≡ true → says ≡ hiding_rule input → IsNatSays input says
  Redirects : not (is_snat input.kind) ≡ true → says ≡ redirecting_rule input → IsNatSays input says

pub nat_rule-gives : (input : NatRuleInput) (says : Rule) → Contains (nat_rules input) says → IsNatSays input says
unfolding nat_rules
nat_rule-gives input says there = of_first (arp_rule_for input.external) (translating_rules input.kind input) says Answers (by input.kind refl) there
  where
    by : (of_kind : NatKind) → input.kind ≡ of_kind → Contains (translating_rules of_kind input) says → IsNatSays input says
    by kind.Snat is at =
        of_first (back_rule input) (hiding_rule input ∷ []) says (GivesBack (ap changes_source is)) (of_first (hiding_rule input) [] says (Hides (ap changes_source is)) (of_none says)) at
    by kind.Dnat is at = of_first (redirecting_rule input) [] says (Redirects (ap (λ k. not (is_snat k)) is)) (of_none says) at
    by kind.DnatAndSnat is at =
        of_first (back_rule input) (hiding_rule input ∷ redirecting_rule input ∷ []) says (GivesBack (ap changes_source is))
        (of_first (hiding_rule input) (redirecting_rule input ∷ []) says (Hides (ap changes_source is)) (of_first (redirecting_rule input) [] says (Redirects (ap (λ k. not (is_snat k)) is)) (of_none says))) at

-- each of them is there
module _ (input : NatRuleInput) where
  pub answering-from : Contains (nat_rules input) (arp_rule_for input.external)
  unfolding nat_rules
  answering-from = one_first (arp_rule_for input.external) (translating_rules input.kind input) (arp_rule_for input.external) refl

  one_of_these : (says : Rule) → Contains (translating_rules input.kind input) says → Contains (nat_rules input) says
  unfolding nat_rules
  one_of_these says there = one_later (arp_rule_for input.external) (translating_rules input.kind input) says there

  back : (of_kind : NatKind) → changes_source of_kind ≡ true → Contains (translating_rules of_kind input) (back_rule input)
  back kind.Snat changes = one_first (back_rule input) (hiding_rule input ∷ []) (back_rule input) refl
  back kind.Dnat changes = absurd (false≢true changes)
  back kind.DnatAndSnat changes = one_first (back_rule input) (hiding_rule input ∷ redirecting_rule input ∷ []) (back_rule input) refl

  pub back-from : changes_source input.kind ≡ true → Contains (nat_rules input) (back_rule input)
  back-from changes = one_of_these (back_rule input) (back input.kind changes)

  hides : (of_kind : NatKind) → changes_source of_kind ≡ true → Contains (translating_rules of_kind input) (hiding_rule input)
  hides kind.Snat changes = one_later (back_rule input) (hiding_rule input ∷ []) (hiding_rule input) (one_first (hiding_rule input) [] (hiding_rule input) refl)
  hides kind.Dnat changes = absurd (false≢true changes)
  hides kind.DnatAndSnat changes =
      one_later (back_rule input) (hiding_rule input ∷ redirecting_rule input ∷ []) (hiding_rule input) (one_first (hiding_rule input) (redirecting_rule input ∷ []) (hiding_rule input) refl)

  pub hiding-from : changes_source input.kind ≡ true → Contains (nat_rules input) (hiding_rule input)
  hiding-from changes = one_of_these (hiding_rule input) (hides input.kind changes)

  redirects : (of_kind : NatKind) → not (is_snat of_kind) ≡ true → Contains (translating_rules of_kind input) (redirecting_rule input)
  redirects kind.Snat changes = absurd (false≢true changes)
  redirects kind.Dnat changes = one_first (redirecting_rule input) [] (redirecting_rule input) refl
  redirects kind.DnatAndSnat changes =
      one_later (back_rule input) (hiding_rule input ∷ redirecting_rule input ∷ []) (redirecting_rule input)
      (one_later (hiding_rule input) (redirecting_rule input ∷ []) (redirecting_rule input) (one_first (redirecting_rule input) [] (redirecting_rule input) refl))

  pub redirecting-from : not (is_snat input.kind) ≡ true → Contains (nat_rules input) (redirecting_rule input)
  redirecting-from changes = one_of_these (redirecting_rule input) (redirects input.kind changes)

-- ---- the rules of load balancers

-- the rule of a VIP that has backends
pub record IsVipSays (input : VipInput) (says : Rule) : Type 0 where
  pub some : is_empty input.backends ≡ false
  pub is : says ≡ balancing_rule input

pub vip_rule-gives : (input : VipInput) (says : Rule) → Contains (vip_router_rules input) says → IsVipSays input says
unfolding vip_router_rules
vip_rule-gives input says there = by input.backends refl there
  where
    by : (backends : List Backend) → input.backends ≡ backends → Contains (cond (is_empty backends) [] (balancing_rule input ∷ [])) says → IsVipSays input says
    by [] is at = of_none says at
    by (backend ∷ others) is at = of_first (balancing_rule input) [] says (λ same. record { some = ap is_empty is; is = same }) (of_none says) at

pub vip_rule-from : (input : VipInput) → is_empty input.backends ≡ false → Contains (vip_router_rules input) (balancing_rule input)
unfolding vip_router_rules
vip_rule-from input some = rw some (one_first (balancing_rule input) [] (balancing_rule input) refl)

pub vip_addr_rule-gives : (input : VipAddrInput) (says : Rule) → Contains (vip_addr_rules input) says → says ≡ arp_rule_for input.addr
unfolding vip_addr_rules
vip_addr_rule-gives input says there = of_first (arp_rule_for input.addr) [] says (λ same. same) (of_none says) there

pub vip_addr_rule-from : (input : VipAddrInput) → Contains (vip_addr_rules input) (arp_rule_for input.addr)
unfolding vip_addr_rules
vip_addr_rule-from input = one_first (arp_rule_for input.addr) [] (arp_rule_for input.addr) refl

-- ---- the stages

abbrev pub is_of_translation : Stage → Bool
is_of_translation LrInIpInput = true
is_of_translation LrInUnsnat = true
is_of_translation LrInDnat = true
is_of_translation LrOutSnat = true
is_of_translation _ = false

said_by_nat : (input : NatRuleInput) (says : Rule) → IsNatSays input says → is_of_translation says.stage ≡ true
said_by_nat input says (Answers is) = ap (λ (r : Rule). is_of_translation r.stage) is
said_by_nat input says (GivesBack changes is) = ap (λ (r : Rule). is_of_translation r.stage) is
said_by_nat input says (Hides changes is) = ap (λ (r : Rule). is_of_translation r.stage) is
said_by_nat input says (Redirects changes is) = ap (λ (r : Rule). is_of_translation r.stage) is

pub translation_stage : (net : Network) (dp : ObjId) (stage : Stage) (row : Row) → Translates net dp stage row → is_of_translation stage ≡ true
translation_stage net dp stage row (OfNat of) = ap is_of_translation (sym of.of_stage) ∙ said_by_nat (nat_rule_input of.nat) of.says (nat_rule-gives (nat_rule_input of.nat) of.says of.in_rules)
translation_stage net dp stage row (OfVip of) =
    ap is_of_translation (sym of.of_stage) ∙ ap (λ (r : Rule). is_of_translation r.stage) (vip_rule-gives (vip_input of.lb of.vip) of.says of.in_rules).is
translation_stage net dp stage row (OfVipAddr of) =
    ap is_of_translation (sym of.of_stage) ∙ ap (λ (r : Rule). is_of_translation r.stage) (vip_addr_rule-gives (vip_addr_input of.addr) of.says of.in_rules)
