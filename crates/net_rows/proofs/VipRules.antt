-- The rules of VIPs: their matches are told by their texts, and those of two VIPs of one load balancer differ.
use Rattle.std.proofs.Common.{◌≡◌, ◌≢◌, ℕ, ◌^◌, ◌<◌, Bool, true, false, eqb, List, [], ◌∷◌, refl, sym, ap, ◌∙◌, ◌⊎◌, inl, inr, arith}
use Rattle.std.specs.Prelude.{Option, Some, None, if◌then◌else◌}
use Rattle.std.specs.List.{AllByRecursion, Contains}
use Rattle.std.proofs.lemmas.Bool.{and_from, eq-eqb, false≢true}
use Rattle.nv_base.specs.declared.field.Field.TheVariants.{Ip4Dst, TcpDst, UdpDst}
use Rattle.expr_check.specs.Printed.{IsPrintable}
use Rattle.expr_core.specs.Formula.{Formula}
use Rattle.expr_core.specs.declared.predicate.Pred.TheVariants.{CtNew}
use Rattle.expr_core.specs.declared.role.Role.TheVariants as role
use Rattle.expr_core.specs.declared.typed.TypedAtom.{TypedAtom}
use Rattle.act_core.specs.declared.action.Action.{Action}
use Rattle.nb_records.specs.declared.balancer.Proto.{Proto}
use Rattle.nb_records.specs.declared.balancer.Proto.TheVariants.{Tcp, Udp}
use Rattle.nb_model.specs.Applies.{is_empty}
use Rattle.nb_model.specs.Belongs.{same_frontend, same_port}
use Rattle.sb_model.specs.Make.{all_of, as_ip4, equals, in_decimal, is_predicate}
use Rattle.sb_model.specs.declared.stage.Stage.{Stage}
use Rattle.net_rows.specs.LoadBalancers.{is_to_port, opens, priority_of_vip, vip_switch_rule, vip_switch_rules}
use Rattle.net_rows.specs.Unit.{rule}
use Rattle.net_rows.specs.declared.inputs.VipInput.{VipInput}
use Rattle.net_rows.specs.declared.rule.Rule.{Rule}
use Rattle.net_rows.proofs.Differ.{HasPrintable, RulesDiffer, by_number, by_priority}
use Rattle.net_rows.proofs.Elements.{one_of, one_of_none}
use Rattle.net_rows.proofs.Operands.{IsOperand, is_new, joined_printable, to_address, to_tcp, to_udp}
use Rattle.net_rows.proofs.Pairs.{OfPairs}
use Rattle.net_rows.proofs.PortParts.{last_number, second_number}

-- ---- matches

-- the port of a VIP, where it has one
abbrev pub IsService : Option ℕ → Type 0
IsService None = Unit {0}
IsService (Some port) = port < 2 ^ 16

pub opens_printable : (input : VipInput) → input.at.addr.0 < 2 ^ 32 → IsService input.at.port → IsPrintable role.Row (opens input)
opens_printable input low service = by input.at.port service input.proto
  where
    to : IsOperand (equals Ip4Dst (as_ip4 input.at.addr.0))
    to = to_address input.at.addr.0 low

    by : (port : Option ℕ) → IsService port → (proto : Proto) → IsPrintable role.Row (all_of (is_predicate CtNew ∷ equals Ip4Dst (as_ip4 input.at.addr.0) ∷ is_to_port proto port))
    by None service proto = joined_printable _ _ [] (is_new, (to, tt))
    by (Some port) service Tcp = joined_printable _ _ (equals TcpDst (in_decimal port) ∷ []) (is_new, (to, (to_tcp port service, tt)))
    by (Some port) service Udp = joined_printable _ _ (equals UdpDst (in_decimal port) ∷ []) (is_new, (to, (to_udp port service, tt)))

-- ---- two VIPs of one load balancer

-- the rule of a VIP in a stage, whatever it does
abbrev pub rule_of_vip : Stage → List Action → VipInput → Rule
rule_of_vip stage actions input = rule stage (priority_of_vip input.at.port) (opens input) actions

-- its match, where its port is this one
abbrev opened : VipInput → Option ℕ → Formula TypedAtom
opened input port = all_of (is_predicate CtNew ∷ equals Ip4Dst (as_ip4 input.at.addr.0) ∷ is_to_port input.proto port)

module _ (stage : Stage) (first second : List Action) (a b : VipInput) where
  abbrev AreOther : Type 0
  AreOther = RulesDiffer (rule_of_vip stage first a) (rule_of_vip stage second b)

  -- at two addresses, or at two ports, or one without a port
  pub vips_differ : IsPrintable role.Row (opens a) → IsPrintable role.Row (opens b) → same_frontend a.at b.at ≡ false → AreOther
  vips_differ can_a can_b other = by (eqb a.at.addr.0 b.at.addr.0) refl
    where
      -- at one address the ports are not the same
      unlike : eqb a.at.addr.0 b.at.addr.0 ≡ true → (p q : Option ℕ) → a.at.port ≡ p → b.at.port ≡ q → same_port p q ≡ true → ⊥
      unlike addrs p q is_p is_q is =
          false≢true
          (sym other
          ∙ and_from (eqb a.at.addr.0 b.at.addr.0) (same_port a.at.port b.at.port) addrs (ap (λ (port : Option ℕ). same_port port b.at.port) is_p ∙ ap (λ (port : Option ℕ). same_port p port) is_q ∙ is))

      two_ports : eqb a.at.addr.0 b.at.addr.0 ≡ true → (p q : ℕ) → a.at.port ≡ Some p → b.at.port ≡ Some q → AreOther
      two_ports addrs p q is_p is_q =
          by_number last_number _ _ can_a can_b
          (λ same.
          let at_p : last_number (opened a a.at.port) ≡ p = ap (λ (port : Option ℕ). last_number (opened a port)) is_p in
          let at_q : last_number (opened b b.at.port) ≡ q = ap (λ (port : Option ℕ). last_number (opened b port)) is_q in
          unlike addrs (Some p) (Some q) is_p is_q (eq-eqb p q (sym at_p ∙ same ∙ at_q)))

      first_comes : (m n : ℕ) → m ≡ 110 → n ≡ 120 → m ≢ n
      first_comes m n is_m is_n e = absurd (omega (arith, is_m, is_n, e))

      ports : eqb a.at.addr.0 b.at.addr.0 ≡ true → (p q : Option ℕ) → a.at.port ≡ p → b.at.port ≡ q → AreOther
      ports addrs None None is_p is_q = absurd (unlike addrs None None is_p is_q refl)
      ports addrs None (Some q) is_p is_q = by_priority _ _ (first_comes _ _ (ap priority_of_vip is_p) (ap priority_of_vip is_q))
      ports addrs (Some p) None is_p is_q = by_priority _ _ (λ same. first_comes _ _ (ap priority_of_vip is_q) (ap priority_of_vip is_p) (sym same))
      ports addrs (Some p) (Some q) is_p is_q = two_ports addrs p q is_p is_q

      by : (same : Bool) → eqb a.at.addr.0 b.at.addr.0 ≡ same → AreOther
      by false addrs = by_number second_number _ _ can_a can_b (λ is. false≢true (sym addrs ∙ eq-eqb _ _ is))
      by true addrs = ports addrs a.at.port b.at.port refl refl

-- ---- at a switch

module _ (input : VipInput) where
  -- a rule of a VIP is that one
  pub vip_switch_only : (says : Rule) → Contains (vip_switch_rules input) says → vip_switch_rule input ≡ says
  unfolding vip_switch_rules
  vip_switch_only says there = by (is_empty input.backends) there
    where
      first : (vip_switch_rule input ≡ says) ⊎ Contains [] says → vip_switch_rule input ≡ says
      first (inl is) = is
      first (inr none) = absurd (one_of_none says none)

      by : (b : Bool) → Contains (if b then [] else vip_switch_rule input ∷ []) says → vip_switch_rule input ≡ says
      by true none = absurd (one_of_none says none)
      by false at = first (one_of (vip_switch_rule input) [] says at)

  pub vip_switch_apart : OfPairs RulesDiffer (vip_switch_rules input)
  unfolding vip_switch_rules
  vip_switch_apart = by (is_empty input.backends)
    where
      by : (b : Bool) → OfPairs RulesDiffer (if b then [] else vip_switch_rule input ∷ [])
      by true = tt
      by false = (tt, tt)

  pub vip_switch_printable : input.at.addr.0 < 2 ^ 32 → IsService input.at.port → AllByRecursion HasPrintable (vip_switch_rules input)
  unfolding vip_switch_rules
  vip_switch_printable low service = by (is_empty input.backends)
    where
      by : (b : Bool) → AllByRecursion HasPrintable (if b then [] else vip_switch_rule input ∷ [])
      by true = tt
      by false = (opens_printable input low service, tt)
