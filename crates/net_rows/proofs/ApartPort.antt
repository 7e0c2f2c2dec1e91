-- No two rules of a port of a sound network agree in stage, priority and match.
use Rattle.std.proofs.Common.{◌≡◌, ℕ, Bool, true, false, List, [], ◌++◌, eqb, ap, refl, ◌∙◌, ◌⊎◌, inl, inr}
use Rattle.std.specs.Prelude.{if◌then◌else◌}
use Rattle.std.specs.Bool.{IsTrue}
use Rattle.std.specs.List.{AllByRecursion, Contains}
use Rattle.std.proofs.lemmas.List.Elements.{Contains-append_cases}
use Rattle.nv_base.specs.Name.{is_object_name}
use Rattle.nb_records.specs.declared.switch.Port.{Port}
use Rattle.nb_model.specs.Network.{Network}
use Rattle.nb_model.specs.Sound.{IsSound}
use Rattle.sb_model.specs.declared.stage.Stage.{Stage}
use Rattle.sb_model.specs.declared.stage.Stage.TheVariants.{LsInPreAcl}
use Rattle.net_rows.specs.Acls.{port_acl_rules}
use Rattle.net_rows.specs.Build.{acl_rules_of_port, is_untracked, port_acl_input, port_l2_input, port_rules, port_sec_input}
use Rattle.net_rows.specs.Lookup.{port_l2_rules}
use Rattle.net_rows.specs.PortSecurity.{port_sec_rules}
use Rattle.net_rows.specs.declared.inputs.PortAclInput.{PortAclInput}
use Rattle.net_rows.specs.declared.rule.Rule.{Rule}
use Rattle.net_rows.proofs.ApartGuards.{port_sec_apart, port_sec_stages}
use Rattle.net_rows.proofs.ApartLookup.{port_l2_apart, port_l2_stages}
use Rattle.net_rows.proofs.Differ.{HasPrintable, RulesDiffer, by_stage}
use Rattle.net_rows.proofs.Elements.{every_append}
use Rattle.net_rows.proofs.Operands.{from_port, leaf_printable, to_port}
use Rattle.net_rows.proofs.Pairs.{Across, OfPairs, every_member, pairs_append}
use Rattle.net_rows.proofs.PortMatches.{IsL2Input, IsSecInput, port_l2_printable, port_sec_printable}
use Rattle.net_rows.proofs.PortParts.{IsLater, IsOfAcls, IsOfSecurity, part}
use Rattle.net_rows.proofs.SoundObjects.{peer_mac_of_sound, port_is_sound}

-- ---- the rules of a port that leads to a router

port_acl_printable : (input : PortAclInput) → IsTrue (is_object_name input.name) → AllByRecursion HasPrintable (port_acl_rules input)
unfolding port_acl_rules
port_acl_printable input named = (leaf_printable _ (from_port input.name named), (leaf_printable _ (to_port input.name named), tt))

-- one is of ingress, and one of egress
abbrev is_in : Stage → Bool
is_in LsInPreAcl = true
is_in other = false

port_acl_apart : (input : PortAclInput) → OfPairs RulesDiffer (port_acl_rules input)
unfolding port_acl_rules
port_acl_apart input = ((by_stage is_in _ _ refl refl, tt), (tt, tt))

port_acl_parts : (input : PortAclInput) → AllByRecursion IsOfAcls (port_acl_rules input)
unfolding port_acl_rules
port_acl_parts input = (refl, (refl, tt))

-- ---- the rules of a port

module _ (net : Network) (sound : IsSound net) (port : Port) (there : Contains net.ports port) where
  sec_input : IsSecInput (port_sec_input port)
  sec_input = let of = port_is_sound net sound port there in record { named = of.named; guards = of.guards }

  l2_input : IsL2Input (port_l2_input net port)
  l2_input = let of = port_is_sound net sound port there in record { named = of.named; macs = of.macs; ips = of.ips; peer = peer_mac_of_sound net sound port }

  -- where it leads to a router and its switch tracks, it has rules in the stages of ACLs
  acls_printable : AllByRecursion HasPrintable (acl_rules_of_port net port)
  acls_printable = by (is_untracked net port)
    where
      by : (b : Bool) → AllByRecursion HasPrintable (if b then port_acl_rules (port_acl_input port) else [])
      by true = port_acl_printable (port_acl_input port) (port_is_sound net sound port there).named
      by false = tt

  acls_apart : OfPairs RulesDiffer (acl_rules_of_port net port)
  acls_apart = by (is_untracked net port)
    where
      by : (b : Bool) → OfPairs RulesDiffer (if b then port_acl_rules (port_acl_input port) else [])
      by true = port_acl_apart (port_acl_input port)
      by false = tt

  acls_parts : AllByRecursion IsOfAcls (acl_rules_of_port net port)
  acls_parts = by (is_untracked net port)
    where
      by : (b : Bool) → AllByRecursion IsOfAcls (if b then port_acl_rules (port_acl_input port) else [])
      by true = port_acl_parts (port_acl_input port)
      by false = tt

  abbrev of_sec : List Rule
  of_sec = port_sec_rules (port_sec_input port)

  abbrev of_acls : List Rule
  of_acls = acl_rules_of_port net port

  abbrev of_l2 : List Rule
  of_l2 = port_l2_rules (port_l2_input net port)

  -- their matches can be told by their texts
  pub port_rules_printable : AllByRecursion HasPrintable (port_rules net port)
  port_rules_printable =
      every_append HasPrintable of_sec (of_acls ++ of_l2) (port_sec_printable (port_sec_input port) sec_input)
      (every_append HasPrintable of_acls of_l2 acls_printable (port_l2_printable (port_l2_input net port) l2_input))

  -- rules of two parts differ
  two_parts : (m n : ℕ) (r s : Rule) → eqb m m ≡ true → eqb n m ≡ false → part r.stage ≡ m → part s.stage ≡ n → RulesDiffer r s
  two_parts m n r s same other of_r of_s = by_stage (λ stage. eqb (part stage) m) r s (ap (λ k. eqb k m) of_r ∙ same) (ap (λ k. eqb k m) of_s ∙ other)

  sec_and_others : Across RulesDiffer of_sec (of_acls ++ of_l2)
  sec_and_others r s in_sec in_others = by (Contains-append_cases of_acls of_l2 s in_others)
    where
      security : IsOfSecurity r
      security = every_member IsOfSecurity of_sec r (port_sec_stages (port_sec_input port)) in_sec

      by : Contains of_acls s ⊎ Contains of_l2 s → RulesDiffer r s
      by (inl at) = two_parts 0 1 r s refl refl security (every_member IsOfAcls of_acls s acls_parts at)
      by (inr at) = two_parts 0 2 r s refl refl security (every_member IsLater of_l2 s (port_l2_stages (port_l2_input net port)) at)

  pub port_rules_apart : OfPairs RulesDiffer (port_rules net port)
  port_rules_apart =
      let of = port_is_sound net sound port there in
      pairs_append RulesDiffer of_sec (of_acls ++ of_l2)
      (port_sec_apart (port_sec_input port) sec_input of.guards_apart)
      (pairs_append RulesDiffer of_acls of_l2 acls_apart
      (port_l2_apart (port_l2_input net port) l2_input of.macs_apart of.ips_apart)
      (λ r s in_acls in_l2.
      two_parts 1 2 r s refl refl (every_member IsOfAcls of_acls r acls_parts in_acls) (every_member IsLater of_l2 s (port_l2_stages (port_l2_input net port)) in_l2)))
      sec_and_others
