-- No two rules of the port security of a port agree in stage, priority and match.
use Rattle.std.proofs.Common.{◌≡◌, ◌≢◌, ℕ, Bool, true, false, List, [], ◌∷◌, nat_lt, refl, sym, ◌∙◌, arith}
use Rattle.std.specs.Bool.{IsTrue}
use Rattle.std.specs.List.{AllByRecursion, flat_map}
use Rattle.std.proofs.lemmas.Bool.{ltb-true}
use Rattle.nv_base.specs.Block.{Block}
use Rattle.nv_base.specs.Name.{is_object_name}
use Rattle.nb_records.specs.declared.switch.Guard.{Guard}
use Rattle.net_rows.specs.PortSecurity.{closed_rules, disabled_rules, guard_rules, guarded_rules, open_rules, port_sec_rules}
use Rattle.net_rows.specs.declared.inputs.PortSecInput.{PortSecInput}
use Rattle.net_rows.specs.declared.rule.Rule.{Rule}
use Rattle.net_rows.proofs.Differ.{HasPrintable, RulesDiffer, by_match, by_number, by_priority, by_stage}
use Rattle.net_rows.proofs.Elements.{every_append}
use Rattle.net_rows.proofs.Pairs.{Across, OfPairs, every_flat_map, every_member, every_weaker, pairs_append, pairs_flat_map, pairs_weaker}
use Rattle.net_rows.proofs.PortMatches.{IsSecInput, guard_printable}
use Rattle.net_rows.proofs.PortParts.{IsOfSecurity, is_ingress_check, second_number}
use Rattle.net_rows.proofs.SoundObjects.{IsGuard}

-- ---- the rules of guards

-- a rule of a guard: of port security, at priority 90, with the guard's MAC in the second operand
record IsOfGuard (mac : ℕ) (r : Rule) : Type 0 where
  security : IsOfSecurity r
  priority : r.priority ≡ 90
  mac_in_it : second_number r.matching ≡ mac

of_guard : (mac : ℕ) (r : Rule) → IsOfSecurity r → r.priority ≡ 90 → second_number r.matching ≡ mac → IsOfGuard mac r
of_guard mac r security priority mac_in_it = record { security = security; priority = priority; mac_in_it = mac_in_it }

each_of_guard : (name : List ℕ) (guard : Guard) → AllByRecursion (IsOfGuard guard.mac) (guard_rules name guard)
each_of_guard name guard = by guard.nets
  where
    by : (nets : List Block) → AllByRecursion (IsOfGuard guard.mac) (guard_rules name (record { mac = guard.mac; nets = nets }))
    by [] = (of_guard _ _ refl refl refl, (of_guard _ _ refl refl refl, tt))
    by (net ∷ nets) = (
      of_guard _ _ refl refl refl,
      (
        of_guard _ _ refl refl refl,
        (
          of_guard _ _ refl refl refl,
          (of_guard _ _ refl refl refl, (of_guard _ _ refl refl refl, (of_guard _ _ refl refl refl, tt))),
        ),
      ),
    )

-- the rules of a guard without networks: one lets in, and one out
open_apart : (name : List ℕ) (guard : Guard) → OfPairs RulesDiffer (open_rules name guard)
open_apart name guard = ((by_stage is_ingress_check _ _ refl refl, tt), (tt, tt))

-- of a guard with networks those that let in test something else third, and so do those that let out
closed_apart : (name : List ℕ) (guard : Guard) → AllByRecursion HasPrintable (closed_rules name guard) → OfPairs RulesDiffer (closed_rules name guard)
closed_apart name guard (p, (q, (r, (s, (t, (u, none)))))) = (
  (by_match _ _ p q (λ same. cc), (by_match _ _ p r (λ same. cc), (by_match _ _ p s (λ same. cc), (by_stage is_ingress_check _ _ refl refl, (by_stage is_ingress_check _ _ refl refl, tt))))),
  (
    (by_match _ _ q r (λ same. cc), (by_match _ _ q s (λ same. cc), (by_stage is_ingress_check _ _ refl refl, (by_stage is_ingress_check _ _ refl refl, tt)))),
    (
      (by_match _ _ r s (λ same. cc), (by_stage is_ingress_check _ _ refl refl, (by_stage is_ingress_check _ _ refl refl, tt))),
      (
        (by_stage is_ingress_check _ _ refl refl, (by_stage is_ingress_check _ _ refl refl, tt)),
        (
          (by_match _ _ t u (λ same. cc), tt),
          (tt, tt),
        ),
      ),
    ),
  ),
)

guard_apart : (name : List ℕ) (guard : Guard) → AllByRecursion HasPrintable (guard_rules name guard) → OfPairs RulesDiffer (guard_rules name guard)
guard_apart name guard all = by guard.nets all
  where
    by : (nets : List Block) → AllByRecursion HasPrintable (guard_rules name (record { mac = guard.mac; nets = nets })) → OfPairs RulesDiffer (guard_rules name (record { mac = guard.mac; nets = nets }))
    by [] of = open_apart name (record { mac = guard.mac; nets = [] })
    by (net ∷ nets) of = closed_apart name (record { mac = guard.mac; nets = net ∷ nets }) of

-- the rules of two guards differ in the MAC
guards_apart : (name : List ℕ) (g h : Guard) → AllByRecursion HasPrintable (guard_rules name g) → AllByRecursion HasPrintable (guard_rules name h) → g.mac ≢ h.mac
    → Across RulesDiffer (guard_rules name g) (guard_rules name h)
guards_apart name g h all_g all_h other r s in_g in_h =
    let of_r = every_member (IsOfGuard g.mac) (guard_rules name g) r (each_of_guard name g) in_g in
    let of_s = every_member (IsOfGuard h.mac) (guard_rules name h) s (each_of_guard name h) in_h in
    by_number second_number r s (every_member HasPrintable (guard_rules name g) r all_g in_g) (every_member HasPrintable (guard_rules name h) s all_h in_h)
    (λ same. other (sym of_r.mac_in_it ∙ same ∙ of_s.mac_in_it))

-- guards of two MACs
abbrev OtherGuards : Guard → Guard → Type 0
OtherGuards g h = g.mac ≢ h.mac

of_guards : (name : List ℕ) → IsTrue (is_object_name name) → (guards : List Guard) → AllByRecursion IsGuard guards → OfPairs OtherGuards guards → OfPairs RulesDiffer (flat_map (guard_rules name) guards)
of_guards name named guards all others =
    pairs_flat_map RulesDiffer (guard_rules name) guards
    (every_weaker IsGuard (λ g. OfPairs RulesDiffer (guard_rules name g)) guards (λ g is. guard_apart name g (guard_printable name named g is)) all)
    (pairs_weaker IsGuard OtherGuards (λ g h. Across RulesDiffer (guard_rules name g) (guard_rules name h)) guards
    (λ g h is_g is_h other. guards_apart name g h (guard_printable name named g is_g) (guard_printable name named h is_h) other) all others)

-- ---- the rules of port security

-- a rule of port security at this priority
abbrev IsAt : ℕ → Rule → Type 0
IsAt priority r = IsOfSecurity r × (r.priority ≡ priority)

-- a rule of port security at another one
abbrev IsNotAt : ℕ → Rule → Type 0
IsNotAt priority r = IsOfSecurity r × (r.priority ≢ priority)

-- the rules of guards are at priority 90
at_90 : (name : List ℕ) (guards : List Guard) → AllByRecursion (IsAt 90) (flat_map (guard_rules name) guards)
at_90 name guards = every_flat_map (IsAt 90) (guard_rules name) guards (each guards)
  where
    each : (gs : List Guard) → AllByRecursion (λ g. AllByRecursion (IsAt 90) (guard_rules name g)) gs
    each [] = tt
    each (g ∷ gs) = (every_weaker (IsOfGuard g.mac) (IsAt 90) (guard_rules name g) (λ r is. (is.security, is.priority)) (each_of_guard name g), each gs)

-- a rule at another priority differs from them
not_at_90 : (r : Rule) (rules : List Rule) → r.priority ≢ 90 → AllByRecursion (IsAt 90) rules → AllByRecursion (RulesDiffer r) rules
not_at_90 r rules other all = every_weaker (IsAt 90) (RulesDiffer r) rules (λ s is. by_priority r s (λ same. other (same ∙ is.1))) all

-- a lower number is not this one
lower : (m n : ℕ) → nat_lt m n ≡ true → m ≢ n
lower m n low same = let below = ltb-true m n low in absurd (omega (arith, below, same))

guarded_apart : (name : List ℕ) (guards : List Guard) → IsTrue (is_object_name name) → AllByRecursion IsGuard guards → OfPairs OtherGuards guards → OfPairs RulesDiffer (guarded_rules name guards)
guarded_apart name [] named all others = tt
guarded_apart name (guard ∷ guards) named all others = (
  (by_stage is_ingress_check _ _ refl refl, not_at_90 _ _ (lower 50 90 refl) (at_90 name (guard ∷ guards))),
  (
    not_at_90 _ _ (lower 50 90 refl) (at_90 name (guard ∷ guards)),
    of_guards name named (guard ∷ guards) all others,
  ),
)

-- the rule of a disabled port is at priority 100
at_100 : (enabled : Bool) (name : List ℕ) → AllByRecursion (IsAt 100) (disabled_rules enabled name)
at_100 true name = tt
at_100 false name = ((refl, refl), tt)

one_at_most : (enabled : Bool) (name : List ℕ) → OfPairs RulesDiffer (disabled_rules enabled name)
one_at_most true name = tt
one_at_most false name = (tt, tt)

-- and the others are not
not_at_100 : (name : List ℕ) (guards : List Guard) → AllByRecursion (IsNotAt 100) (guarded_rules name guards)
not_at_100 name [] = tt
not_at_100 name (guard ∷ guards) = (
  (refl, lower 50 100 refl),
  (
    (refl, lower 50 100 refl),
    every_weaker (IsAt 90) (IsNotAt 100) (flat_map (guard_rules name) (guard ∷ guards)) (λ r is. (is.0, λ same. lower 90 100 refl (sym is.1 ∙ same))) (at_90 name (guard ∷ guards)),
  ),
)

pub port_sec_apart : (input : PortSecInput) → IsSecInput input → OfPairs OtherGuards input.security → OfPairs RulesDiffer (port_sec_rules input)
unfolding port_sec_rules
port_sec_apart input is others =
    let disabled = disabled_rules input.enabled input.name in
    let guarded = guarded_rules input.name input.security in
    pairs_append RulesDiffer disabled guarded (one_at_most input.enabled input.name) (guarded_apart input.name input.security is.named is.guards others)
    (λ r s in_disabled in_guarded.
    let at = every_member (IsAt 100) disabled r (at_100 input.enabled input.name) in_disabled in
    let not_at = every_member (IsNotAt 100) guarded s (not_at_100 input.name input.security) in_guarded in
    by_priority r s (λ same. not_at.1 (sym same ∙ at.1)))

-- the stages of port security are not those of the lookup
pub port_sec_stages : (input : PortSecInput) → AllByRecursion IsOfSecurity (port_sec_rules input)
unfolding port_sec_rules
port_sec_stages input =
    let disabled = disabled_rules input.enabled input.name in
    let guarded = guarded_rules input.name input.security in
    every_append IsOfSecurity disabled guarded
    (every_weaker (IsAt 100) IsOfSecurity disabled (λ r is. is.0) (at_100 input.enabled input.name))
    (every_weaker (IsNotAt 100) IsOfSecurity guarded (λ r is. is.0) (not_at_100 input.name input.security))
