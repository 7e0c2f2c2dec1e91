-- Which of a network's ports is found by a test: of those that pass, the one of the lowest number.
use Rattle.std.proofs.Common.{◌≡◌, ◌<◌, Bool, true, false, cond, List, [], ◌∷◌, sym, ap, refl, ◌∙◌, subst, ◌⊎◌, inl, inr}
use Rattle.std.specs.Prelude.{Some, None}
use Rattle.std.specs.List.{Contains, find}
use Rattle.std.proofs.lemmas.Bool.{false≢true}
use Rattle.std.proofs.lemmas.Option.{same_Some, none-some}
use Rattle.nb_records.specs.declared.switch.Port.{Port}
use Rattle.net_rows.proofs.Elements.{one_of, one_of_none, one_first, one_later}
use Rattle.net_rows.proofs.Sound.{PortsRise}
use Rattle.ls_laws.proofs.RuleStages.{each_of}

-- the port is one that passes, and each other that passes has a higher number
pub record IsFoundPort (passes : Port → Bool) (ports : List Port) (port : Port) : Type 0 where
  pub among : Contains ports port
  pub does : passes port ≡ true
  pub others : (other : Port) → Contains ports other → passes other ≡ true → (other ≡ port) ⊎ (port.id.0 < other.id.0)

module _ (passes : Port → Bool) where
  pub found_port : (ports : List Port) (port : Port) → PortsRise ports → find passes ports ≡ Some port → IsFoundPort passes ports port
  found_port [] port rise found = absurd (none-some port found)
  found_port (p ∷ ports) port rise found = by (passes p) refl found (found_port ports port rise.1)
    where
      after : p ≡ port → (other : Port) → (p ≡ other) ⊎ Contains ports other → (other ≡ port) ⊎ (port.id.0 < other.id.0)
      after same other (inl is) = inl (sym is ∙ same)
      after same other (inr later) = inr (subst (λ (q : Port). q.id.0 < other.id.0) same (each_of (λ (q : Port). p.id.0 < q.id.0) ports other rise.0 later))

      by : (b : Bool) → passes p ≡ b → cond b (Some p) (find passes ports) ≡ Some port → (find passes ports ≡ Some port → IsFoundPort passes ports port) → IsFoundPort passes (p ∷ ports) port
      by true is at rest =
          let same : p ≡ port = same_Some p port at in
          record { among = one_first p ports port same; does = sym (ap passes same) ∙ is; others = λ other there passed. after same other (one_of p ports other there) }
      by false is at rest =
          let later = rest at in
          record { among = one_later p ports port later.among; does = later.does; others = λ other there passed. each other passed (one_of p ports other there) }
        where
          each : (other : Port) → passes other ≡ true → (p ≡ other) ⊎ Contains ports other → (other ≡ port) ⊎ (port.id.0 < other.id.0)
          each other passed (inl same) = absurd (false≢true (sym is ∙ ap passes same ∙ passed))
          each other passed (inr there) = (rest at).others other there passed

  -- where none is found, none passes
  pub found_none : (ports : List Port) (port : Port) → find passes ports ≡ None → Contains ports port → passes port ≡ true → ⊥
  found_none [] port none there does = absurd (one_of_none port there)
  found_none (p ∷ ports) port none there does = by (passes p) refl none (one_of p ports port there) (found_none ports port)
    where
      by : (b : Bool) → passes p ≡ b → cond b (Some p) (find passes ports) ≡ None → (p ≡ port) ⊎ Contains ports port → (find passes ports ≡ None → Contains ports port → passes port ≡ true → ⊥) → ⊥
      by true is at which rest = none-some p (sym at)
      by false is at (inl same) rest = false≢true (sym is ∙ ap passes same ∙ does)
      by false is at (inr later) rest = rest at later does
