-- Hits and outcomes that are equal by `==` are one value.
use Rattle.std.proofs.Common.{◌≡◌, ℕ, ap, ◌∙◌}
use Rattle.std.proofs.lemmas.Bool.{eqb-true, false≢true, and_parts}
use Rattle.nv_base.specs.inner.Exact as tells
use Rattle.nv_base.specs.inner.Exact.{Tells}
use Rattle.net_meaning.specs.inner.Exact as of_meaning
use Rattle.pkt_core.specs.Packet.{Values}
use Rattle.sb_model.specs.inner.Exact as of_rows
use Rattle.tr_stage.specs.contracts.outcome.HitPartialEq.TheImpl as hit_eq
use Rattle.tr_stage.specs.contracts.outcome.OutcomePartialEq.TheImpl as outcome_eq
use Rattle.tr_stage.specs.declared.outcome.Outcome.TheVariants.{Leave, Deliver, Made, Drop}

pub hit : Tells ((hit_eq.ghosts).eq)
hit a b e =
    let dp = and_parts _ _ e in
    let stage = and_parts _ _ dp.1 in
    let last = and_parts _ _ stage.1 in
    let dps : a.dp ≡ b.dp = tells.object _ _ dp.0 in
    let same_stages : a.stage ≡ b.stage = of_rows.stage _ _ stage.0 in
    let priorities : a.priority ≡ b.priority = eqb-true _ _ last.0 in
    let hints : a.hint ≡ b.hint = tells.object _ _ last.1 in
    λ i. record { dp = dps i; stage = same_stages i; priority = priorities i; hint = hints i }

pub outcome : Tells ((outcome_eq.ghosts).eq)
outcome (Leave a m) (Leave b n) e =
    let parts = and_parts _ _ e in
    ap (λ (p : Values). Leave p m) (tells.list _ tells.number a b parts.0) ∙ ap (Leave b) (eqb-true _ _ parts.1)
outcome (Leave a m) (Deliver b) e = absurd (false≢true e)
outcome (Leave a m) (Made b n y) e = absurd (false≢true e)
outcome (Leave a m) (Drop d) e = absurd (false≢true e)
outcome (Deliver a) (Leave b n) e = absurd (false≢true e)
outcome (Deliver a) (Deliver b) e = ap Deliver (tells.list _ tells.number a b e)
outcome (Deliver a) (Made b n y) e = absurd (false≢true e)
outcome (Deliver a) (Drop d) e = absurd (false≢true e)
outcome (Made a m x) (Leave b n) e = absurd (false≢true e)
outcome (Made a m x) (Deliver b) e = absurd (false≢true e)
outcome (Made a m x) (Made b n y) e =
    let parts = and_parts _ _ e in
    let last = and_parts _ _ parts.1 in
    ap (λ (p : Values). Made p m x) (tells.list _ tells.number a b parts.0) ∙ ap (λ (table : ℕ). Made b table x) (eqb-true _ _ last.0) ∙ ap (Made b n) (of_meaning.answer x y last.1)
outcome (Made a m x) (Drop d) e = absurd (false≢true e)
outcome (Drop c) (Leave b n) e = absurd (false≢true e)
outcome (Drop c) (Deliver b) e = absurd (false≢true e)
outcome (Drop c) (Made b n y) e = absurd (false≢true e)
outcome (Drop c) (Drop d) e = ap Drop (of_meaning.cause _ _ e)
