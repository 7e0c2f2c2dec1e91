use Rattle.std.proofs.Common.{◌≡◌, ℕ, List, subst, ◌∙◌}
use Rattle.sb_rows.specs.inner.Filled.{IsTurnBetween}
use Rattle.sb_rows.proofs.filled.Filled.window.Goals as goal

pub returns-then-places-lt-MANY : goal.returns-then-places-lt-MANY
returns-then-places-lt-MANY c =
    let same : c.deref-places.result.now ≡ c.args.self.now = c.deref-places.ensures.value ∙ c.self.view_is in
    subst (λ (l : List (ℕ × ℕ)). IsTurnBetween l c.args.bucket c.all-all.result.low c.all-all.result.high) same (c.all-all.ensures c.args.bucket)

pub near-close-requires-clause-turn : goal.near-close-requires-clause-turn
near-close-requires-clause-turn c = c.all-all.ensures c.args.bucket
