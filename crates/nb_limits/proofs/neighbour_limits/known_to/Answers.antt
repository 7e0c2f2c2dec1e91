use Rattle.std.proofs.Common.{◌≡◌, ℕ, ◌+◌, ◌*◌, ◌<◌, Some, None, arith, sym, ap, ◌∙◌}
use Rattle.nb_model.specs.Amounts.{pair_count}
use Rattle.nb_limits.specs.inner.Within.{up_to}
use Rattle.nb_limits.proofs.Sums.{over, told, untold, within}
use Rattle.nb_limits.proofs.neighbour_limits.known_to.Goals as goal

-- no times, or too many at once
none_known : (bound n k : ℕ) → k ≡ 0 → Some 0 ≡ up_to bound (n * k)
none_known bound n k is = sym (ap (λ m. up_to bound (n * m)) is ∙ ap (up_to bound) (nothing n) ∙ within bound 0 (omega arith))
  where
    nothing : (n : ℕ) → n * 0 ≡ 0
    nothing n = omega arith

too_many : (bound n k : ℕ) → 0 < k → None ≡ up_to bound n → None ≡ up_to bound (n * k)
too_many bound n k some e = sym (over bound (n * k) (grown bound n k some (untold bound n e)))
  where
    grown : (b n k : ℕ) → 0 < k → b < n → b < n * k
    grown b n k some more = grind (arith, some, more)

alone : (n : ℕ) → 0 + n ≡ n
alone n = omega arith

pub returns-then-others-eq0 : goal.returns-then-others-eq0
returns-then-others-eq0 c = none_known c.args.bound (pair_count c.args.records.now c.args.port.now) c.args.others c.if-others-eq0.true

pub returns-in_err-pairs : goal.returns-in_err-pairs
returns-in_err-pairs c = c.from_residual.ensures ∙ too_many c.args.bound (pair_count c.args.records.now c.args.port.now) c.args.others (omega (arith, c.if-others-eq0.false)) c.in_err-pairs.ensures

pub returns : goal.returns
returns c = c.add_times.ensures ∙ ap (up_to c.args.bound) (alone (c.in_ok-pairs.pairs * c.args.others) ∙ ap (λ n. n * c.args.others) (told _ _ _ c.in_ok-pairs.ensures).0)
