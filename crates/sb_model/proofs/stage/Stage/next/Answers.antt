use Rattle.std.proofs.Common.{◌∙◌, ◌+◌, ℕ, sym, ap, arith, rules}
use Rattle.sb_model.proofs.Stages.{counted, next_at, next_past}
use Rattle.sb_model.proofs.stage.Stage.next.Goals as goal

pub returns-then-place-lt26 : goal.returns-then-place-lt26
returns-then-place-lt26 c =
    let is = ap (λ (k : ℕ). k + 1) (c.from-place.ensures ∙ c.place.ensures) in
    c.if_beside.ensures ∙ sym (next_at c.args.self _ (c.from-place.result + 1) is (rw counted (omega (arith, c.if-place-lt26.true))) (search rules))

pub returns-else-place-lt26 : goal.returns-else-place-lt26
returns-else-place-lt26 c =
    let is = ap (λ (k : ℕ). k + 1) (c.from-place.ensures ∙ c.place.ensures) in
    sym (next_past c.args.self (c.from-place.result + 1) is (rw counted (omega (arith, c.if-place-lt26.false))))
