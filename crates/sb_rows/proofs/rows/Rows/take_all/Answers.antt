use Rattle.std.proofs.Common.{◌≡◌, List, get_or, subst, sym, arith, ◌∙◌}
use Rattle.std.proofs.lemmas.List.{take_all}
use Rattle.std.specs.Prelude.{Contains, ◌↔◌}
use Rattle.sb_model.specs.declared.row.Row.{Row}
use Rattle.sb_rows.proofs.Without.{taken_next}
use Rattle.sb_rows.proofs.rows.Rows.take_all.Goals as goal

pub loop-stored-init : goal.loop-stored-init
loop-stored-init c r = (λ at. (at, λ none. omega (arith, none.1)), λ both. both.0)

pub loop-stored-preserved : goal.loop-stored-preserved
loop-stored-preserved c =
    let rows = c.as_stored-rows.result.now in
    let at = c.loop-stored.stored-index in
    let here = subst (λ (x : Row). x ≡ get_or rows at x) (sym c.row.ensures) c.stored-item.is in
    taken_next rows c.args.self.now c.loop-stored.self c.leave_out.new.self at c.row.result.now c.loop-stored-test.true here c.loop-stored.invariant c.leave_out.ensures

pub returns : goal.returns
returns c r =
    let rows = c.as_stored-rows.result.now in
    let all = take_all c.loop-stored.stored-index rows c.loop-stored-test.false in
    subst (λ (l : List Row). Contains c.loop-stored.self r ↔ (Contains c.args.self.now r × (Contains l r → ⊥))) (all ∙ c.as_stored-rows.ensures) (c.loop-stored.invariant r)
