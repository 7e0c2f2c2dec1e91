use Rattle.std.proofs.Common.{◌≡◌, ◌∙◌, true, sym, subst}
use Rattle.sb_model.specs.declared.row.Row.{Row}
use Rattle.sb_model.specs.inner.Exact.{same_row, row}
use Rattle.sb_model.proofs.Same.{same_itself}
use Rattle.sb_rows.proofs.finding.is_same.Goals as goal

pub returns : goal.returns
returns c =
    let a = c.args.one.now in
    let alike = λ (r : Row). same_row a r ≡ true in
    (λ is. row _ _ (sym c.eq.ensures ∙ is), λ is. c.eq.ensures ∙ subst alike is (same_itself a))
