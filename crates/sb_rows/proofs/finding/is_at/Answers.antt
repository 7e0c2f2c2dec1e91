use Rattle.std.proofs.Common.{sym, subst, ◌∙◌}
use Rattle.std.proofs.lemmas.Bool.{false≢true}
use Rattle.std.specs.Prelude.{Contains}
use Rattle.sb_model.specs.declared.row.Row.{Row}
use Rattle.sb_rows.proofs.Flat.{none_is_some, some_is}
use Rattle.sb_rows.proofs.IndexFirst.{row_found, row_looked_up}
use Rattle.sb_rows.proofs.finding.is_at.Goals as goal

pub returns-in-Some : goal.returns-in-Some
returns-in-Some c =
    let rows = c.args.rows.now in (
      λ same. subst (λ (r : Row). Contains rows.entries (c.args.place, r)) (sym c.row.ensures ∙ c.is_same.ensures.0 same) (row_found rows c.args.place c.in-Some.stored.now c.requires.rise (sym c.in-Some.ensures.value)),
      λ there. c.is_same.ensures.1 (c.row.ensures ∙ some_is (c.in-Some.ensures.value ∙ row_looked_up rows c.args.place c.args.row.now c.requires.rise there)),
    )

pub returns-in-None : goal.returns-in-None
returns-in-None c = (
  λ no. absurd (false≢true no),
  λ there. absurd (none_is_some (c.in-None.ensures.value ∙ row_looked_up c.args.rows.now c.args.place c.args.row.now c.requires.rise there)),
)
