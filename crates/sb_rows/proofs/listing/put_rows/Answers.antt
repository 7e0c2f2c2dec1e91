use Rattle.std.proofs.Common.{◌≡◌, ap, sym, ◌∙◌}
use Rattle.std.proofs.lemmas.Result.{err_from_is_err_and}
use Rattle.sb_model.specs.declared.row.Row.{Row}
use Rattle.sb_model.specs.Stage.{is_same_pipeline, pipeline_of}
use Rattle.sb_rows.specs.Listing.{row_text}
use Rattle.sb_rows.proofs.Made.{shown_at, shown_count}
use Rattle.sb_rows.proofs.Tail.{tail_more}
use Rattle.sb_rows.proofs.Texts.{failing_more, passing_more, same_pipeline}
use Rattle.sb_rows.proofs.listing.put_rows.Goals.{then-eq+in_ok-put_row_line, else-eq}
use Rattle.sb_rows.proofs.listing.put_rows.Goals as goal

pub returns-in_err-put_row_line-clause-err : goal.returns-in_err-put_row_line-clause-err
returns-in_err-put_row_line-clause-err c =
    let p = err_from_is_err_and c.from_residual.result c.from_residual.ensures.1 in
    rw (p.1) (tail_more _ _ _ _ c.loop-row.invariant c.in_err-put_row_line.ensures.err)

pub loop-row-preserved : goal.loop-row-preserved
loop-row-preserved c =
    let in_it = λ (row : Row). is_same_pipeline (pipeline_of row.stage) c.args.pipeline in
    let same : c.eq.result ≡ in_it c.row-item.result.now = c.eq.ensures ∙ same_pipeline _ _ ∙ ap (λ p. is_same_pipeline p c.args.pipeline) c.pipeline.ensures in
    let within = shown_count c.args.rows.now _ c.loop-row-test.true in
    let item = shown_at c.args.rows.now _ c.row-item.result c.loop-row-test.true c.row-item.is in
    elim c.if-eq.branch [
      | then-eq+in_ok-put_row_line w ↦ passing_more row_text in_it _ _ _ _ _ _ within item (sym same ∙ w.if-eq.true) c.loop-row.invariant (ap (λ v. v.items) w.out-is ∙ w.in_ok-put_row_line.ensures.ok)
      | else-eq w ↦ failing_more row_text in_it _ _ _ _ _ within item (sym same ∙ w.if-eq.false) (ap (λ v. v.items) w.out-is ∙ c.loop-row.invariant)
    ]
