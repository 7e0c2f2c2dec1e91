use Rattle.std.proofs.Common.{ℕ, List, sym, ap, ◌∙◌}
use Rattle.std.proofs.lemmas.Result.{err_from_is_err_and}
use Rattle.nv_base.specs.declared.object.ObjId.{ObjId}
use Rattle.sb_rows.specs.Listing.{datapath_listing, is_asked_for}
use Rattle.sb_rows.specs.Row.{rows_of}
use Rattle.sb_rows.proofs.Tail.{tail_more}
use Rattle.sb_rows.proofs.Texts.{failing_more, passing_more}
use Rattle.sb_rows.proofs.listing.put_listing.Goals.{then-is_asked_for+in_ok-put_rows_of, else-is_asked_for}
use Rattle.sb_rows.proofs.listing.put_listing.Goals as goal

pub returns-in_err-put_rows_of-clause-err : goal.returns-in_err-put_rows_of-clause-err
returns-in_err-put_rows_of-clause-err c =
    let p = err_from_is_err_and c.from_residual.result c.from_residual.ensures.1 in
    rw (p.1) (tail_more _ _ _ _ c.loop-dp.invariant c.in_err-put_rows_of.ensures.err)

pub loop-dp-preserved : goal.loop-dp-preserved
loop-dp-preserved c =
    let text = λ (d : ObjId × List ℕ). datapath_listing (rows_of d.0 c.args.rows.now) d.1 in
    let asked = λ (d : ObjId × List ℕ). is_asked_for c.args.only d.0 in
    elim c.if-is_asked_for.branch [
      | then-is_asked_for+in_ok-put_rows_of w ↦
          passing_more text asked _ _ _ _ _ _ c.loop-dp-test.true c.loop-dp-item.is (sym c.is_asked_for.ensures ∙ w.if-is_asked_for.true) c.loop-dp.invariant (ap (λ v. v.items) w.out-is ∙ w.in_ok-put_rows_of.ensures.ok)
      | else-is_asked_for w ↦ failing_more text asked _ _ _ _ _ c.loop-dp-test.true c.loop-dp-item.is (sym c.is_asked_for.ensures ∙ w.if-is_asked_for.false) (ap (λ v. v.items) w.out-is ∙ c.loop-dp.invariant)
    ]
