use Rattle.nv_base.proofs.Growth.{grown_more, on_err}
use Rattle.sb_rows.proofs.listing.put_row_line.Goals as goal

pub returns-in_err-put_row_rank-clause-err : goal.returns-in_err-put_row_rank-clause-err
returns-in_err-put_row_rank-clause-err c = on_err _ _ (grown_more _ _ _ _ c.in_ok-put_stage.ensures.ok c.in_err-put_row_rank.ensures.err)

pub returns-in_err-put_row_rule-clause-err : goal.returns-in_err-put_row_rule-clause-err
returns-in_err-put_row_rule-clause-err c = on_err _ _ (grown_more _ _ _ _ c.in_ok-put_stage.ensures.ok (grown_more _ _ _ _ c.in_ok-put_row_rank.ensures.ok c.in_err-put_row_rule.ensures.err))
