use Rattle.act_core.proofs.Lists.{appended_four}
use Rattle.nv_base.proofs.Growth.{grown_more, on_err}
use Rattle.sb_rows.specs.Listing.{row_rank}
use Rattle.sb_rows.proofs.Texts.{grown_by_none}
use Rattle.sb_rows.proofs.listing.put_row_rank.Goals as goal

pub returns-clause-ok : goal.returns-clause-ok
unfolding row_rank
returns-clause-ok c =
    let priority = rw c.from.ensures at c.in_ok-put_number.ensures.ok in
    appended_four _ _ _ _ _ _ _ _ _ c.in_ok-extend_from_slice.ensures.items priority c.in_ok-extend_from_slice-2.ensures.items c.in_ok-put_number-2.ensures.ok

pub returns-in_err-put_number-clause-err : goal.returns-in_err-put_number-clause-err
returns-in_err-put_number-clause-err c = on_err _ _ (grown_more _ _ _ _ c.in_ok-extend_from_slice.ensures.items (grown_by_none _ _ c.in_err-put_number.ensures.err))

pub returns-in_err-extend_from_slice-2-clause-err : goal.returns-in_err-extend_from_slice-2-clause-err
returns-in_err-extend_from_slice-2-clause-err c = on_err _ _ (grown_more _ _ _ _ c.in_ok-extend_from_slice.ensures.items (grown_more _ _ _ _ c.in_ok-put_number.ensures.ok (grown_by_none _ _ c.in_err-extend_from_slice-2.ensures.items)))

pub returns-in_err-put_number-2-clause-err : goal.returns-in_err-put_number-2-clause-err
returns-in_err-put_number-2-clause-err c = on_err _ _ (grown_more _ _ _ _ c.in_ok-extend_from_slice.ensures.items (grown_more _ _ _ _ c.in_ok-put_number.ensures.ok (grown_more _ _ _ _ c.in_ok-extend_from_slice-2.ensures.items (grown_by_none _ _ c.in_err-put_number-2.ensures.err))))
