use Rattle.nv_base.proofs.Growth.{grown_more, on_err}
use Rattle.sb_rows.proofs.Texts.{appended_five, grown_by_none}
use Rattle.sb_rows.proofs.listing.put_heading.Goals as goal

pub returns-clause-ok : goal.returns-clause-ok
returns-clause-ok c =
    let name = rw c.as_slice.ensures at c.in_ok-extend_from_slice-2.ensures.items in
    let pipeline = rw (c.as_bytes.ensures.value, c.pipeline_name.ensures) at c.in_ok-extend_from_slice-4.ensures.items in
    appended_five _ _ _ _ _ _ _ _ _ _ _ c.in_ok-extend_from_slice.ensures.items name c.in_ok-extend_from_slice-3.ensures.items pipeline c.in_ok-extend_from_slice-5.ensures.items

pub returns-in_err-extend_from_slice-2-clause-err : goal.returns-in_err-extend_from_slice-2-clause-err
returns-in_err-extend_from_slice-2-clause-err c = on_err _ _ (grown_more _ _ _ _ c.in_ok-extend_from_slice.ensures.items (grown_by_none _ _ c.in_err-extend_from_slice-2.ensures.items))

pub returns-in_err-extend_from_slice-3-clause-err : goal.returns-in_err-extend_from_slice-3-clause-err
returns-in_err-extend_from_slice-3-clause-err c = on_err _ _ (grown_more _ _ _ _ c.in_ok-extend_from_slice.ensures.items (grown_more _ _ _ _ c.in_ok-extend_from_slice-2.ensures.items (grown_by_none _ _ c.in_err-extend_from_slice-3.ensures.items)))

pub returns-in_err-extend_from_slice-4-clause-err : goal.returns-in_err-extend_from_slice-4-clause-err
returns-in_err-extend_from_slice-4-clause-err c = on_err _ _ (grown_more _ _ _ _ c.in_ok-extend_from_slice.ensures.items (grown_more _ _ _ _ c.in_ok-extend_from_slice-2.ensures.items (grown_more _ _ _ _ c.in_ok-extend_from_slice-3.ensures.items (grown_by_none _ _ c.in_err-extend_from_slice-4.ensures.items))))

pub returns-in_err-extend_from_slice-5-clause-err : goal.returns-in_err-extend_from_slice-5-clause-err
returns-in_err-extend_from_slice-5-clause-err c = on_err _ _ (grown_more _ _ _ _ c.in_ok-extend_from_slice.ensures.items (grown_more _ _ _ _ c.in_ok-extend_from_slice-2.ensures.items (grown_more _ _ _ _ c.in_ok-extend_from_slice-3.ensures.items (grown_more _ _ _ _ c.in_ok-extend_from_slice-4.ensures.items (grown_by_none _ _ c.in_err-extend_from_slice-5.ensures.items)))))
