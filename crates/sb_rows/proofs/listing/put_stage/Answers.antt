use Rattle.nv_base.proofs.Growth.{grown_more, on_err}
use Rattle.sb_rows.specs.Listing.{stage_text}
use Rattle.sb_rows.proofs.Texts.{appended_five, grown_by_none}
use Rattle.sb_rows.proofs.listing.put_stage.Goals as goal

pub returns-clause-ok : goal.returns-clause-ok
unfolding stage_text
returns-clause-ok c =
    let number = rw (c.from.ensures, c.table.ensures) at c.in_ok-put_number.ensures.ok in
    let name = rw (c.as_bytes.ensures.value, c.name.ensures) at c.in_ok-extend_from_slice-3.ensures.items in
    appended_five _ _ _ _ _ _ _ _ _ _ _ c.in_ok-extend_from_slice.ensures.items number c.in_ok-extend_from_slice-2.ensures.items name c.in_ok-push.ensures.items

pub returns-in_err-put_number-clause-err : goal.returns-in_err-put_number-clause-err
returns-in_err-put_number-clause-err c = on_err _ _ (grown_more _ _ _ _ c.in_ok-extend_from_slice.ensures.items (grown_by_none _ _ c.in_err-put_number.ensures.err))

pub returns-in_err-extend_from_slice-2-clause-err : goal.returns-in_err-extend_from_slice-2-clause-err
returns-in_err-extend_from_slice-2-clause-err c = on_err _ _ (grown_more _ _ _ _ c.in_ok-extend_from_slice.ensures.items (grown_more _ _ _ _ c.in_ok-put_number.ensures.ok (grown_by_none _ _ c.in_err-extend_from_slice-2.ensures.items)))

pub returns-in_err-extend_from_slice-3-clause-err : goal.returns-in_err-extend_from_slice-3-clause-err
returns-in_err-extend_from_slice-3-clause-err c = on_err _ _ (grown_more _ _ _ _ c.in_ok-extend_from_slice.ensures.items (grown_more _ _ _ _ c.in_ok-put_number.ensures.ok (grown_more _ _ _ _ c.in_ok-extend_from_slice-2.ensures.items (grown_by_none _ _ c.in_err-extend_from_slice-3.ensures.items))))

pub returns-in_err-push-clause-err : goal.returns-in_err-push-clause-err
returns-in_err-push-clause-err c = on_err _ _ (grown_more _ _ _ _ c.in_ok-extend_from_slice.ensures.items (grown_more _ _ _ _ c.in_ok-put_number.ensures.ok (grown_more _ _ _ _ c.in_ok-extend_from_slice-2.ensures.items (grown_more _ _ _ _ c.in_ok-extend_from_slice-3.ensures.items (grown_by_none _ _ c.in_err-push.ensures.items)))))
