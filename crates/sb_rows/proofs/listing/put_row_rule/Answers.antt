use Rattle.nv_base.proofs.Growth.{grown_more, on_err}
use Rattle.sb_rows.specs.Listing.{row_rule}
use Rattle.sb_rows.proofs.Texts.{appended_five, grown_by_none}
use Rattle.sb_rows.proofs.listing.put_row_rule.Goals as goal

pub returns-clause-ok : goal.returns-clause-ok
unfolding row_rule
returns-clause-ok c =
    let actions = rw c.as_slice.ensures at c.in_ok-put_actions.ensures.ok in
    appended_five _ _ _ _ _ _ _ _ _ _ _ c.in_ok-extend_from_slice.ensures.items c.in_ok-put_tree.ensures.ok c.in_ok-extend_from_slice-2.ensures.items actions c.in_ok-extend_from_slice-3.ensures.items

pub returns-in_err-put_tree-clause-err : goal.returns-in_err-put_tree-clause-err
returns-in_err-put_tree-clause-err c = on_err _ _ (grown_more _ _ _ _ c.in_ok-extend_from_slice.ensures.items c.in_err-put_tree.ensures.err)

pub returns-in_err-extend_from_slice-2-clause-err : goal.returns-in_err-extend_from_slice-2-clause-err
returns-in_err-extend_from_slice-2-clause-err c = on_err _ _ (grown_more _ _ _ _ c.in_ok-extend_from_slice.ensures.items (grown_more _ _ _ _ c.in_ok-put_tree.ensures.ok (grown_by_none _ _ c.in_err-extend_from_slice-2.ensures.items)))

pub returns-in_err-put_actions-clause-err : goal.returns-in_err-put_actions-clause-err
returns-in_err-put_actions-clause-err c = on_err _ _ (grown_more _ _ _ _ c.in_ok-extend_from_slice.ensures.items (grown_more _ _ _ _ c.in_ok-put_tree.ensures.ok (grown_more _ _ _ _ c.in_ok-extend_from_slice-2.ensures.items c.in_err-put_actions.ensures.err)))

pub returns-in_err-extend_from_slice-3-clause-err : goal.returns-in_err-extend_from_slice-3-clause-err
returns-in_err-extend_from_slice-3-clause-err c = on_err _ _ (grown_more _ _ _ _ c.in_ok-extend_from_slice.ensures.items (grown_more _ _ _ _ c.in_ok-put_tree.ensures.ok (grown_more _ _ _ _ c.in_ok-extend_from_slice-2.ensures.items (grown_more _ _ _ _ c.in_ok-put_actions.ensures.ok (grown_by_none _ _ c.in_err-extend_from_slice-3.ensures.items)))))
