use Rattle.std.proofs.Common.{◌∙◌}
use Rattle.nv_base.proofs.Growth.{grows_on, grows_more, on_err}
use Rattle.expr_core.proofs.Lists.{item_appended}
use Rattle.expr_core.proofs.text.right.put_items.Goals as goal

pub returns-in_err-put_item-clause-err : goal.returns-in_err-put_item-clause-err
returns-in_err-put_item-clause-err c =
    let there = grows_on _ _ _ _ c.loop-item.invariant.grown c.in_ok-extend_from_slice.ensures.items in
    on_err _ _ (grows_more _ _ _ there c.in_err-put_item.ensures.err)

pub loop-item-preserved : goal.loop-item-preserved
loop-item-preserved c =
    let more = item_appended _ _ _ _ _ _ _ c.loop-item-test.true c.in_ok-extend_from_slice.ensures.items (rw c.item-item.is at c.in_ok-put_item.ensures.ok) in
    record {
      grown = grows_on _ _ _ _ (grows_on _ _ _ _ c.loop-item.invariant.grown c.in_ok-extend_from_slice.ensures.items) c.in_ok-put_item.ensures.ok;
      whole = rw (c.as_slice-front-in-loop-item.ensures) (more ∙ c.loop-item.invariant.whole);
    }
