use Rattle.std.proofs.Common.{codes, ◌∙◌}
use Rattle.nv_base.proofs.Growth.{grows_on, grows_more, on_err}
use Rattle.act_core.specs.Text.{action_text}
use Rattle.act_core.proofs.Lists.{item_appended, all_appended}
use Rattle.act_core.proofs.text.put_actions.Goals as goal

pub returns-in_err-put_action-clause-err : goal.returns-in_err-put_action-clause-err
returns-in_err-put_action-clause-err c =
    let there = grows_on _ _ _ _ c.loop-action.invariant.grown c.in_ok-put_front.ensures.ok in
    on_err _ _ (grows_more _ _ _ there c.in_err-put_action.ensures.err)

pub loop-action-preserved : goal.loop-action-preserved
loop-action-preserved c =
    let more = item_appended action_text (codes " ") _ _ _ _ _ _ _ c.loop-action-test.true c.in_ok-put_front.ensures.ok (rw c.action-item.is at c.in_ok-put_action.ensures.ok) in
    record {
      grown = grows_on _ _ _ _ (grows_on _ _ _ _ c.loop-action.invariant.grown c.in_ok-put_front.ensures.ok) c.in_ok-put_action.ensures.ok;
      whole = rw (c.as_slice-front-in-loop-action.ensures) (more ∙ c.loop-action.invariant.whole);
    }

pub returns-clause-ok : goal.returns-clause-ok
returns-clause-ok c = all_appended action_text (codes " ") _ _ _ _ _ c.loop-action-test.false c.loop-action.invariant.whole
