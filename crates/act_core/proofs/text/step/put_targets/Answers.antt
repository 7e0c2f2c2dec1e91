use Rattle.std.proofs.Common.{codes, ◌∙◌}
use Rattle.nv_base.proofs.Growth.{grows_on, grows_more, on_err}
use Rattle.act_core.specs.Text.{target_text}
use Rattle.act_core.proofs.Lists.{item_appended, all_appended}
use Rattle.act_core.proofs.text.step.put_targets.Goals as goal

pub returns-in_err-put_target-clause-err : goal.returns-in_err-put_target-clause-err
returns-in_err-put_target-clause-err c =
    let there = grows_on _ _ _ _ c.loop-target.invariant.grown c.in_ok-extend_from_slice.ensures.items in
    on_err _ _ (grows_more _ _ _ there c.in_err-put_target.ensures.err)

pub loop-target-preserved : goal.loop-target-preserved
loop-target-preserved c =
    let more = item_appended target_text (codes ",") _ _ _ _ _ _ _ c.loop-target-test.true c.in_ok-extend_from_slice.ensures.items c.in_ok-put_target.ensures.ok in
    record {
      grown = grows_on _ _ _ _ (grows_on _ _ _ _ c.loop-target.invariant.grown c.in_ok-extend_from_slice.ensures.items) c.in_ok-put_target.ensures.ok;
      whole = rw (c.as_slice-front-in-loop-target.ensures) (more ∙ c.loop-target.invariant.whole);
    }

pub returns-clause-ok : goal.returns-clause-ok
returns-clause-ok c = all_appended target_text (codes ",") _ _ _ _ _ c.loop-target-test.false c.loop-target.invariant.whole
