use Rattle.std.proofs.Common.{[], sym, ◌∙◌}
use Rattle.std.proofs.lemmas.List.{append-nil}
use Rattle.nv_base.proofs.Growth.{grows_on, grows_more, on_err}
use Rattle.act_core.specs.Text.{spaced_text}
use Rattle.act_core.proofs.Lists.{item_appended}
use Rattle.act_core.proofs.text.put_spaced_steps.Goals as goal

pub returns-in_err-put_spaced_step-clause-err : goal.returns-in_err-put_spaced_step-clause-err
returns-in_err-put_spaced_step-clause-err c = on_err _ _ (grows_more _ _ _ c.loop-step.invariant.grown c.in_err-put_spaced_step.ensures.err)

pub loop-step-preserved : goal.loop-step-preserved
loop-step-preserved c =
    let more = item_appended spaced_text [] _ _ _ [] _ _ _ c.loop-step-test.true (sym (append-nil _)) (rw c.step-item.is at c.in_ok-put_spaced_step.ensures.ok) in
    record {
      grown = grows_on _ _ _ _ c.loop-step.invariant.grown c.in_ok-put_spaced_step.ensures.ok;
      whole = more ∙ c.loop-step.invariant.whole;
    }
