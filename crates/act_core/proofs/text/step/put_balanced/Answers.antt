use Rattle.nv_base.proofs.Growth.{grown_more, on_err}
use Rattle.expr_core.proofs.Lists.{grown_kept}
use Rattle.act_core.proofs.Lists.{appended_thrice}
use Rattle.act_core.proofs.text.step.put_balanced.Goals as goal

pub returns-in_err-put_targets-clause-err : goal.returns-in_err-put_targets-clause-err
returns-in_err-put_targets-clause-err c = on_err _ _ (grown_more _ _ _ _ c.in_ok-extend_from_slice.ensures.items c.in_err-put_targets.ensures.err)

pub returns-in_err-extend_from_slice-2-clause-err : goal.returns-in_err-extend_from_slice-2-clause-err
returns-in_err-extend_from_slice-2-clause-err c = on_err _ _ (grown_more _ _ _ _ c.in_ok-extend_from_slice.ensures.items (grown_kept _ _ _ _ c.in_ok-put_targets.ensures.ok c.in_err-extend_from_slice-2.ensures.items))

pub returns-clause-ok : goal.returns-clause-ok
returns-clause-ok c = appended_thrice _ _ _ _ _ _ _ c.in_ok-extend_from_slice.ensures.items c.in_ok-put_targets.ensures.ok c.in_ok-extend_from_slice-2.ensures.items
