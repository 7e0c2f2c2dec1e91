use Rattle.std.proofs.Common.{append_assoc}
use Rattle.nv_base.proofs.Growth.{grown_more, on_err}
use Rattle.expr_core.proofs.Lists.{grown_kept}
use Rattle.expr_core.proofs.text.right.put_quoted.Goals as goal

pub returns-in_err-extend_from_slice-clause-err : goal.returns-in_err-extend_from_slice-clause-err
returns-in_err-extend_from_slice-clause-err c = on_err _ _ (grown_kept _ _ _ _ c.in_ok-push.ensures.items c.in_err-extend_from_slice.ensures.items)

pub returns-in_err-push-2-clause-err : goal.returns-in_err-push-2-clause-err
returns-in_err-push-2-clause-err c = on_err _ _ (grown_more _ _ _ _ c.in_ok-push.ensures.items (grown_kept _ _ _ _ c.in_ok-extend_from_slice.ensures.items c.in_err-push-2.ensures.items))

pub returns-clause-ok : goal.returns-clause-ok
returns-clause-ok c = rw (c.in_ok-push-2.ensures.items, c.in_ok-extend_from_slice.ensures.items, c.in_ok-push.ensures.items) (simp append_assoc)
