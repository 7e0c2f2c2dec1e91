use Rattle.nv_base.proofs.Growth.{grown_more, on_err}
use Rattle.expr_core.proofs.text.right.put_relation.Goals as goal

pub returns-in_err-put_right-clause-err : goal.returns-in_err-put_right-clause-err
returns-in_err-put_right-clause-err c = on_err _ _ (grown_more _ _ _ _ c.in_ok-extend_from_slice.ensures.items c.in_err-put_right.ensures.err)
