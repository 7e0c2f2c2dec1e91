use Rattle.std.proofs.Common.{append_assoc}
use Rattle.nv_base.proofs.Growth.{grown_more, on_err}
use Rattle.expr_core.proofs.text.expr.put_comparison.Goals as goal

pub returns-in_err-put_relation-clause-err : goal.returns-in_err-put_relation-clause-err
returns-in_err-put_relation-clause-err c = on_err _ _ (grown_more _ _ _ _ c.in_ok-put_part.ensures.ok c.in_err-put_relation.ensures.err)

pub returns-clause-ok : goal.returns-clause-ok
returns-clause-ok c = rw (c.in_ok-put_relation.ensures.ok, c.in_ok-put_part.ensures.ok) (simp append_assoc)
