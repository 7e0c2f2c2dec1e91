use Rattle.std.proofs.Common.{append_assoc}
use Rattle.nv_base.proofs.Growth.{grown_more, on_err}
use Rattle.expr_core.proofs.Lists.{grown_kept}
use Rattle.act_core.proofs.text.step.put_jump.Goals as goal

pub returns-in_err-extend_from_slice-2-clause-err : goal.returns-in_err-extend_from_slice-2-clause-err
returns-in_err-extend_from_slice-2-clause-err c = on_err _ _ (grown_kept _ _ _ _ c.in_ok-extend_from_slice.ensures.items c.in_err-extend_from_slice-2.ensures.items)

pub returns-in_err-extend_from_slice-3-clause-err : goal.returns-in_err-extend_from_slice-3-clause-err
returns-in_err-extend_from_slice-3-clause-err c = on_err _ _ (grown_more _ _ _ _ c.in_ok-extend_from_slice.ensures.items (grown_kept _ _ _ _ c.in_ok-extend_from_slice-2.ensures.items c.in_err-extend_from_slice-3.ensures.items))

pub returns-in_err-put_dec-clause-err : goal.returns-in_err-put_dec-clause-err
returns-in_err-put_dec-clause-err c = on_err _ _ (grown_more _ _ _ _ c.in_ok-extend_from_slice.ensures.items (grown_more _ _ _ _ c.in_ok-extend_from_slice-2.ensures.items (grown_kept _ _ _ _ c.in_ok-extend_from_slice-3.ensures.items c.in_err-put_dec.ensures.err)))

pub returns-in_err-extend_from_slice-4-clause-err : goal.returns-in_err-extend_from_slice-4-clause-err
returns-in_err-extend_from_slice-4-clause-err c = on_err _ _ (grown_more _ _ _ _ c.in_ok-extend_from_slice.ensures.items (grown_more _ _ _ _ c.in_ok-extend_from_slice-2.ensures.items (grown_more _ _ _ _ c.in_ok-extend_from_slice-3.ensures.items (grown_kept _ _ _ _ c.in_ok-put_dec.ensures.ok c.in_err-extend_from_slice-4.ensures.items))))

pub returns-clause-ok : goal.returns-clause-ok
returns-clause-ok c = rw (c.in_ok-extend_from_slice-4.ensures.items, c.in_ok-put_dec.ensures.ok, c.in_ok-extend_from_slice-3.ensures.items, c.in_ok-extend_from_slice-2.ensures.items, c.in_ok-extend_from_slice.ensures.items, c.as_bytes.ensures.value, c.pipeline_name.ensures, c.from.ensures) (simp append_assoc)
