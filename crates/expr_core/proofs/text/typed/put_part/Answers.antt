use Rattle.std.proofs.Common.{append_assoc}
use Rattle.nv_base.proofs.Growth.{grown_more, on_err}
use Rattle.expr_core.proofs.text.typed.put_part.Goals as goal

pub returns-in_err-put_bits-clause-err : goal.returns-in_err-put_bits-clause-err
returns-in_err-put_bits-clause-err c = on_err _ _ (grown_more _ _ _ _ c.in_ok-extend_from_slice.ensures.items c.in_err-put_bits.ensures.err)

pub returns-clause-ok : goal.returns-clause-ok
returns-clause-ok c = rw (c.in_ok-put_bits.ensures.ok, c.in_ok-extend_from_slice.ensures.items, c.as_bytes.ensures.value, c.name.ensures) (simp append_assoc)
