use Rattle.std.proofs.Common.{Some, sym, ap, ◌∙◌}
use Rattle.std.proofs.lemmas.Result.{err_from_is_err_and}
use Rattle.cube_core.proofs.Loops.{joining_none, joining_more_at, joining_all, joining_long_at}
use Rattle.cube_core.proofs.items.joined_numbers.Goals as goal

pub join_one-requires : goal.join_one-requires
join_one-requires c = c.loop-number.invariant.short

pub loop-number-init : goal.loop-number-init
loop-number-init c = joining_none _ _ _ _ c.in_ok-sofar.ensures

pub loop-number-preserved : goal.loop-number-preserved
loop-number-preserved c = joining_more_at _ _ _ _ _ _ c.loop-number-test.true c.loop-number.invariant _ _ (ap Some (sym (c.as_slice.ensures ∙ c.in_ok-cubes.ensures))) c.in_ok-sofar-2.ensures

pub returns : goal.returns
returns c = joining_all _ _ _ _ _ c.loop-number-test.false c.loop-number.invariant

pub returns-in_err-sofar-2 : goal.returns-in_err-sofar-2
returns-in_err-sofar-2 c =
    let p = err_from_is_err_and c.from_residual-in_err-sofar-2.result c.from_residual-in_err-sofar-2.ensures.1 in
    rw (p.1, p.2) (joining_long_at _ _ _ _ _ _ c.loop-number-test.true c.loop-number.invariant _ (ap Some (sym (c.as_slice.ensures ∙ c.in_ok-cubes.ensures))) _ c.in_err-sofar-2.ensures)
