use Rattle.std.proofs.Common.{Some, sym, ap, ◌∙◌}
use Rattle.std.proofs.lemmas.Result.{err_from_is_err_and}
use Rattle.cube_core.proofs.Loops.{joining_none, joining_more, joining_all, joining_stopped, joining_long}
use Rattle.cube_core.proofs.items.joined_items.Goals as goal

pub join_one-requires : goal.join_one-requires
join_one-requires g c = c.loop-item.invariant.short

pub loop-item-init : goal.loop-item-init
loop-item-init g c = joining_none _ _ _ _ c.in_ok-sofar.ensures

pub loop-item-preserved : goal.loop-item-preserved
loop-item-preserved g c = joining_more _ _ _ _ _ _ c.loop-item-test.true c.item-item.is c.loop-item.invariant _ _ (c.in_ok-cubes.ensures.0 ∙ ap Some (sym c.as_slice.ensures)) c.in_ok-sofar-2.ensures

pub returns : goal.returns
returns g c = joining_all _ _ _ _ _ c.loop-item-test.false c.loop-item.invariant

pub returns-in_err-cubes : goal.returns-in_err-cubes
returns-in_err-cubes g c =
    let p = err_from_is_err_and c.from_residual-in_err-cubes.result c.from_residual-in_err-cubes.ensures.1 in
    rw (p.1, p.2) (joining_stopped _ _ _ _ _ _ c.loop-item-test.true c.item-item.is c.loop-item.invariant _ c.in_err-cubes.ensures)

pub returns-in_err-sofar-2 : goal.returns-in_err-sofar-2
returns-in_err-sofar-2 g c =
    let p = err_from_is_err_and c.from_residual-in_err-sofar-2.result c.from_residual-in_err-sofar-2.ensures.1 in
    rw (p.1, p.2) (joining_long _ _ _ _ _ _ c.loop-item-test.true c.item-item.is c.loop-item.invariant _ (c.in_ok-cubes.ensures.0 ∙ ap Some (sym c.as_slice.ensures)) _ c.in_err-sofar-2.ensures)
