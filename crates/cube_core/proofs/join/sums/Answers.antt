use Rattle.std.proofs.Common.{List, Ok, Err, subst}
use Rattle.std.proofs.lemmas.Result.{err_from_is_err_and}
use Rattle.cube_core.specs.declared.cube.Cube.{Cube}
use Rattle.cube_core.specs.inner.Answers.{Adds}
use Rattle.cube_core.proofs.Loops.{filled_all, filled_stopped, themselves, answered_added, answered_fault}
use Rattle.cube_core.proofs.join.sums.Goals as goal

pub add-requires : goal.add-requires
add-requires c = c.loop-cube.invariant.short

pub returns : goal.returns
returns c =
    answered_added c.args.list c.args.more.now c.loop-cube.list
    (subst (λ (more : List Cube). Adds c.args.list more c.loop-cube.list (Ok tt)) (themselves c.args.more.now)
    (filled_all _ _ _ _ _ c.loop-cube-test.false c.loop-cube.invariant))

pub returns-in_err-add : goal.returns-in_err-add
returns-in_err-add c =
    let p = err_from_is_err_and c.from_residual.result c.from_residual.ensures.1 in
    rw (p.1, p.2)
    (answered_fault c.args.list c.args.more.now c.add.new.list _
    (subst (λ (more : List Cube). Adds c.args.list more c.add.new.list (Err c.in_err-add.field-0.0)) (themselves c.args.more.now)
    (filled_stopped _ _ _ _ _ _ c.loop-cube-test.true c.cube-item.is c.loop-cube.invariant c.add.new.list _ c.in_err-add.ensures)))
