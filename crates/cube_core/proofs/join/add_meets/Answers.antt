use Rattle.std.proofs.Common.{List, Ok, Err, subst}
use Rattle.std.proofs.lemmas.Result.{err_from_is_err_and}
use Rattle.cube_core.specs.declared.cube.Cube.{Cube}
use Rattle.cube_core.specs.inner.Answers.{Adds}
use Rattle.cube_core.proofs.Loops.{filled_all, filled_stopped, meets_each}
use Rattle.cube_core.proofs.join.add_meets.Goals as goal

pub add_meet-requires : goal.add_meet-requires
add_meet-requires c = c.loop-other.invariant.short

pub returns : goal.returns
returns c =
    subst (λ (more : List Cube). Adds c.args.list.now more c.loop-other.list (Ok tt)) (meets_each c.args.cube.now c.args.others.now)
    (filled_all _ _ _ _ _ c.loop-other-test.false c.loop-other.invariant)

pub returns-in_err-add_meet : goal.returns-in_err-add_meet
returns-in_err-add_meet c =
    let p = err_from_is_err_and c.from_residual.result c.from_residual.ensures.1 in
    rw (p.1, p.2)
    (subst (λ (more : List Cube). Adds c.args.list.now more c.add_meet.new.list (Err c.in_err-add_meet.field-0.0)) (meets_each c.args.cube.now c.args.others.now)
    (filled_stopped _ _ _ _ _ _ c.loop-other-test.true c.other-item.is c.loop-other.invariant c.add_meet.new.list _ c.in_err-add_meet.ensures))
