use Rattle.std.proofs.Common.{List, map, Some, Err, sym, ap, subst, ◌∙◌}
use Rattle.std.proofs.lemmas.Result.{err_from_is_err_and}
use Rattle.expr_core.specs.declared.test.Test.{Test}
use Rattle.cube_core.specs.Cubes.{test_cubes}
use Rattle.cube_core.specs.Limit.{join_all}
use Rattle.cube_core.specs.inner.Answers.{IsAnswer}
use Rattle.cube_core.proofs.Loops.{joining_stopped_at, joining_long_at}
use Rattle.cube_core.proofs.items.predicate_cubes.Goals as goal

pub returns-in_err-cubes : goal.returns-in_err-cubes
returns-in_err-cubes c =
    let p = err_from_is_err_and c.from_residual-in_err-cubes.result c.from_residual-in_err-cubes.ensures.1 in
    rw (p.1, p.2)
    (subst (λ (ts : List Test). IsAnswer (join_all c.args.negated (map (test_cubes c.args.negated) ts)) (Err c.in_err-cubes.field-0.0)) c.tests-test-items.ensures
    (joining_stopped_at _ _ _ _ _ _ c.loop-test-test.true c.loop-test.invariant _ c.in_err-cubes.ensures))

pub returns-in_err-sofar-2 : goal.returns-in_err-sofar-2
returns-in_err-sofar-2 c =
    let p = err_from_is_err_and c.from_residual-in_err-sofar-2.result c.from_residual-in_err-sofar-2.ensures.1 in
    rw (p.1, p.2)
    (subst (λ (ts : List Test). IsAnswer (join_all c.args.negated (map (test_cubes c.args.negated) ts)) (Err c.in_err-sofar-2.field-0.0)) c.tests-test-items.ensures
    (joining_long_at _ _ _ _ _ _ c.loop-test-test.true c.loop-test.invariant _ (c.in_ok-cubes.ensures.0 ∙ ap Some (sym c.as_slice.ensures)) _ c.in_err-sofar-2.ensures))
