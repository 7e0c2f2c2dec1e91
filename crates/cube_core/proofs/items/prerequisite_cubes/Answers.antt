use Rattle.std.proofs.Common.{◌≡◌, List, [], ◌∷◌, map, Option, Some, Ok, Err, true, refl, sym, ap, subst, ◌∙◌}
use Rattle.std.proofs.lemmas.Result.{err_from_is_err_and}
use Rattle.expr_core.specs.Tests.{prerequisite_tests}
use Rattle.expr_core.specs.declared.test.Test.{Test}
use Rattle.cube_core.specs.declared.cube.Cube.{Cube}
use Rattle.cube_core.specs.Cubes.{test_cube}
use Rattle.cube_core.specs.Limit.{join_all}
use Rattle.cube_core.specs.inner.Answers.{IsAnswer}
use Rattle.cube_core.proofs.Loops.{joining_all, joining_long_at}
use Rattle.cube_core.proofs.items.prerequisite_cubes.Goals as goal

-- the lists, one by one, of what the references point to
pointed : {X : Type 0} (now : X → List Test) (rs : List X) → map (λ r. Some (map test_cube (now r))) rs ≡ map (λ (alternatives : List Test). Some (map test_cube alternatives)) (map now rs)
pointed now [] = refl
pointed now (r ∷ rs) = ap (λ l. Some (map test_cube (now r)) ∷ l) (pointed now rs)

pub returns : goal.returns
returns c =
    subst (λ (lists : List (Option (List Cube))). IsAnswer (join_all true lists) (Ok c.loop-tests.sofar))
    (pointed (λ r. r.now) c.prerequisite_tests-tests-items.result.now
    ∙ ap (map (λ (alternatives : List Test). Some (map test_cube alternatives))) (c.prerequisite_tests-tests-items.ensures ∙ ap prerequisite_tests c.prerequisite.ensures))
    (joining_all _ _ _ _ _ c.loop-tests-test.false c.loop-tests.invariant)

pub returns-in_err-sofar-2 : goal.returns-in_err-sofar-2
returns-in_err-sofar-2 c =
    let p = err_from_is_err_and c.from_residual-in_err-sofar-2.result c.from_residual-in_err-sofar-2.ensures.1 in
    rw (p.1, p.2)
    (subst (λ (lists : List (Option (List Cube))). IsAnswer (join_all true lists) (Err c.in_err-sofar-2.field-0.0))
    (pointed (λ r. r.now) c.prerequisite_tests-tests-items.result.now
    ∙ ap (map (λ (alternatives : List Test). Some (map test_cube alternatives))) (c.prerequisite_tests-tests-items.ensures ∙ ap prerequisite_tests c.prerequisite.ensures))
    (joining_long_at _ _ _ _ _ _ c.loop-tests-test.true c.loop-tests.invariant _ (ap Some (sym (c.as_slice.ensures ∙ c.in_ok-cubes.ensures))) _ c.in_err-sofar-2.ensures))
