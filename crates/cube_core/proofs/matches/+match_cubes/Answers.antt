use Rattle.std.proofs.Common.{List, Option, Some, Err, ap, sym, subst, ◌∙◌, arith}
use Rattle.std.proofs.lemmas.Result.{err_from_is_err_and}
use Rattle.expr_core.specs.inner.FormulaCode.{formula_size}
use Rattle.expr_core.proofs.Pairs.{one_falls}
use Rattle.cube_core.specs.declared.cube.Cube.{Cube}
use Rattle.cube_core.specs.Cubes.{names_of}
use Rattle.cube_core.specs.Limit.{join_all}
use Rattle.cube_core.specs.inner.Answers.{IsAnswer}
use Rattle.cube_core.proofs.Loops.{operands_each, joining_all, joining_stopped, joining_long}
use Rattle.cube_core.proofs.matches.+match_cubes.Goals as goal

pub match_cubes-joined_operands-requires : goal.match_cubes-joined_operands-requires
match_cubes-joined_operands-requires g t c =
    let is = rw (c.in-And.is) at c.typed.view_is in
    λ κs lives. (rw c.deref-in-And.ensures.value (omega (arith, ap formula_size is, c.decreases)), lives)

pub match_cubes-joined_operands-requires-in-Or : goal.match_cubes-joined_operands-requires-in-Or
match_cubes-joined_operands-requires-in-Or g t c =
    let is = rw (c.in-Or.is) at c.typed.view_is in
    λ κs lives. (rw c.deref-in-Or.ensures.value (omega (arith, ap formula_size is, c.decreases)), lives)

pub joined_operands-match_cubes-requires : goal.joined_operands-match_cubes-requires
joined_operands-match_cubes-requires g t c = λ κs lives. (omega (arith, one_falls c.args.operands.now _ _ c.loop-operand-test.true c.operand-item.is, c.decreases), lives)

pub joined_operands-returns : goal.joined_operands-returns
joined_operands-returns g t c = rw operands_each (joining_all _ _ _ _ _ c.loop-operand-test.false c.loop-operand.invariant)

pub joined_operands-returns-in_err-cubes : goal.joined_operands-returns-in_err-cubes
joined_operands-returns-in_err-cubes g t c =
    let p = err_from_is_err_and c.from_residual-in_err-cubes.result c.from_residual-in_err-cubes.ensures.1 in
    rw (p.1, p.2) (subst (λ (lists : List (Option (List Cube))). IsAnswer (join_all c.args.is_and lists) (Err c.in_err-cubes.field-0.0)) (sym (operands_each (names_of (g.E.Env.lookup c.args.env.now) (g.E.SetMembers.members c.args.env.now)) c.args.negated c.args.operands.now))
    (joining_stopped _ _ _ _ _ _ c.loop-operand-test.true c.operand-item.is c.loop-operand.invariant _ c.in_err-cubes.ensures))

pub joined_operands-returns-in_err-sofar-2 : goal.joined_operands-returns-in_err-sofar-2
joined_operands-returns-in_err-sofar-2 g t c =
    let p = err_from_is_err_and c.from_residual-in_err-sofar-2.result c.from_residual-in_err-sofar-2.ensures.1 in
    rw (p.1, p.2) (subst (λ (lists : List (Option (List Cube))). IsAnswer (join_all c.args.is_and lists) (Err c.in_err-sofar-2.field-0.0)) (sym (operands_each (names_of (g.E.Env.lookup c.args.env.now) (g.E.SetMembers.members c.args.env.now)) c.args.negated c.args.operands.now))
    (joining_long _ _ _ _ _ _ c.loop-operand-test.true c.operand-item.is c.loop-operand.invariant _ (c.in_ok-cubes.ensures.0 ∙ ap Some (sym c.as_slice.ensures)) _ c.in_err-sofar-2.ensures))
