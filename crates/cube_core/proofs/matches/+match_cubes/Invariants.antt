use Rattle.std.proofs.Common.{◌+◌, ◌*◌}
use Rattle.expr_core.specs.Formula.{formulas}
use Rattle.expr_core.specs.inner.FormulaCode.{formula_size, formulas_size}
use Rattle.cube_core.specs.Cubes.{names_of, match_cubes}
use Rattle.cube_core.proofs.Loops.{Joining}
use Rattle.cube_core.proofs.matches.+match_cubes.Given as goal

abbrev pub decreases-match_cubes : goal.decreases-match_cubes
decreases-match_cubes g l = 2 * formula_size l.typed.now

abbrev pub decreases-joined_operands : goal.decreases-joined_operands
decreases-joined_operands g l = 2 * formulas_size (formulas l.operands.now) + 1

abbrev pub invariant-joined_operands-loop-operand : goal.invariant-joined_operands-loop-operand
invariant-joined_operands-loop-operand g l = Joining l.is_and (match_cubes (names_of (g.E.Env.lookup l.env) (g.E.SetMembers.members l.env)) l.negated) l.operands l.sofar l.operand-index
