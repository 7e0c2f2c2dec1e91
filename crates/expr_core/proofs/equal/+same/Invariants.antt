use Rattle.std.proofs.Common.{◌+◌, ◌*◌, length}
use Rattle.std.specs.Iterator.Adapters.{zip_first, zip_second}
use Rattle.std.specs.Slice.Iter.{iter_rest}
use Rattle.expr_core.specs.Formula.{formulas}
use Rattle.expr_core.specs.inner.FormulaCode.{formula_size, formulas_size}
use Rattle.expr_core.proofs.Pairs.{Left}
use Rattle.expr_core.proofs.equal.+same.Given as goal

abbrev pub decreases-same : goal.decreases-same
decreases-same g l = 2 * formula_size l.one.now

abbrev pub decreases-same_operands : goal.decreases-same_operands
decreases-same_operands g l = 2 * formulas_size (formulas l.ones.now) + 1

abbrev pub invariant-same_operands-loop-one : goal.invariant-same_operands-loop-one
invariant-same_operands-loop-one g l = Left g.A.PartialEq.eq (iter_rest (zip_first l.initial.one-iterator)) (iter_rest (zip_second l.initial.one-iterator)) (length l.yielded)
