-- What a tree is made of is smaller.
use Rattle.std.specs.Prelude.{◌≤◌, max}
use Rattle.std.proofs.Common.{arith}
use Rattle.expr_core.specs.Tree.{tree_formula}
use Rattle.expr_core.specs.declared.tree.Node.{Node}
use Rattle.expr_core.specs.declared.tree.Node.TheVariants.{Atom, Not, And, Or}
use Rattle.expr_core.specs.declared.tree.Tree.TheDeep.{deep-Node}
use Rattle.expr_core.specs.inner.FormulaCode.{formula_size}
use Rattle.expr_core.specs.inner.Sizes.{most_le}

pub falls : (A : Type 0) (n : Node A) → max (deep-Node A n) 0 ≤ formula_size (tree_formula n)
falls A (Atom a) = omega arith
falls A (Not t) = omega arith
falls A (And ts) = omega (arith, most_le ts.items)
falls A (Or ts) = omega (arith, most_le ts.items)
