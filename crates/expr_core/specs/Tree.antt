use Rattle.expr_core.specs.Formula.{Formula, formulas}
use Rattle.expr_core.specs.Formula.Formula.{Leaf, Not, And, Or}
use Rattle.expr_core.specs.declared.tree.Node.{Node}
use Rattle.expr_core.specs.declared.tree.Node.TheVariants as node

-- the formula that a tree is
abbrev pub tree_formula : {A : Type 0} → Node A → Formula A
tree_formula (node.Atom a) = Leaf a
tree_formula (node.Not t) = Not t.value
tree_formula (node.And ts) = And (formulas ts.items)
tree_formula (node.Or ts) = Or (formulas ts.items)
