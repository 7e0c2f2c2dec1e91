use Rattle.std.proofs.Common.{List, Option, ap, subst}
use Rattle.inc_table.specs.Delta.{IsDifference}
use Rattle.inc_join.specs.Join.{Joining, same_joined}
use Rattle.inc_join.proofs.node.JoinNode.change_right.Goals as goal

pub returns-clause-changed : goal.returns-clause-changed
returns-clause-changed g c =
    let P : List (g.row.L-LeftKey.Denot × (g.row.L-Left.Denot × Option g.row.L-Right.Denot)) → Type 0 = λ t. IsDifference g.L.LeftKey.Ord.cmp (same_joined g.L.Left.PartialEq.eq g.L.Right.PartialEq.eq) t c.apply_right.new.table c.in_ok-changed.changed in
    subst P (ap (λ (n : Joining g.row.L-LeftKey.Denot g.row.L-Left.Denot g.row.L-RightKey.Denot g.row.L-Right.Denot g.row.L.Denot). n.table) c.self.view_is) c.in_ok-changed.ensures.changed
