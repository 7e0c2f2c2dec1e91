use Rattle.std.proofs.Common.{List, ap, subst}
use Rattle.nv_base.specs.inner.Exact as tells
use Rattle.inc_table.specs.Delta.{IsDifference}
use Rattle.inc_table.proofs.Following.{difference_alters, difference_applied}
use Rattle.inc_group.specs.Group.{Grouping, same_members}
use Rattle.inc_group.proofs.node.GroupNode.change.Goals as goal

pub returns-clause-changed : goal.returns-clause-changed
returns-clause-changed g c =
    let P : List (g.row.G-Group.Denot × List (g.row.G-Key.Denot × g.row.G-Value.Denot)) → Type 0 = λ t. IsDifference g.G.Group.Ord.cmp (same_members g.G.Key.PartialEq.eq g.G.Value.PartialEq.eq) t c.apply.new.table c.in_ok-changed.changed in
    subst P (ap (λ (n : Grouping g.row.G-Key.Denot g.row.G-Value.Denot g.row.G-Group.Denot g.row.G.Denot). n.table) c.self.view_is) c.in_ok-changed.ensures.changed

pub returns-clause-applied : goal.returns-clause-applied
returns-clause-applied g c =
    let P : List (g.row.G-Group.Denot × List (g.row.G-Key.Denot × g.row.G-Value.Denot)) → Type 0 = λ t. IsDifference g.G.Group.Ord.cmp (same_members g.G.Key.PartialEq.eq g.G.Value.PartialEq.eq) t c.apply.new.table c.in_ok-changed.changed in
    difference_applied g.met.G.Group.Ord.total (same_members g.G.Key.PartialEq.eq g.G.Value.PartialEq.eq) (tells.list _ (tells.pair g.G.Key.PartialEq.eq g.G.Value.PartialEq.eq g.met.G.Key.Kept.exact g.met.G.Value.Kept.exact)) c.args.self.now.table c.apply.new.table c.in_ok-changed.changed
    (subst P (ap (λ (n : Grouping g.row.G-Key.Denot g.row.G-Value.Denot g.row.G-Group.Denot g.row.G.Denot). n.table) c.self.view_is) c.in_ok-changed.ensures.changed)

pub returns-clause-alters : goal.returns-clause-alters
returns-clause-alters g c =
    let P : List (g.row.G-Group.Denot × List (g.row.G-Key.Denot × g.row.G-Value.Denot)) → Type 0 = λ t. IsDifference g.G.Group.Ord.cmp (same_members g.G.Key.PartialEq.eq g.G.Value.PartialEq.eq) t c.apply.new.table c.in_ok-changed.changed in
    difference_alters g.met.G.Group.Ord.total (same_members g.G.Key.PartialEq.eq g.G.Value.PartialEq.eq) c.args.self.now.table c.apply.new.table c.in_ok-changed.changed c.in_ok-changed.ensures.told
    (subst P (ap (λ (n : Grouping g.row.G-Key.Denot g.row.G-Value.Denot g.row.G-Group.Denot g.row.G.Denot). n.table) c.self.view_is) c.in_ok-changed.ensures.changed)
