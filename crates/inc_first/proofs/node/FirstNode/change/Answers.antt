use Rattle.std.proofs.Common.{List, ap, subst}
use Rattle.inc_table.specs.Delta.{IsDifference}
use Rattle.inc_table.proofs.Following.{difference_alters, difference_applied}
use Rattle.inc_first.specs.First.{Leading}
use Rattle.inc_first.proofs.node.FirstNode.change.Goals as goal

pub returns-clause-changed : goal.returns-clause-changed
returns-clause-changed g c =
    let P : List (g.row.G-Group.Denot × g.row.G-Key.Denot) → Type 0 = λ t. IsDifference g.G.Group.Ord.cmp g.G.Key.PartialEq.eq t c.apply.new.table c.in_ok-changed.changed in
    subst P (ap (λ (n : Leading g.row.G-Key.Denot g.row.G-Value.Denot g.row.G-Group.Denot g.row.G.Denot). n.table) c.self.view_is) c.in_ok-changed.ensures.changed

pub returns-clause-applied : goal.returns-clause-applied
returns-clause-applied g c =
    let P : List (g.row.G-Group.Denot × g.row.G-Key.Denot) → Type 0 = λ t. IsDifference g.G.Group.Ord.cmp g.G.Key.PartialEq.eq t c.apply.new.table c.in_ok-changed.changed in
    difference_applied g.met.G.Group.Ord.total g.G.Key.PartialEq.eq g.met.G.Key.Kept.exact c.args.self.now.table c.apply.new.table c.in_ok-changed.changed
    (subst P (ap (λ (n : Leading g.row.G-Key.Denot g.row.G-Value.Denot g.row.G-Group.Denot g.row.G.Denot). n.table) c.self.view_is) c.in_ok-changed.ensures.changed)

pub returns-clause-alters : goal.returns-clause-alters
returns-clause-alters g c =
    let P : List (g.row.G-Group.Denot × g.row.G-Key.Denot) → Type 0 = λ t. IsDifference g.G.Group.Ord.cmp g.G.Key.PartialEq.eq t c.apply.new.table c.in_ok-changed.changed in
    difference_alters g.met.G.Group.Ord.total g.G.Key.PartialEq.eq c.args.self.now.table c.apply.new.table c.in_ok-changed.changed c.in_ok-changed.ensures.told
    (subst P (ap (λ (n : Leading g.row.G-Key.Denot g.row.G-Value.Denot g.row.G-Group.Denot g.row.G.Denot). n.table) c.self.view_is) c.in_ok-changed.ensures.changed)
