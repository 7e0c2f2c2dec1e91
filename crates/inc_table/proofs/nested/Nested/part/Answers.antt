use Rattle.std.proofs.Common.{List, ap, ◌∙◌}
use Rattle.nv_map.specs.Map.{value_at}
use Rattle.inc_table.proofs.nested.Nested.part.Goals as goal

pub returns : goal.returns
returns g c = c.get.ensures.value ∙ ap (λ (l : List (g.row.A.Denot × List (g.row.B.Denot × g.row.V.Denot))). value_at g.A.Ord.cmp c.args.outer.now l) c.self.view_is
