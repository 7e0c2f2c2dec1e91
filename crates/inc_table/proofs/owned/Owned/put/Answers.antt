use Rattle.std.proofs.Common.{List, ap, ◌∙◌}
use Rattle.nv_map.specs.Map.{with_entry}
use Rattle.inc_table.proofs.Ends.{above_last}
use Rattle.inc_table.proofs.owned.Owned.put.Goals as goal

pub returns-clause-ok : goal.returns-clause-ok
returns-clause-ok g c =
    c.in_ok-insert.ensures.entries ∙ ap (λ (l : List (g.row.K.Denot × g.row.V.Denot)). with_entry g.K.Ord.cmp (c.args.key, c.args.value) l) c.self.view_is ∙ above_last g.met.K.Ord.total (c.args.key, c.args.value) c.args.self.now c.requires
