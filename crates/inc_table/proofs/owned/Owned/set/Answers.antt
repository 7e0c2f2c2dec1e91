use Rattle.std.proofs.Common.{List, ap, refl, ◌∙◌}
use Rattle.nv_map.specs.Map.{with_entry}
use Rattle.nv_map.proofs.Parted.{pair_of}
use Rattle.inc_table.proofs.Applied.{applied_put}
use Rattle.inc_table.proofs.owned.Owned.set.Goals as goal

pub returns-clause-ok : goal.returns-clause-ok
returns-clause-ok g c =
    applied_put g.met.K.Ord.total (c.in_ok-copy.field-0, c.args.value) c.args.key.now c.args.value c.args.self.now c.insert.new.self.entries (pair_of c.in_ok-copy.ensures refl)
    (c.in_ok-insert.ensures.entries ∙ ap (λ (l : List (g.row.K.Denot × g.row.V.Denot)). with_entry g.K.Ord.cmp (c.in_ok-copy.field-0, c.args.value) l) c.self.view_is)
