use Rattle.sb_rows.proofs.PlacedPut.{covers_some, table_with}
use Rattle.sb_rows.proofs.table.Table.renew.Goals as goal

pub invariant_of-self : goal.invariant_of-self
invariant_of-self c =
    table_with c.self.inside.rows.entries c.self.inside.index c.replace.new.dest c.self.invariant
    (covers_some c.self.inside.rows.entries c.replace.new.dest c.in-Ok.index c.replace.ensures.after c.in-Ok.ensures)
