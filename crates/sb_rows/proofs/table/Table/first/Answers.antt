use Rattle.sb_rows.proofs.table.Table.first.Goals as goal

pub first-requires-clause-covered : goal.first-requires-clause-covered
first-requires-clause-covered g c = c.self.invariant.covered c.in-Some.index c.in-Some.is
