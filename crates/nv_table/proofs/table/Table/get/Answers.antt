use Rattle.std.proofs.Common.{◌∙◌}
use Rattle.nv_table.proofs.Keyed.{value_numbered}
use Rattle.nv_table.proofs.table.Table.get.Goals as goal

pub returns-clause-record : goal.returns-clause-record
returns-clause-record g c = rw (← c.self.view_is) (c.get.ensures.value ∙ value_numbered g.R.Record.number c.self.inside.records c.self.invariant.0.numbered c.args.number)
