use Rattle.nv_table.proofs.Keyed.{after_found}
use Rattle.nv_table.proofs.Tagged.{mapped_none, mapped_some}
use Rattle.nv_table.proofs.table.Table.after.Goals as goal

pub returns-in-None-clause-record : goal.returns-in-None-clause-record
returns-in-None-clause-record g c = rw (← c.self.view_is) (after_found g.R.Record.number c.self.inside.records c.self.invariant.0.numbered _ _ _ (mapped_none _ c.first_after.ensures.entry c.in-None.is) c.as_ref.ensures.value)

pub returns-in-Some-clause-record : goal.returns-in-Some-clause-record
returns-in-Some-clause-record g c = rw (← c.self.view_is) (after_found g.R.Record.number c.self.inside.records c.self.invariant.0.numbered _ _ _ (mapped_some _ c.first_after.ensures.entry c.in-Some.is) c.as_ref.ensures.value)
