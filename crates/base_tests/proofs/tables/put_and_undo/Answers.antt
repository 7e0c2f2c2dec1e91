use Rattle.std.proofs.Common.{◌∙◌}
use Rattle.nv_table.proofs.Undone.{put_back, is_found}
use Rattle.base_tests.proofs.tables.put_and_undo.Goals as goal

pub returns-clause-loose : goal.returns-clause-loose
returns-clause-loose g c = c.take.ensures.record ∙ rw (c.number-number.ensures, c.record.ensures, c.put.ensures.records) (is_found g.R.Record.number _ _ c.requires)

pub returns-clause-records : goal.returns-clause-records
returns-clause-records g c = c.take.ensures.records ∙ rw (c.number-number.ensures, c.record.ensures, c.put.ensures.records) (put_back g.R.Record.number _ _ c.requires)
