use Rattle.nv_map.proofs.Changes.{rise_with_entry}
use Rattle.nv_table.proofs.marks.put_once.Goals as goal

pub returns-then-is_none-clause-rise : goal.returns-then-is_none-clause-rise
returns-then-is_none-clause-rise g c = rw c.put.ensures.entries (rise_with_entry g.met.K.Ord.total _ _ c.put.ensures.rise)
