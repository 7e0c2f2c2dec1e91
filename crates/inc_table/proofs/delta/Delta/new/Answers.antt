use Rattle.nv_map.proofs.Rising.{rise_none}
use Rattle.inc_table.specs.declared.delta.Change.{Change}
use Rattle.inc_table.proofs.delta.Delta.new.Goals as goal

pub invariant_of-result : goal.invariant_of-result
invariant_of-result g c = rw c.new.ensures.items (rise_none (Change g.row.V.Denot) g.K.Ord.cmp)
