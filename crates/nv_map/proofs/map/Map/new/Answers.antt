use Rattle.nv_map.proofs.Rising.{rise_none}
use Rattle.nv_map.proofs.map.Map.new.Goals as goal

pub invariant_of-result : goal.invariant_of-result
invariant_of-result g c = rise_none g.row.V.Denot g.K.Ord.cmp
