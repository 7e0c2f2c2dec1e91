use Rattle.nv_map.proofs.Rising.{rise_none}
use Rattle.inc_group.proofs.members.Members.new.Goals as goal

pub invariant_of-result : goal.invariant_of-result
invariant_of-result g c = rw c.new.ensures (rise_none g.row.V.Denot g.K.Ord.cmp)
