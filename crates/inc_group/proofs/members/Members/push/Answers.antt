use Rattle.inc_table.proofs.Ends.{rise_last}
use Rattle.inc_group.proofs.members.Members.push.Goals as goal

pub invariant_of-self-2 : goal.invariant_of-self-2
invariant_of-self-2 g c = rw c.in_ok-push.ensures.ok (rise_last g.met.K.Ord.total _ _ c.self.invariant (rw (← c.self.view_is) at c.requires))
