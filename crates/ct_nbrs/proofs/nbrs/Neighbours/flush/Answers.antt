use Rattle.std.proofs.Common.{ap, subst, sym}
use Rattle.ct_core.specs.Neighbours.{AreNeighbours}
use Rattle.ct_core.proofs.Learnt.{none_are}
use Rattle.ct_nbrs.specs.Held.{neighbours_of}
use Rattle.ct_nbrs.proofs.nbrs.Neighbours.flush.Goals as goal

pub invariant_of-self : goal.invariant_of-self
invariant_of-self c = subst AreNeighbours (sym (ap neighbours_of c.clear.ensures.empty)) none_are
