use Rattle.std.proofs.Common.{ap, subst, sym}
use Rattle.ct_core.specs.Neighbours.{AreNeighbours}
use Rattle.ct_core.proofs.Learnt.{none_are}
use Rattle.ct_nbrs.specs.Held.{neighbours_of}
use Rattle.ct_nbrs.proofs.nbrs.Neighbours.new.Goals as goal

pub invariant_of-result : goal.invariant_of-result
invariant_of-result c = subst AreNeighbours (sym (ap neighbours_of c.new.ensures.empty)) none_are
