use Rattle.std.proofs.Common.{subst}
use Rattle.ct_core.specs.Changes.{AreConnections}
use Rattle.ct_core.specs.Neighbours.{AreNeighbours}
use Rattle.tr_walk.proofs.walk.fits_numbers.Goals as goal

pub returns : goal.returns
returns c = record { conns = subst AreConnections c.conns.ensures c.len-conns.ensures.connections; nbrs = subst AreNeighbours c.nbrs.ensures c.len-nbrs.ensures.neighbours }
