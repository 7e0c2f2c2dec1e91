use Rattle.std.proofs.Common.{length}
use Rattle.nv_reply.specs.inner.Left.{left}
use Rattle.nv_reply.proofs.Listings.{ListedTo}
use Rattle.nv_reply.proofs.listing.put_datapaths.Given as goal

-- what was listed so far
abbrev pub invariant-loop-number : goal.invariant-loop-number
invariant-loop-number g l = ListedTo l.rows l.only g.K.Sink.put_gives g.K.Sink.state l.records l.initial.sink l.sink l.some.items l.last

abbrev pub decreases-loop-number : goal.decreases-loop-number
decreases-loop-number g l = length (left l.last l.records)
