use Rattle.pkt_core.specs.Prerequisite.{is_there}
use Rattle.pkt_core.proofs.Only.{UpTo}
use Rattle.pkt_core.proofs.packet.Packet.normal.Given as goal

-- the fields before this one are done, and the others as they were
abbrev pub invariant-loop-field : goal.invariant-loop-field
invariant-loop-field l = UpTo l.self (is_there l.self) l.normal l.field-index
