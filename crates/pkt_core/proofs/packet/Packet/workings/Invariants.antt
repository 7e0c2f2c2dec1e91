use Rattle.pkt_core.specs.Packet.{is_working}
use Rattle.pkt_core.proofs.Only.{UpTo}
use Rattle.pkt_core.proofs.packet.Packet.workings.Given as goal

-- the fields before this one are done, and the others as they were
abbrev pub invariant-loop-field : goal.invariant-loop-field
invariant-loop-field l = UpTo l.self is_working l.workings l.field-index
