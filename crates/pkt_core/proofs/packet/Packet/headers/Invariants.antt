use Rattle.nv_base.specs.Field.{is_header}
use Rattle.pkt_core.proofs.Only.{UpTo}
use Rattle.pkt_core.proofs.packet.Packet.headers.Given as goal

-- the fields before this one are done, and the others as they were
abbrev pub invariant-loop-field : goal.invariant-loop-field
invariant-loop-field l = UpTo l.self is_header l.headers l.field-index
