use Rattle.std.proofs.Common.{take}
use Rattle.nv_reply.specs.Events.{event_lines}
use Rattle.nv_reply.proofs.Pieces.{PutBut}
use Rattle.nv_reply.proofs.events.put_events.Given as goal

-- of the lines so far all was put but what is kept
abbrev pub invariant-loop-event : goal.invariant-loop-event
invariant-loop-event g l = PutBut g.K.Sink.put_gives g.K.Sink.state l.initial.sink l.sink (event_lines l.records (take l.event-index l.events)) l.text.items
