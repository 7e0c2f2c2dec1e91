-- The events of a walk by rows: a hit for each row that acts, and what becomes of packets (ovn-trace(8)).
use Rattle.std.specs.Prelude.{Bool, true, false, not, ◌&&◌, List, filter, Option, Some, None}
use Rattle.std.specs.List.{filter_map}
use Rattle.net_meaning.specs.declared.event.PlainEvent.{PlainEvent}
use Rattle.net_meaning.specs.declared.event.PlainEvent.TheVariants as plain
use Rattle.net_meaning.specs.Walk.{Told}
use Rattle.net_meaning.specs.Walk.Told.{Note, Happens}
use Rattle.tr_stage.specs.declared.outcome.Hit.{Hit}
use Rattle.tr_walk.specs.declared.event.Event.{Event}
use Rattle.tr_walk.specs.declared.event.Event.TheVariants as events

-- what becomes of a packet, as an event
abbrev pub of_plain : PlainEvent → Event
of_plain (plain.Output port packet) = events.Output port packet
of_plain (plain.Drop dp cause) = events.Drop dp cause
of_plain (plain.Reject port) = events.Reject port
of_plain (plain.HopLimit port) = events.HopLimit port

-- an event of a walk by rows: a hit, or what becomes of a packet
abbrev pub event_of : Told Hit → Event
event_of (Note hit) = events.Hit hit
event_of (Happens event) = of_plain event

-- a hit
abbrev pub is_hit : Event → Bool
is_hit (events.Hit hit) = true
is_hit _ = false

-- the events that are told: all, or where the trace is minimal those without hits
abbrev pub told_only : Bool → List Event → List Event
told_only minimal all = filter (λ event. not (is_hit event && minimal)) all

-- what an event says of packets; a hit says nothing
abbrev pub plain_event : Event → Option PlainEvent
plain_event (events.Hit hit) = None
plain_event (events.Output port packet) = Some (plain.Output port packet)
plain_event (events.Drop dp cause) = Some (plain.Drop dp cause)
plain_event (events.Reject port) = Some (plain.Reject port)
plain_event (events.HopLimit port) = Some (plain.HopLimit port)

-- the events, hits left out
abbrev pub without_hits : List Event → List PlainEvent
without_hits all = filter_map plain_event all
