-- The walk of a packet through the datapaths of a network: an arriving part, then a leaving part for each port that it goes out by,
-- and on over the port's peer (ovn-architecture(7), 'Life Cycle of a Packet'). What the parts do is for others to say: the direct
-- meaning, and the pipelines.
use Rattle.std.specs.Prelude.{ℕ, zero, suc, Bool, not, ◌&&◌, ◌==◌, if◌then◌else◌, List, [], ◌∷◌, ◌++◌, map, filter, Option, Some, None, option_map}
use Rattle.std.specs.List.{flat_map}
use Rattle.nv_base.specs.declared.object.ObjId.{ObjId}
use Rattle.nv_base.specs.declared.field.Field.TheVariants.{Inport, Outport, FlagsLoopback}
use Rattle.pkt_core.specs.Packet.{Values, value, with_value, with_values, headers}
use Rattle.pkt_core.specs.Replies.{start}
use Rattle.nb_model.specs.Network.{Network, same}
use Rattle.net_meaning.specs.Places.{Side, side_of, datapath_at}
use Rattle.net_meaning.specs.Places.Side.{Host, Peer, NoPeer}
use Rattle.net_meaning.specs.declared.answer.Answer.{Answer}
use Rattle.net_meaning.specs.declared.answer.Answer.TheVariants as answer
use Rattle.net_meaning.specs.declared.cause.Cause.{Cause}
use Rattle.net_meaning.specs.declared.cause.Cause.TheVariants as cause
use Rattle.net_meaning.specs.declared.event.PlainEvent.{PlainEvent}
use Rattle.net_meaning.specs.declared.event.PlainEvent.TheVariants.{Output, Drop, Reject, HopLimit}

-- where a packet goes: out by one port, or a copy of it by each of several, or late by one port
pub data Target : Type 0 where
  OnePort : ObjId → Target
  Ports : List ObjId → Target
  Late : ObjId → Target

-- what becomes of a packet in a part: it goes on, it is dropped, or a packet that is made goes by a port in its place
pub data Passed : Type 0 where
  GoesOn : Target → Values → Passed
  Drops : Cause → Passed
  Makes : Answer → ObjId → Values → Passed

-- what a part does: notes that are told on the way, what becomes of the packet, if anything does, and the state that is left
pub record Part (N S : Type 0) : Type 0 where
  pub notes : List N
  pub passed : Option Passed
  pub state : S

-- The parts: what a datapath does with a packet that arrives at a port, that leaves by a port, and that leaves late, which takes the
-- last step of leaving alone. A packet that leaves has the port that it leaves by as `outport`.
pub record Parts (N S : Type 0) : Type 0 where
  pub arriving : ObjId → Values → S → Part N S
  pub leaving : ObjId → Values → S → Part N S
  pub late : ObjId → Values → S → Part N S

-- what is told of a walk: notes of its parts, and what becomes of packets
pub data Told (N : Type 0) : Type 0 where
  Note : N → Told N
  Happens : PlainEvent → Told N

-- what is told of a walk, and the state that it leaves
pub record Walked (N S : Type 0) : Type 0 where
  pub told : List (Told N)
  pub state : S

-- a walk of which no more is told than this
abbrev pub ends : {N S : Type 0} → List PlainEvent → S → Walked N S
ends happens state = record { told = map Happens happens; state = state }

-- a packet that is made is told of, unless it is an ARP request
abbrev pub told_of : {N : Type 0} → Answer → ObjId → List (Told N)
told_of answer.Reject arrival = Happens (Reject arrival) ∷ []
told_of answer.Arp arrival = []

-- first these are told
abbrev pub after_told : {N S : Type 0} → List (Told N) → Walked N S → Walked N S
after_told told rest = record { told = told ++ rest.told; state = rest.state }

-- From part to part a packet takes its header fields, and of its working fields `inport`, the port that it came in by, and
-- `flags.loopback`, whether it may go back by that port.
abbrev pub carried : Values → Values
carried packet = with_values (headers packet) ((Inport, value packet Inport) ∷ (FlagsLoopback, value packet FlagsLoopback) ∷ [])

abbrev pub carrying : Passed → Passed
carrying (GoesOn target packet) = GoesOn target (carried packet)
carrying (Drops why) = Drops why
carrying (Makes answer port packet) = Makes answer port (carried packet)

-- a part, and what follows from it
abbrev pub then_part : {N S : Type 0} → Part N S → (Option Passed → S → Walked N S) → Walked N S
then_part part onward = after_told (map Note part.notes) (onward (option_map carrying part.passed) part.state)

-- How a packet goes on that takes a hop: into a datapath by a port, or, a packet that was made where one came in by a port, out by a
-- port.
pub record Onward (N S : Type 0) : Type 0 where
  pub enters : ObjId → Values → S → Walked N S
  pub leaves : ObjId → Values → S → ObjId → Walked N S
  pub leaves_late : ObjId → Values → S → ObjId → Walked N S

module _ {N S : Type 0} (net : Network) (parts : Parts N S) (onward : Option (Onward N S)) where
  -- a packet comes in by the peer of a port
  abbrev pub crosses : ObjId → Values → S → Option (Onward N S) → Walked N S
  crosses peer packet state None = ends (HopLimit peer ∷ []) state
  crosses peer packet state (Some next) = next.enters peer packet state

  -- a packet is delivered at a port: to a host, with its header fields alone, or over to the peer
  abbrev pub delivered_to : ObjId → Values → S → Side → Walked N S
  delivered_to port packet state Host = ends (Output port (headers packet) ∷ []) state
  delivered_to port packet state NoPeer = ends (Drop (datapath_at net port) cause.NoPeer ∷ []) state
  delivered_to port packet state (Peer peer) = crosses peer packet state onward

  -- a packet that is made takes a hop: an ARP request leaves as others do, and any other late
  abbrev pub made : ObjId → Answer → Option (Onward N S) → ObjId → Values → S → Walked N S
  made arrival answer None port packet state = ends (HopLimit arrival ∷ []) state
  made arrival answer.Arp (Some next) port packet state = next.leaves arrival packet state port
  made arrival answer.Reject (Some next) port packet state = next.leaves_late arrival packet state port

  -- what follows a part of leaving by a port, of a packet that came in by another
  abbrev pub left : ObjId → ObjId → Option Passed → S → Walked N S
  left arrival port None state = ends [] state
  left arrival port (Some (GoesOn target packet)) state = delivered_to port packet state (side_of net port)
  left arrival port (Some (Drops why)) state = ends (Drop (datapath_at net port) why ∷ []) state
  left arrival port (Some (Makes answer by packet)) state = after_told (told_of answer arrival) (made arrival answer onward by packet state)

  -- a packet leaves by a port
  abbrev pub leaves : ObjId → Values → S → ObjId → Walked N S
  leaves arrival packet state port = then_part (parts.leaving port (with_value packet Outport port.0) state) (left arrival port)

  -- a packet leaves late by a port
  abbrev pub leaves_late : ObjId → Values → S → ObjId → Walked N S
  leaves_late arrival packet state port = then_part (parts.late port (with_value packet Outport port.0) state) (left arrival port)

  -- copies of a packet leave by ports, one after the other, each to its end
  abbrev pub copies : ObjId → Values → S → List ObjId → Walked N S
  copies arrival packet state [] = ends [] state
  copies arrival packet state (port ∷ ports) =
      after_told (leaves arrival packet state port).told (copies arrival packet (leaves arrival packet state port).state ports)

  -- a packet that would go back by the port that it came in by, and was not turned back on purpose
  abbrev pub is_same_port : ObjId → ObjId → Values → Bool
  is_same_port arrival port packet = same port arrival && (value packet FlagsLoopback == 0)

  -- a packet goes by one port, unless it would go back by its own
  abbrev pub sent_by : ObjId → ObjId → Values → S → (ObjId → Values → S → ObjId → Walked N S) → Walked N S
  sent_by arrival port packet state leaving =
      if is_same_port arrival port packet then ends (Drop (datapath_at net arrival) cause.SamePort ∷ []) state else leaving arrival packet state port

  -- A packet goes to where it is sent. None goes back by its own port, and no copy of a flood does.
  abbrev pub sent : ObjId → Target → Values → S → Walked N S
  sent arrival (OnePort port) packet state = sent_by arrival port packet state leaves
  sent arrival (Late port) packet state = sent_by arrival port packet state leaves_late
  sent arrival (Ports ports) packet state = copies arrival packet state (filter (λ port. not (same port arrival)) ports)

  -- what follows the part of arriving at a port
  abbrev pub arrived : ObjId → Option Passed → S → Walked N S
  arrived arrival None state = ends [] state
  arrived arrival (Some (GoesOn target packet)) state = sent arrival target packet state
  arrived arrival (Some (Drops why)) state = ends (Drop (datapath_at net arrival) why ∷ []) state
  arrived arrival (Some (Makes answer by packet)) state = after_told (told_of answer arrival) (made arrival answer onward by packet state)

  -- a packet comes into a datapath by a port
  abbrev pub enters : ObjId → Values → S → Walked N S
  enters arrival packet state = then_part (parts.arriving arrival (start packet arrival.0) state) (arrived arrival)

-- how a packet goes on while so many hops are left
abbrev pub hops_left : {N S : Type 0} → Network → Parts N S → ℕ → Option (Onward N S)
hops_left net parts zero = None
hops_left net parts (suc hops) =
    Some (record {
      enters = enters net parts (hops_left net parts hops);
      leaves = leaves net parts (hops_left net parts hops);
      leaves_late = leaves_late net parts (hops_left net parts hops);
    })

-- the walk of a packet that comes in by a port and may take so many hops
abbrev pub walk : {N S : Type 0} → Network → Parts N S → ℕ → ObjId → Values → S → Walked N S
walk net parts hops = enters net parts (hops_left net parts hops)

-- without the notes
abbrev pub event_of : {N : Type 0} → Told N → List PlainEvent
event_of (Note note) = []
event_of (Happens event) = event ∷ []

abbrev pub events : {N : Type 0} → List (Told N) → List PlainEvent
events told = flat_map event_of told
