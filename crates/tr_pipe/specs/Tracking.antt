-- What tracking does with a packet and the connections (ovn-sb(5), `ct_next` and `ct_commit`).
use Rattle.std.specs.Prelude.{ℕ, Bool, false, if◌then◌else◌, [], ◌∷◌, Option, Some, None, option_map}
use Rattle.nv_base.specs.declared.field.Field.TheVariants.{Inport, Outport, CtState, CtMarkBlocked}
use Rattle.pkt_core.specs.Packet.{Values, value, with_values}
use Rattle.pkt_core.specs.Prerequisite.{is_ip4}
use Rattle.pkt_core.specs.Tuple.{swap, tuple}
use Rattle.ct_core.specs.declared.entry.Entry.{Entry}
use Rattle.ct_core.specs.declared.look.Look.{Look}
use Rattle.ct_core.specs.declared.look.Look.TheVariants.{New, Found}
use Rattle.ct_core.specs.declared.zone.Zone.{Zone}
use Rattle.ct_core.specs.declared.zone.Zone.TheVariants.{Port}
use Rattle.ct_core.specs.Changes.{marked, recorded}
use Rattle.ct_core.specs.Look.{look, flags_of, is_marked}
use Rattle.ct_core.specs.State.{State, with_conns}
use Rattle.sb_model.specs.declared.stage.Pipeline.{Pipeline}
use Rattle.sb_model.specs.declared.stage.Pipeline.TheVariants.{Ingress, Egress}

-- A packet within a pipeline, with what the last look-up told of it, if it was looked up there, and the state.
pub record Flight : Type 0 where
  pub packet : Values
  pub look : Option Look
  pub state : State

-- a packet that comes to a pipeline was not looked up there
abbrev pub coming : Values → State → Flight
coming packet state = record { packet = packet; look = None; state = state }

-- with another packet
abbrev pub with_packet : Flight → Values → Flight
with_packet flight packet = record flight { packet = packet }

-- the zone of the port that a packet came in by, and in egress of the port that it goes out by
abbrev pub zone_of : Pipeline → Values → Zone
zone_of Ingress packet = Port (record { 0 = value packet Inport })
zone_of Egress packet = Port (record { 0 = value packet Outport })

abbrev pub bit : Bool → ℕ
bit set = if set then 1 else 0

-- what a look-up writes into a packet
abbrev pub marked_by : Look → Values → Values
marked_by found packet = with_values packet ((CtState, flags_of found) ∷ (CtMarkBlocked, bit (is_marked found)) ∷ [])

-- a packet that was looked up
abbrev pub seen : Look → Flight → Flight
seen found flight = record flight { packet = marked_by found flight.packet; look = Some found }

-- a packet is looked up in a zone, if it is one of IPv4
abbrev pub tracked : Zone → Flight → Flight
tracked zone flight = if is_ip4 flight.packet then seen (look flight.state.conns zone flight.packet) flight else flight

-- the connection that a packet begins in a zone
abbrev pub begun : Zone → Bool → Values → Entry
begun zone blocked packet = record { zone = zone; orig = tuple packet; reply = swap (tuple packet); blocked = blocked }

-- The state after a commit: a packet that may begin a connection is recorded, if there is room for it, the entry of one that is of a
-- connection is marked, and there is no change by any other.
abbrev pub committed : Zone → Bool → Values → State → Option Look → Option State
committed zone blocked packet state (Some New) = option_map (λ conns. with_conns conns state) (recorded (begun zone blocked packet) state.conns)
committed zone blocked packet state (Some (Found place side false old)) = Some (with_conns (marked place blocked state.conns) state)
committed zone blocked packet state _ = Some state
