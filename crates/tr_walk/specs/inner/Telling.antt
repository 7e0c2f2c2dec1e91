-- The events of the steps of a walk by rows.
use Rattle.std.specs.Prelude.{◌≡◌, ℕ, Bool, true, false, if◌then◌else◌, List, map, Option, option_map}
use Rattle.nv_base.specs.declared.object.ObjId.{ObjId}
use Rattle.nv_base.specs.declared.field.Field.TheVariants.{Outport}
use Rattle.pkt_core.specs.Packet.{Values, value, with_value}
use Rattle.nb_model.specs.Network.{Network}
use Rattle.nb_model.specs.Sound.{IsSound}
use Rattle.sb_model.specs.declared.row.Row.{Row}
use Rattle.net_meaning.specs.Places.{datapath_at, side_of}
use Rattle.net_meaning.specs.Walk.{Target, Walked, Onward, told_of, after_told, carried, carrying, then_part, delivered_to, made, left, sent, arrived, enters, hops_left}
use Rattle.net_meaning.specs.declared.answer.Answer.{Answer}
use Rattle.net_meaning.specs.declared.answer.Answer.TheVariants.{Reject, Arp}
use Rattle.lr_units.specs.Network.{network_rows}
use Rattle.tr_stage.specs.declared.outcome.Hit.{Hit}
use Rattle.tr_stage.specs.declared.outcome.Outcome.{Outcome}
use Rattle.tr_walk.specs.declared.event.Event.{Event}
use Rattle.tr_walk.specs.Events.{event_of, told_only}
use Rattle.ct_core.specs.State.{State}
use Rattle.tr_walk.specs.Machine.{numbered, after_ingress, after_egress, egress, late_table, pipelines}
use Rattle.tr_walk.specs.Runnable.{AreRunnable}

-- the rows are those of a sound network, and each packet comes to an end in them
pub record AreRowsOf (net : Network) (rows : List Row) : Type 0 where
  pub sound : IsSound net
  pub all : rows ≡ network_rows net
  pub run : AreRunnable net

abbrev pub events_of : Bool → Walked Hit State → List Event
events_of minimal walked = told_only minimal (map event_of walked.told)

-- how a packet goes on while so many hops are left
abbrev pub onward : Network → ℕ → Option (Onward Hit State)
onward net hops = hops_left net (pipelines net) hops

-- the table of egress that a packet leaves by, by a port
abbrev pub egress_table : Network → ObjId → Bool → ℕ
egress_table net port late = if late then late_table net (datapath_at net port) else 0

-- an answer leaves late, unless it is an ARP request
abbrev pub is_late : Answer → Bool
is_late Reject = true
is_late Arp = false

module _ (net : Network) (hops : ℕ) (state : State) where
  -- a packet comes in by a port
  abbrev pub entering : ObjId → Values → Walked Hit State
  entering arrival packet = enters net (pipelines net) (onward net hops) arrival packet state

  -- a packet has come to the end of ingress
  abbrev pub arriving : ObjId → Option Outcome → Walked Hit State
  arriving arrival outcome = arrived net (pipelines net) (onward net hops) arrival (option_map carrying (after_ingress net (datapath_at net arrival) outcome)) state

  -- a packet is sent to where it goes
  abbrev pub sending : ObjId → Target → Values → Walked Hit State
  sending arrival target packet = sent net (pipelines net) (onward net hops) arrival target packet state

  -- a packet leaves by a port, from a table of egress on
  abbrev pub leaving : ObjId → ObjId → ℕ → Values → Walked Hit State
  leaving arrival port table packet = then_part (egress net table port (with_value packet Outport port.0) state) (left net (pipelines net) (onward net hops) arrival port)

  -- a packet has come to the end of egress
  abbrev pub going_out : ObjId → ObjId → Option Outcome → Walked Hit State
  going_out arrival port outcome = left net (pipelines net) (onward net hops) arrival port (option_map carrying (after_egress net (datapath_at net port) outcome)) state

  -- a packet is delivered at a port
  abbrev pub delivering : ObjId → Values → Walked Hit State
  delivering port packet = delivered_to net (pipelines net) (onward net hops) port packet state (side_of net port)

  -- a packet is made in the place of another
  abbrev pub answering : ObjId → Answer → Values → Walked Hit State
  answering arrival answer packet =
      after_told (told_of answer arrival) (made net (pipelines net) (onward net hops) arrival answer (onward net hops) (numbered (value packet Outport)) (carried packet) state)
