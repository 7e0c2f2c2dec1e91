-- That the rows of a network do what the network means.
use Rattle.std.specs.Prelude.{◌≡◌, ℕ, List, Contains, Some, option_map}
use Rattle.ct_core.specs.State.{State}
use Rattle.nv_base.specs.declared.object.ObjId.{ObjId}
use Rattle.nv_base.specs.declared.field.Field.TheVariants.{Inport, Outport, CtState, CtMarkBlocked, Reg0}
use Rattle.pkt_core.specs.Packet.{Values, IsPacket, value}
use Rattle.nb_records.specs.declared.switch.Port.{Port}
use Rattle.nb_model.specs.Network.{Network}
use Rattle.net_meaning.specs.Switches.{Did, arriving_at, leaving_by, leaving_late}
use Rattle.net_meaning.specs.Walk.{Part, Walked, carrying, events}
use Rattle.net_router.specs.Meaning.{meaning}
pub use Rattle.net_walks.specs.Alike.{AreAlike, IsPort}
use Rattle.tr_router.specs.Parts.{IsState}
use Rattle.tr_walk.specs.Events.{without_hits}
use Rattle.tr_stage.specs.declared.outcome.Hit.{Hit}
use Rattle.tr_walk.specs.Machine.{ingress, egress, machine}
use Rattle.tr_walk.specs.declared.event.Event.{Event}
use Rattle.sb_model.specs.Stage.{last_table}
use Rattle.sb_model.specs.declared.stage.DatapathKind.TheVariants as datapath

-- a part of the machine makes of a packet, in what goes on to the next part, what a part of the meaning makes of it, and leaves its state
pub record DoesPart (part : Part Hit State) (did : Did) : Type 0 where
  pub passes : option_map carrying part.passed ≡ Some (carrying did.passed)
  pub leaves : part.state ≡ did.state

-- no stage has noted anything in the packet: that it is to be tracked or kept, or what a look-up told
pub record IsFresh (packet : Values) : Type 0 where
  pub register : value packet Reg0 ≡ 0
  pub flags : value packet CtState ≡ 0
  pub mark : value packet CtMarkBlocked ≡ 0

-- from each state of numbers that fit
abbrev pub IsIngress : Network → Type 0
IsIngress net =
    (port : Port) (packet : Values) (state : State) → Contains net.ports port → IsState state → IsPacket packet → IsFresh packet → value packet Inport ≡ port.id.0
    → DoesPart (ingress net port.id packet state) (arriving_at net port packet state)

abbrev pub IsEgress : Network → Type 0
IsEgress net =
    (port : Port) (packet : Values) (state : State) → Contains net.ports port → IsState state → IsPacket packet → IsFresh packet → value packet Outport ≡ port.id.0
    → DoesPart (egress net 0 port.id packet state) (leaving_by net port packet state)

abbrev pub IsLate : Network → Type 0
IsLate net =
    (port : Port) (packet : Values) (state : State) → Contains net.ports port → IsPacket packet → value packet Outport ≡ port.id.0
    → DoesPart (egress net (last_table datapath.Switch) port.id packet state) (leaving_late port packet state)

-- what was told of a packet, and the states before and after
pub record Trace : Type 0 where
  pub before : State
  pub told : List Event
  pub after : State

-- what was told is, hits left out, what happens in a walk, and the state after it is the one that the walk leaves
pub record TellsOf {M : Type 0} (trace : Trace) (walked : Walked M State) : Type 0 where
  pub told : without_hits trace.told ≡ events walked.told
  pub left : trace.after ≡ walked.state

-- what was told of a packet that comes in by a port of a datapath is what the network does with it
abbrev pub IsMeant : Network → ℕ → ObjId → Values → Trace → Type 0
IsMeant net hops port packet trace = IsPort net port → TellsOf trace (meaning net hops port packet trace.before)

-- What the rows do with each packet that comes in by a port of a datapath is, hits left out, what the network does with it, from each state
-- of numbers that fit.
abbrev pub IsRefined : Network → Type 0
IsRefined net =
    (hops : ℕ) (arrival : ObjId) (packet : Values) (state : State) → IsPort net arrival → IsPacket packet → IsState state
    → AreAlike (machine net hops arrival packet state) (meaning net hops arrival packet state)

-- such a state leaves another
abbrev pub KeepsStates : Network → Type 0
KeepsStates net =
    (hops : ℕ) (arrival : ObjId) (packet : Values) (state : State) → IsPort net arrival → IsPacket packet → IsState state
    → IsState (machine net hops arrival packet state).state
