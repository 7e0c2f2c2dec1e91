-- What the pipelines of a router do with a packet is what the router does with it.
use Rattle.std.specs.Prelude.{◌≡◌, ℕ, zero, suc, ◌≤◌, Contains, Option, Some}
use Rattle.ct_core.specs.Changes.{AreConnections}
use Rattle.ct_core.specs.Neighbours.{AreNeighbours}
use Rattle.ct_core.specs.State.{State}
use Rattle.nv_base.specs.declared.object.ObjId.{ObjId}
use Rattle.nv_base.specs.declared.field.Field.TheVariants.{Inport, Outport, IpTtl, CtState}
use Rattle.pkt_core.specs.Packet.{Values, IsPacket, value}
use Rattle.nb_records.specs.declared.router.Router.{Router}
use Rattle.nb_records.specs.declared.router.RouterPort.{RouterPort}
use Rattle.nb_model.specs.Network.{Network}
use Rattle.sb_model.specs.declared.stage.Pipeline.TheVariants.{Ingress, Egress}
use Rattle.sb_model.specs.declared.stage.Stage.TheVariants.{LrInAdmission, LrInIpRouting}
use Rattle.net_meaning.specs.Switches.{Did}
use Rattle.net_meaning.specs.Walk.{Passed, carried}
use Rattle.net_meaning.specs.Walk.Passed.{GoesOn, Drops, Makes}
use Rattle.net_meaning.specs.Walk.Target.{OnePort, Ports, Late}
use Rattle.net_meaning.specs.declared.answer.Answer.TheVariants.{Reject, Arp}
use Rattle.net_router.specs.Routers.{arriving_at, leaving_by, leaving_late}
use Rattle.lr_laws.specs.Steps.{flows_at, late}
use Rattle.tr_stage.specs.Machine.{Flows}
use Rattle.tr_stage.specs.declared.outcome.Outcome.{Outcome}
use Rattle.tr_stage.specs.declared.outcome.Outcome.TheVariants as outcomes
use Rattle.tr_pipe.specs.Machine.{PipelineRun, StageEnd, run_pipeline, step}
use Rattle.tr_pipe.specs.Machine.StageEnd.{On, Ends}
use Rattle.tr_pipe.specs.Runnable.{IsRunnable}
use Rattle.tr_pipe.specs.Tracking.{Flight, coming}

-- the packet of the rows leaves by the port, and is that of the router in what goes on to the next part
pub record Carries (port : ObjId) (of_rows of_router : Values) : Type 0 where
  pub by_port : value of_rows Outport ≡ port.0
  pub alike : carried of_rows ≡ carried of_router

-- the outcome of ingress is what becomes of a packet that arrives
abbrev pub Arrives : Option Outcome → Passed → Type 0
Arrives outcome (Drops cause) = outcome ≡ Some (outcomes.Drop cause)
Arrives outcome (GoesOn (OnePort port) packet) = (own : Values) × (outcome ≡ Some (outcomes.Leave own 0)) × Carries port own packet
Arrives outcome (GoesOn (Late port) packet) = (own : Values) × (outcome ≡ Some (outcomes.Leave own late)) × Carries port own packet
Arrives outcome (GoesOn (Ports ports) packet) = ⊥
Arrives outcome (Makes Reject port packet) = (own : Values) × (outcome ≡ Some (outcomes.Made own late Reject)) × Carries port own packet
Arrives outcome (Makes Arp port packet) = (own : Values) × (outcome ≡ Some (outcomes.Made own 0 Arp)) × Carries port own packet

-- the outcome of egress is what becomes of a packet that leaves
abbrev pub Leaves : Option Outcome → Passed → Type 0
Leaves outcome (Drops cause) = outcome ≡ Some (outcomes.Drop cause)
Leaves outcome (GoesOn (OnePort port) packet) = (own : Values) × (outcome ≡ Some (outcomes.Deliver own)) × Carries port own packet
Leaves outcome _ = ⊥

-- a run ends as the router's part says, by what an outcome is to say, and leaves its state
pub record DoesPart (ends : Option Outcome → Passed → Type 0) (run : PipelineRun) (did : Did) : Type 0 where
  pub passes : ends run.outcome did.passed
  pub leaves : run.state ≡ did.state

-- connections and neighbours of numbers that fit, no more than there may be, as in each state that packets leave
pub record IsState (state : State) : Type 0 where
  pub conns : AreConnections state.conns
  pub nbrs : AreNeighbours state.nbrs

-- no look-up was noted in the packet
abbrev pub IsUnseen : Values → Type 0
IsUnseen packet = value packet CtState ≡ 0

abbrev pub DoArrive : Network → Type 0
DoArrive net =
    (port : RouterPort) (packet : Values) (state : State) → Contains net.router_ports port → IsPacket packet → IsUnseen packet → IsState state → value packet Inport ≡ port.id.0
    → DoesPart Arrives (run_pipeline (flows_at net port.router) Ingress 0 packet state) (arriving_at net port packet state)

abbrev pub DoLeave : Network → Type 0
DoLeave net =
    (port : RouterPort) (packet : Values) (state : State) → Contains net.router_ports port → IsPacket packet → IsUnseen packet → IsState state → value packet Outport ≡ port.id.0
    → DoesPart Leaves (run_pipeline (flows_at net port.router) Egress 0 packet state) (leaving_by net port packet state)

abbrev pub DoLeaveLate : Network → Type 0
DoLeaveLate net =
    (port : RouterPort) (packet : Values) (state : State) → Contains net.router_ports port → IsPacket packet → value packet Outport ≡ port.id.0
    → DoesPart Leaves (run_pipeline (flows_at net port.router) Egress late packet state) (leaving_late port packet state)

-- each packet comes to the end of a pipeline, on each router
abbrev pub AreRunnable : Network → Type 0
AreRunnable net = (router : Router) → Contains net.routers router → IsRunnable (flows_at net router.id)

-- ---- the time to live

-- where a packet is after so many steps of its run, or how that ended before
abbrev pub after_steps : Flows → ℕ → StageEnd → StageEnd
after_steps flows zero end = end
after_steps flows (suc count) (On stage flight) = after_steps flows count (step flows stage flight)
after_steps flows (suc count) (Ends outcome state) = Ends outcome state

-- each packet that comes to routing has two hops or more to live, so routing, which takes one, never meets a packet that has none
abbrev pub HasTimeLeft : Network → Type 0
HasTimeLeft net =
    (port : RouterPort) (packet : Values) (state : State) → Contains net.router_ports port → IsPacket packet → IsUnseen packet → IsState state → value packet Inport ≡ port.id.0
    → (count : ℕ) (flight : Flight) → after_steps (flows_at net port.router) count (On LrInAdmission (coming packet state)) ≡ On LrInIpRouting flight → 2 ≤ value flight.packet IpTtl
