-- What a packet's step through the stages of a router does, said of the network's objects, of the packet and of the state:
-- the stage laws.
use Rattle.std.specs.Prelude.{◌≡◌, ℕ, ◌-◌, ◌==◌, true, if◌then◌else◌, [], ◌∷◌, Contains, Option, Some, None}
use Rattle.nv_base.specs.Ip4.{address}
use Rattle.nv_base.specs.declared.field.Field.TheVariants.{Inport, Outport, FlagsLoopback, EthSrc, EthDst, EthType, IpTtl, Ip4Src, Ip4Dst, ArpOp, ArpSpa, ArpSha, ArpTpa, Reg0, Reg1, Reg6}
use Rattle.pkt_core.specs.Packet.{Values, IsPacket, value, with_value, with_values, workings}
use Rattle.pkt_core.specs.Prerequisite.{is_ip4}
use Rattle.nb_records.specs.declared.router.Router.{Router}
use Rattle.nb_records.specs.declared.router.RouterPort.{RouterPort}
use Rattle.nb_model.specs.Network.{Network}
use Rattle.nb_model.specs.Sound.{IsSound}
use Rattle.sb_model.specs.declared.stage.Stage.{Stage}
use Rattle.sb_model.specs.declared.stage.Stage.TheVariants.{LrInAdmission, LrInLearnNeighbor, LrInIpInput, LrInUnsnat, LrInIpRouting, LrInArpResolve, LrInArpRequest, LrOutDelivery}
use Rattle.net_meaning.specs.declared.answer.Answer.TheVariants as answer
use Rattle.net_meaning.specs.declared.cause.Cause.TheVariants.{Admission, NoRoute, Delivery}
use Rattle.net_meaning.specs.Walk.{Passed}
use Rattle.net_meaning.specs.Walk.Passed.{GoesOn, Drops, Makes}
use Rattle.net_meaning.specs.Walk.Target.{OnePort, Ports, Late}
use Rattle.sb_model.specs.Stage.{last_table}
use Rattle.sb_model.specs.declared.stage.DatapathKind.TheVariants as datapath
use Rattle.ct_core.specs.State.{State}
use Rattle.net_router.specs.Input.{after_learning, is_admitted, taken_in}
use Rattle.net_router.specs.Resolution.{mac_for}
use Rattle.net_router.specs.Routing.{Hop, hop_for}
pub use Rattle.ls_laws.specs.Steps.{flows_at}
use Rattle.tr_stage.specs.declared.outcome.Outcome.TheVariants as outcomes
use Rattle.tr_pipe.specs.Machine.{StageEnd, step}
use Rattle.tr_pipe.specs.Machine.StageEnd.{On, Ends}
use Rattle.tr_pipe.specs.Tracking.{Flight, with_packet}

-- the networks and the packets of which the laws speak: on one of the network's routers
pub record IsOnRouter (net : Network) (router : Router) (packet : Values) : Type 0 where
  pub sound : IsSound net
  pub among : Contains net.routers router
  pub formed : IsPacket packet

-- the port is one of the router's
abbrev pub IsPortOf : Network → Router → RouterPort → Type 0
IsPortOf net router port = Contains net.router_ports port × (port.router ≡ router.id)

-- the step of a packet through a stage of a router is this
abbrev pub Does : Network → Router → Stage → Flight → StageEnd → Type 0
Does net router stage flight end = step (flows_at net router.id) stage flight ≡ end

-- the packet came in by the port, and goes out by it
abbrev pub CameIn : RouterPort → Values → Type 0
CameIn port packet = value packet Inport ≡ port.id.0

abbrev pub GoesOut : RouterPort → Values → Type 0
GoesOut port packet = value packet Outport ≡ port.id.0

-- ---- what comes in by a port

-- what the port admits goes on, with the port's MAC in `reg6`
abbrev pub admitted : RouterPort → Flight → StageEnd
admitted port flight =
    if is_admitted port flight.packet
    then On LrInLearnNeighbor (with_packet flight (with_value flight.packet Reg6 port.mac))
    else Ends (Some (outcomes.Drop Admission)) flight.state

abbrev pub Admits : Type 0
Admits =
    (net : Network) (router : Router) (flight : Flight) → IsOnRouter net router flight.packet → (port : RouterPort) → IsPortOf net router port → CameIn port flight.packet
    → Does net router LrInAdmission flight (admitted port flight)

-- what the packet tells of a neighbour is learnt
abbrev pub Learns : Type 0
Learns =
    (net : Network) (router : Router) (flight : Flight) → IsOnRouter net router flight.packet → (port : RouterPort) → IsPortOf net router port → CameIn port flight.packet
    → Does net router LrInLearnNeighbor flight (On LrInIpInput (record flight { state = after_learning port flight.packet flight.state }))

-- ---- input

-- the last table of a router's egress, by which packets leave late
abbrev pub late : ℕ
late = last_table datapath.Router

-- what becomes of a packet that the router does not pass on
abbrev pub taken : Passed → State → StageEnd
taken (Drops cause) state = Ends (Some (outcomes.Drop cause)) state
taken (GoesOn (OnePort port) packet) state = Ends (Some (outcomes.Leave packet 0)) state
taken (GoesOn (Late port) packet) state = Ends (Some (outcomes.Leave packet late)) state
taken (GoesOn (Ports ports) packet) state = Ends None state
taken (Makes why port packet) state = Ends (Some (outcomes.Made packet late why)) state

-- a packet that is to be passed on goes on; any other is dropped or answered
abbrev pub taken_or_passed : Option Passed → Flight → StageEnd
taken_or_passed None flight = On LrInUnsnat flight
taken_or_passed (Some passed) flight = taken passed flight.state

-- the packet, to go out by the port that it came in by
abbrev pub going_back : RouterPort → Values → Values
going_back port packet = with_value packet Outport port.id.0

-- the packet has the MAC of the port that it came in by in `reg6`
abbrev pub HasMac : RouterPort → Values → Type 0
HasMac port packet = value packet Reg6 ≡ port.mac

-- what the meaning does not pass on is dropped or answered as it says, of the packet that is to go back; the rest goes on as it is
abbrev pub TakesIn : Type 0
TakesIn =
    (net : Network) (router : Router) (flight : Flight) → IsOnRouter net router flight.packet → (port : RouterPort) → IsPortOf net router port
    → CameIn port flight.packet → HasMac port flight.packet → Does net router LrInIpInput flight (taken_or_passed (taken_in net port (going_back port flight.packet)) flight)

-- ---- routing

-- the packet on the way by a hop: with one hop less to live, the next host in `reg0`, from which it is asked for in `reg1`, to leave by the
-- port
abbrev pub on_way : Hop → Values → Values
on_way hop packet =
    with_values packet
    ((IpTtl, value packet IpTtl - 1) ∷ (Reg0, hop.via.0) ∷ (Reg1, hop.from.0) ∷ (EthSrc, hop.port.mac) ∷ (Outport, hop.port.id.0) ∷ (FlagsLoopback, 1) ∷ [])

abbrev pub sent_by : Option Hop → Flight → StageEnd
sent_by None flight = Ends (Some (outcomes.Drop NoRoute)) flight.state
sent_by (Some hop) flight = On LrInArpResolve (with_packet flight (on_way hop flight.packet))

-- a packet of IPv4 goes on by its hop, if there is one
abbrev pub Routes : Type 0
Routes =
    (net : Network) (router : Router) (flight : Flight) → IsOnRouter net router flight.packet → is_ip4 flight.packet ≡ true
    → Does net router LrInIpRouting flight (sent_by (hop_for net router.id (address (value flight.packet Ip4Src)) (address (value flight.packet Ip4Dst))) flight)

-- ---- the next host

-- with the MAC of the next host as its destination, 0 where it is not known
abbrev pub resolved : Network → RouterPort → Flight → Flight
resolved net port flight = with_packet flight (with_value flight.packet EthDst (mac_for net port (address (value flight.packet Reg0)) flight.state.nbrs))

abbrev pub Resolves : Type 0
Resolves =
    (net : Network) (router : Router) (flight : Flight) → IsOnRouter net router flight.packet → (port : RouterPort) → IsPortOf net router port → GoesOut port flight.packet
    → Does net router LrInArpResolve flight (On LrInArpRequest (resolved net port flight))

-- the ARP request that takes the place of a packet: the working fields stay, and all else that it does not say is zero
abbrev pub asking : Values → Values
asking packet =
    with_values (workings packet)
    ((EthSrc, value packet EthSrc) ∷ (EthDst, 0xffff_ffff_ffff) ∷ (EthType, 0x806) ∷ (ArpOp, 1)
    ∷ (ArpSpa, value packet Reg1) ∷ (ArpSha, value packet EthSrc) ∷ (ArpTpa, value packet Reg0) ∷ [])

-- a packet to a MAC leaves, and the MAC of the next host is asked for where it is not known
abbrev pub asked : Flight → StageEnd
asked flight =
    if value flight.packet EthDst == 0
    then Ends (Some (outcomes.Made (asking flight.packet) 0 answer.Arp)) flight.state
    else Ends (Some (outcomes.Leave flight.packet 0)) flight.state

abbrev pub Asks : Type 0
Asks = (net : Network) (router : Router) (flight : Flight) → IsOnRouter net router flight.packet → Does net router LrInArpRequest flight (asked flight)

-- ---- what goes out by a port

-- an enabled port delivers
abbrev pub delivered : RouterPort → Flight → StageEnd
delivered port flight =
    if port.enabled then Ends (Some (outcomes.Deliver flight.packet)) flight.state else Ends (Some (outcomes.Drop Delivery)) flight.state

abbrev pub Delivers : Type 0
Delivers =
    (net : Network) (router : Router) (flight : Flight) → IsOnRouter net router flight.packet → (port : RouterPort) → IsPortOf net router port → GoesOut port flight.packet
    → Does net router LrOutDelivery flight (delivered port flight)
