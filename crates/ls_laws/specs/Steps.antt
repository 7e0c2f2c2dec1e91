-- What a packet's step through each stage of a switch does, said of the network's objects: the stage laws.
-- Where a switch tracks connections, its stages of ACLs, of load balancers and of connections ask for connections, of which nothing is said
-- here: the laws of these are of switches that track none.
use Rattle.std.specs.Prelude.{◌≡◌, ℕ, false, not, ◌&&◌, if◌then◌else◌, List, [], ◌∷◌, Contains, Option, Some, None}
use Rattle.nv_base.specs.declared.object.ObjId.{ObjId}
use Rattle.nv_base.specs.declared.field.Field.TheVariants.{Inport, Outport, FlagsLoopback, EthDst, ArpTpa}
use Rattle.pkt_core.specs.Packet.{Values, IsPacket, value, with_value, with_values}
use Rattle.pkt_core.specs.Replies.{is_answerable, arp_reply}
use Rattle.nb_records.specs.declared.acl.Way.TheVariants.{From, To}
use Rattle.nb_records.specs.declared.switch.Port.{Port}
use Rattle.nb_records.specs.declared.switch.Switch.{Switch}
use Rattle.nb_model.specs.Applies.{tracks}
use Rattle.nb_model.specs.Names.{names}
use Rattle.nb_model.specs.Network.{Network}
use Rattle.nb_model.specs.Sound.{IsSound}
use Rattle.sb_model.specs.declared.stage.Stage.{Stage}
use Rattle.sb_model.specs.declared.stage.Stage.TheVariants.{LsInCheckPortSec, LsInPreAcl, LsInAclEval, LsInLb, LsInArpRsp, LsInL2Lkup, LsInL2Unknown, LsOutAclEval, LsOutStateful, LsOutCheckPortSec}
use Rattle.net_meaning.specs.AclVerdict.{Decision, decision}
use Rattle.net_meaning.specs.AclVerdict.Decision.{Allowed, Dropped, Rejected, Full}
use Rattle.net_meaning.specs.Address.{is_multicast}
use Rattle.net_meaning.specs.Guards.{is_let_in, is_let_out}
use Rattle.net_meaning.specs.Switches.{rejection, is_request, is_answering, answering, mac_with, port_for, unknown_ports}
use Rattle.net_meaning.specs.declared.answer.Answer.TheVariants.{Reject}
use Rattle.net_meaning.specs.declared.cause.Cause.TheVariants.{PortSec, Acl, Unknown, CtFull}
use Rattle.lr_units.specs.Network.{network_rows}
use Rattle.tr_stage.specs.Machine.{Flows, StageEnd, flows_of, step}
use Rattle.tr_stage.specs.Machine.StageEnd.{On, Ends}
use Rattle.tr_stage.specs.declared.outcome.Outcome.TheVariants.{Leave, Deliver, Made, Drop}
use Rattle.sb_model.specs.Stage.{last_table}
use Rattle.sb_model.specs.declared.stage.DatapathKind.TheVariants as datapath
use Rattle.nv_base.specs.Object.{flood_number, unknown_number}

-- the flows of a network at one of its datapaths
abbrev pub flows_at : Network → ObjId → Flows
flows_at net dp = flows_of (network_rows net) (names net) dp

-- the networks and the packets of which the laws speak: on one of the network's switches
pub record IsOn (net : Network) (switch : Switch) (packet : Values) : Type 0 where
  pub sound : IsSound net
  pub among : Contains net.switches switch
  pub formed : IsPacket packet

-- the port is one of the switch's
abbrev pub IsPortOf : Network → Switch → Port → Type 0
IsPortOf net switch port = Contains net.ports port × (port.switch ≡ switch.id)

-- the step of a packet through a stage of a switch is this
abbrev pub Does : Network → Switch → Stage → Values → StageEnd → Type 0
Does net switch stage packet end = step (flows_at net switch.id) stage packet ≡ end

-- the switch tracks no connections
abbrev pub IsUntracked : Network → Switch → Type 0
IsUntracked net switch = tracks net switch.id ≡ false

-- each packet goes on at the next stage where the switch tracks no connections
abbrev pub PassesUntracked : Stage → Stage → Type 0
PassesUntracked stage next =
    (net : Network) (switch : Switch) (packet : Values) → IsOn net switch packet → IsUntracked net switch → Does net switch stage packet (On next packet)

-- ---- port security

-- what the port lets in goes on
abbrev pub ChecksIn : Type 0
ChecksIn =
    (net : Network) (switch : Switch) (packet : Values) → IsOn net switch packet → (port : Port) → IsPortOf net switch port → value packet Inport ≡ port.id.0
    → Does net switch LsInCheckPortSec packet (if is_let_in port packet then On LsInPreAcl packet else Ends (Some (Drop PortSec)))

-- what the port lets out is delivered
abbrev pub ChecksOut : Type 0
ChecksOut =
    (net : Network) (switch : Switch) (packet : Values) → IsOn net switch packet → (port : Port) → IsPortOf net switch port → value packet Outport ≡ port.id.0
    → Does net switch LsOutCheckPortSec packet (if is_let_out port packet then Ends (Some (Deliver packet)) else Ends (Some (Drop PortSec)))

-- ---- ACLs

-- the packet goes back by the port that it came in by
abbrev pub sent_back : Values → Values
sent_back packet = with_values packet ((Outport, value packet Inport) ∷ (FlagsLoopback, 1) ∷ [])

-- a rejected packet is answered, where it may be
abbrev pub rejected : Values → StageEnd
rejected packet = if is_answerable packet then Ends (Some (Made (sent_back (rejection packet)) (last_table datapath.Switch) Reject)) else Ends (Some (Drop Acl))

-- what follows a decision
abbrev pub decided : Decision → Stage → Values → StageEnd
decided Allowed next packet = On next packet
decided Dropped next packet = Ends (Some (Drop Acl))
decided Rejected next packet = rejected packet
decided Full next packet = Ends (Some (Drop CtFull))

-- what the ACLs of a direction decide is done, where the switch tracks no connections
abbrev pub DecidesIn : Type 0
DecidesIn =
    (net : Network) (switch : Switch) (packet : Values) → IsOn net switch packet → IsUntracked net switch
    → Does net switch LsInAclEval packet (decided (decision net switch.id From packet) LsInLb packet)

abbrev pub DecidesOut : Type 0
DecidesOut =
    (net : Network) (switch : Switch) (packet : Values) → IsOn net switch packet → IsUntracked net switch
    → Does net switch LsOutAclEval packet (decided (decision net switch.id To packet) LsOutStateful packet)

-- ---- ARP replies

-- the request is answered for the host of a port, or goes on
abbrev pub answered_for : Values → Option Port → StageEnd
answered_for packet None = On LsInL2Lkup packet
answered_for packet (Some port) = Ends (Some (Leave (sent_back (arp_reply packet (mac_with (value packet ArpTpa) port.addresses))) 0))

abbrev pub Answers : Type 0
Answers =
    (net : Network) (switch : Switch) (packet : Values) → IsOn net switch packet → (port : Port) → IsPortOf net switch port → value packet Inport ≡ port.id.0
    → Does net switch LsInArpRsp packet
    (if is_request packet && not (is_answering switch.id (value packet ArpTpa) port) then answered_for packet (answering net switch.id (value packet ArpTpa))
    else On LsInL2Lkup packet)

-- ---- the lookup

-- the packet leaves by the port or the group of this number
abbrev pub leaves_by : Values → ℕ → StageEnd
leaves_by packet number = Ends (Some (Leave (with_value packet Outport number) 0))

abbrev pub found_at : Values → Option Port → StageEnd
found_at packet (Some port) = leaves_by packet port.id.0
found_at packet None = On LsInL2Unknown packet

abbrev pub LooksUp : Type 0
LooksUp =
    (net : Network) (switch : Switch) (packet : Values) → IsOn net switch packet
    → Does net switch LsInL2Lkup packet
    (if is_multicast (value packet EthDst) then leaves_by packet flood_number else found_at packet (port_for net switch.id (value packet EthDst)))

-- what no port has goes to the ports for unknown addresses, where there are any
abbrev pub sent_unknown : Values → List ObjId → StageEnd
sent_unknown packet [] = Ends (Some (Drop Unknown))
sent_unknown packet (port ∷ ports) = leaves_by packet unknown_number

abbrev pub FindsNone : Type 0
FindsNone =
    (net : Network) (switch : Switch) (packet : Values) → IsOn net switch packet
    → Does net switch LsInL2Unknown packet (sent_unknown packet (unknown_ports net switch.id))
