-- What a switch does with a packet (ovn-architecture(7), ovn-nb(5)). It knows the network's objects alone, and the connections that packets
-- left.
use Rattle.std.specs.Prelude.{ℕ, Bool, not, ◌&&◌, ◌==◌, if◌then◌else◌, List, [], ◌∷◌, ◌++◌, map, filter, Option, Some, None}
use Rattle.std.specs.List.{find, list_any, flat_map}
use Rattle.nv_base.specs.declared.ip4.Ip4.{Ip4}
use Rattle.nv_base.specs.declared.object.ObjId.{ObjId}
use Rattle.nv_base.specs.declared.field.Field.TheVariants.{Inport, FlagsLoopback, EthDst, ArpOp, ArpTpa}
use Rattle.nv_base.specs.declared.field.Prerequisite.TheVariants.{Arp, Tcp}
use Rattle.pkt_core.specs.Packet.{Values, value, with_value}
use Rattle.pkt_core.specs.Prerequisite.{meets}
use Rattle.pkt_core.specs.Replies.{is_answerable, reset, icmp_error, arp_reply}
use Rattle.pkt_core.specs.declared.replies.IcmpReason.TheVariants.{PortUnreachable}
use Rattle.nb_records.specs.declared.acl.Way.TheVariants.{From, To}
use Rattle.nb_records.specs.declared.router.RouterPort.{RouterPort}
use Rattle.nb_records.specs.declared.switch.Addr.{Addr}
use Rattle.nb_records.specs.declared.switch.Addr.TheVariants as addr
use Rattle.nb_records.specs.declared.switch.Port.{Port}
use Rattle.nb_model.specs.Addresses.{macs}
use Rattle.nb_model.specs.Belongs.{is_to_router, peer_router_port}
use Rattle.nb_model.specs.Network.{Network}
use Rattle.nb_model.specs.Readable.{ips_of}
use Rattle.ct_core.specs.State.{State}
use Rattle.net_meaning.specs.AclVerdict.{Decision}
use Rattle.net_meaning.specs.AclVerdict.Decision.{Allowed, Dropped, Rejected, Full}
use Rattle.net_meaning.specs.Address.{is_multicast}
use Rattle.net_meaning.specs.Guards.{is_let_in, is_let_out}
use Rattle.net_meaning.specs.Tracked.{Ruled, ruled}
use Rattle.net_meaning.specs.Walk.{Passed, Part}
use Rattle.net_meaning.specs.Walk.Passed.{GoesOn, Drops, Makes}
use Rattle.net_meaning.specs.Walk.Target.{OnePort, Ports}
use Rattle.net_meaning.specs.declared.answer.Answer.TheVariants.{Reject}
use Rattle.net_meaning.specs.declared.cause.Cause.TheVariants.{PortSec, Acl, Unknown, CtFull}
use Rattle.nb_model.specs.Ports.{is_router_word, takes_unknown, is_open}

-- ---- addresses

abbrev pub mac_of_peer : Option RouterPort → List ℕ
mac_of_peer None = []
mac_of_peer (Some peer) = peer.mac ∷ []

-- the MACs of a port: those of its addresses and, where it leads to a router and says `router`, that of its peer
abbrev pub all_macs : Network → Port → List ℕ
all_macs net port =
    macs port ++ (if is_to_router port && list_any is_router_word port.addresses then mac_of_peer (peer_router_port net port) else [])

-- the port has this MAC
abbrev pub has_mac : Network → ℕ → Port → Bool
has_mac net mac port = list_any (λ own. own == mac) (all_macs net port)

-- the address is one of these
abbrev pub is_among_ips : ℕ → List Ip4 → Bool
is_among_ips ip ips = list_any (λ own. own.0 == ip) ips

-- the port has this IPv4 address
abbrev pub has_ip : ℕ → Port → Bool
has_ip ip port = is_among_ips ip (flat_map ips_of port.addresses)

-- the MAC that goes with an IPv4 address
abbrev pub mac_with : ℕ → List Addr → ℕ
mac_with ip [] = 0
mac_with ip (addr.Host mac ips ∷ others) = if is_among_ips ip ips then mac else mac_with ip others
mac_with ip (other ∷ others) = mac_with ip others

-- ---- ports of a switch

-- the port by which a switch reaches a MAC: of the enabled ports that have it, the one of the lowest number
abbrev pub port_for : Network → ObjId → ℕ → Option Port
port_for net switch mac = find (λ port. is_open switch port && has_mac net mac port) net.ports

-- an enabled port of a host on the switch that has an IPv4 address
abbrev pub is_answering : ObjId → ℕ → Port → Bool
is_answering switch ip port = is_open switch port && not (is_to_router port) && has_ip ip port

-- the port whose host is answered for
abbrev pub answering : Network → ObjId → ℕ → Option Port
answering net switch ip = find (is_answering switch ip) net.ports

abbrev pub numbers : List Port → List ObjId
numbers ports = map (λ port. port.id) ports

-- all enabled ports of the switch, and those of them to which goes what no port has
abbrev pub open_ports : Network → ObjId → List ObjId
open_ports net switch = numbers (filter (is_open switch) net.ports)

abbrev pub unknown_ports : Network → ObjId → List ObjId
unknown_ports net switch = numbers (filter (λ port. is_open switch port && takes_unknown port) net.ports)

-- ---- arriving

-- where no port has the destination: to the ports for unknown addresses, if there are any
abbrev pub to_unknown : List ObjId → Values → Passed
to_unknown [] packet = Drops Unknown
to_unknown ports packet = GoesOn (Ports ports) packet

abbrev pub to_port : Option Port → List ObjId → Values → Passed
to_port (Some port) unknown packet = GoesOn (OnePort port.id) packet
to_port None unknown packet = to_unknown unknown packet

-- a multicast packet is flooded, another goes to the port of its destination
abbrev pub sent_on : Network → ObjId → Values → Passed
sent_on net switch packet =
    if is_multicast (value packet EthDst) then GoesOn (Ports (open_ports net switch)) packet
    else to_port (port_for net switch (value packet EthDst)) (unknown_ports net switch) packet

-- a packet that may go out by the port that it came in by
abbrev pub turned_back : Values → Values
turned_back packet = with_value packet FlagsLoopback 1

-- an ARP request
abbrev pub is_request : Values → Bool
is_request packet = meets packet Arp && (value packet ArpOp == 1)

-- an ARP request for the address of a host is answered for it
abbrev pub answered_for : Network → Port → Values → Option Port → Passed
answered_for net arrival packet None = sent_on net arrival.switch packet
answered_for net arrival packet (Some port) = GoesOn (OnePort arrival.id) (turned_back (arp_reply packet (mac_with (value packet ArpTpa) port.addresses)))

-- a request goes on where the asker itself has the address
abbrev pub asked : Network → Port → Values → Passed
asked net arrival packet =
    if is_request packet && not (is_answering arrival.switch (value packet ArpTpa) arrival)
    then answered_for net arrival packet (answering net arrival.switch (value packet ArpTpa))
    else sent_on net arrival.switch packet

-- the packet that answers a rejected one: a reset for TCP, else that the port is unreachable
abbrev pub rejection : Values → Values
rejection packet = if meets packet Tcp then reset packet else icmp_error packet PortUnreachable

-- a rejected packet is answered at the port that it came in by, where it may be
abbrev pub rejected : Values → Passed
rejected packet =
    if is_answerable packet then Makes Reject (record { 0 = value packet Inport }) (turned_back (rejection packet)) else Drops Acl

-- what follows the decision of ACLs
abbrev pub decided : Decision → Values → Passed → Passed
decided Allowed packet onward = onward
decided Dropped packet onward = Drops Acl
decided Rejected packet onward = rejected packet
decided Full packet onward = Drops CtFull

-- what becomes of a packet, and the state that is left
pub record Did : Type 0 where
  pub passed : Passed
  pub state : State

-- what follows what ACLs and load balancers do with it
abbrev pub after_acls : Ruled → (Values → Passed) → Did
after_acls ruling onward = record { passed = decided ruling.what ruling.packet (onward ruling.packet); state = ruling.state }

-- what a switch does with a packet that arrives at one of its ports
abbrev pub arriving_at : Network → Port → Values → State → Did
arriving_at net port packet state =
    if is_let_in port packet then after_acls (ruled net From port packet state) (asked net port) else record { passed = Drops PortSec; state = state }

-- ---- leaving

-- the last step: a packet goes out by the port, where the port lets it out
abbrev pub let_out : Port → Values → Passed
let_out port packet = if is_let_out port packet then GoesOn (OnePort port.id) packet else Drops PortSec

-- what a switch does with a packet that leaves by one of its ports
abbrev pub leaving_by : Network → Port → Values → State → Did
leaving_by net port packet state = after_acls (ruled net To port packet state) (let_out port)

-- and with one that leaves late: the last step alone
abbrev pub leaving_late : Port → Values → State → Did
leaving_late port packet state = record { passed = let_out port packet; state = state }

-- ---- a part of the direct meaning

-- what is done at a port, without notes; where there is no such port nothing is
abbrev pub part_of : State → Option Did → Part (Unit {0}) State
part_of state None = record { notes = []; passed = None; state = state }
part_of state (Some did) = record { notes = []; passed = Some did.passed; state = did.state }
