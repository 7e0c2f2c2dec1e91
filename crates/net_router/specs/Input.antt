-- What a router takes in at a port, and what it answers itself (ovn-northd(8), 'Ingress Table 0: L2 Admission Control', 'Neighbor
-- learning' and 'IP Input').
use Rattle.std.specs.Prelude.{ℕ, ◌/◌, ◌^◌, ◌==◌, nat_lt, Bool, not, ◌&&◌, ◌||◌, if◌then◌else◌, [], ◌∷◌, Option, Some, None, slice_get}
use Rattle.std.specs.List.{list_any}
use Rattle.std.specs.Option.{option_map_or}
use Rattle.nv_base.specs.Block.{Block}
use Rattle.nv_base.specs.Ip4.{address}
use Rattle.nv_base.specs.declared.ip4.Ip4.{Ip4}
use Rattle.nv_base.specs.declared.object.ObjId.{ObjId}
use Rattle.nv_base.specs.declared.field.Field.TheVariants.{EthSrc, EthDst, IpTtl, Ip4Src, Ip4Dst, ArpSpa, ArpSha, ArpTpa, Icmp4Type, Icmp4Code}
use Rattle.nv_base.specs.declared.field.Prerequisite.TheVariants.{Arp, Tcp, Udp, Icmp4}
use Rattle.pkt_core.specs.Packet.{Values, value, with_value, with_values, exchanged}
use Rattle.pkt_core.specs.Prerequisite.{is_ip4, meets}
use Rattle.pkt_core.specs.Replies.{is_answerable, icmp_error, arp_reply}
use Rattle.pkt_core.specs.declared.replies.IcmpReason.TheVariants.{TtlExceeded}
use Rattle.ct_core.specs.declared.neighbour.Neighbour.{Neighbour}
use Rattle.ct_core.specs.Neighbours.{learnt}
use Rattle.ct_core.specs.State.{State}
use Rattle.nb_records.specs.declared.router.RouterPort.{RouterPort}
use Rattle.nb_model.specs.Network.{Network}
use Rattle.nb_model.specs.Addresses.{size_of}
use Rattle.nb_router.specs.Vocabulary.{addresses_at, external_addresses, own_addresses}
use Rattle.net_meaning.specs.Address.{is_multicast}
use Rattle.net_meaning.specs.Switches.{is_among_ips, is_request, rejection, turned_back}
use Rattle.net_meaning.specs.Walk.{Passed}
use Rattle.net_meaning.specs.Walk.Passed.{GoesOn, Drops, Makes}
use Rattle.net_meaning.specs.Walk.Target.{OnePort, Late}
use Rattle.net_meaning.specs.declared.answer.Answer.TheVariants.{Reject}
use Rattle.net_meaning.specs.declared.cause.Cause.TheVariants.{IpInput}

-- the address is one of the network
abbrev pub is_in_network : ℕ → Block → Bool
is_in_network ip own = ip / size_of own == own.base.0 / size_of own

-- ---- admission

-- an enabled port admits what one sender sends to the port's MAC, or to many
abbrev pub is_admitted : RouterPort → Values → Bool
is_admitted port packet =
    not (is_multicast (value packet EthSrc)) && port.enabled && ((value packet EthDst == port.mac) || is_multicast (value packet EthDst))

-- ---- neighbours

-- an ARP packet, request or reply, tells of a neighbour: it comes from an address of the port's networks, with the MAC of one sender
abbrev pub tells_neighbour : RouterPort → Values → Bool
tells_neighbour port packet =
    meets packet Arp && list_any (is_in_network (value packet ArpSpa)) port.nets && not (is_multicast (value packet ArpSha)) && not (value packet ArpSha == 0)

abbrev pub told_neighbour : RouterPort → Values → Neighbour
told_neighbour port packet = record { port = port.id; addr = address (value packet ArpSpa); mac = value packet ArpSha }

-- the state after what a packet tells the port of a neighbour
abbrev pub after_learning : RouterPort → Values → State → State
after_learning port packet state = if tells_neighbour port packet then record state { nbrs = learnt (told_neighbour port packet) state.nbrs } else state

-- ---- what no router passes on

-- the address is of a loopback network, 127.0.0.0/8, or of 'this network', 0.0.0.0/8 (RFC 1122, 3.2.1.3)
abbrev pub is_of_no_host : ℕ → Bool
is_of_no_host ip = (ip / 2 ^ 24 == 127) || (ip / 2 ^ 24 == 0)

-- a multicast address, of 224.0.0.0/4
abbrev pub is_multicast_ip : ℕ → Bool
is_multicast_ip ip = ip / 2 ^ 28 == 0xe

-- the router's own
abbrev pub is_own : Network → ObjId → ℕ → Bool
is_own net router ip = is_among_ips ip (own_addresses net router)

-- one that it stands for
abbrev pub is_external : Network → ObjId → ℕ → Bool
is_external net router ip = is_among_ips ip (external_addresses net router)

-- no other host sends from the address
abbrev pub is_no_source : Network → ObjId → ℕ → Bool
is_no_source net router ip = is_multicast_ip ip || (ip == 0xffff_ffff) || is_of_no_host ip || is_own net router ip

-- an IPv4 packet from or to an address that it can't have there
abbrev pub is_refused : Network → ObjId → Values → Bool
is_refused net router packet = is_ip4 packet && (is_no_source net router (value packet Ip4Src) || is_of_no_host (value packet Ip4Dst))

-- what is for no single host, or is no IPv4
abbrev pub is_not_routed : Values → Bool
is_not_routed packet = not (is_ip4 packet) || (value packet EthDst == 0xffff_ffff_ffff) || is_multicast_ip (value packet Ip4Dst)

-- ---- answers

-- an ARP request for an address of the port, or for one that the router stands for, is answered; other ARP ends here
abbrev pub arp_answered : Network → RouterPort → Values → Passed
arp_answered net port packet =
    if is_request packet && (is_among_ips (value packet ArpTpa) (addresses_at port) || is_external net port.router (value packet ArpTpa))
    then GoesOn (OnePort port.id) (turned_back (arp_reply packet port.mac))
    else Drops IpInput

-- an ICMP echo request, and the reply to it (RFC 792)
abbrev pub is_echo_request : Values → Bool
is_echo_request packet = meets packet Icmp4 && (value packet Icmp4Type == 8) && (value packet Icmp4Code == 0)

abbrev pub echo_reply : RouterPort → Values → Values
echo_reply port packet = with_values (exchanged packet Ip4Src Ip4Dst) ((EthSrc, port.mac) ∷ (EthDst, value packet EthSrc) ∷ (IpTtl, 255) ∷ (Icmp4Type, 0) ∷ [])

-- a packet that is made goes out of the port, from its MAC
abbrev pub answered_by : RouterPort → Values → Passed
answered_by port packet = Makes Reject port.id (turned_back (with_value packet EthSrc port.mac))

-- no service is there: TCP is reset, and for UDP the port is unreachable
abbrev pub service_answered : RouterPort → Values → Passed
service_answered port packet =
    if is_answerable packet && (meets packet Tcp || meets packet Udp) then answered_by port (rejection packet) else Drops IpInput

-- the first address of a port; each port of a sound network has one
abbrev pub first_address : RouterPort → Ip4
first_address port = option_map_or (λ own. own.base) (slice_get port.nets 0) (address 0)

-- a packet whose time to live is used up is answered from the first address of the port
abbrev pub expiry_answered : RouterPort → Values → Passed
expiry_answered port packet =
    if is_answerable packet then answered_by port (with_value (icmp_error packet TtlExceeded) Ip4Src (first_address port).0) else Drops IpInput

-- What becomes of a packet that is not to be passed on, in this order; nothing of one that is.
abbrev pub taken_in : Network → RouterPort → Values → Option Passed
taken_in net port packet =
    if is_refused net port.router packet then Some (Drops IpInput)
    else if meets packet Arp then Some (arp_answered net port packet)
    else if is_echo_request packet && is_own net port.router (value packet Ip4Dst) then Some (GoesOn (Late port.id) (turned_back (echo_reply port packet)))
    else if is_ip4 packet && is_own net port.router (value packet Ip4Dst) && not (is_external net port.router (value packet Ip4Dst)) then Some (service_answered port packet)
    else if is_not_routed packet then Some (Drops IpInput)
    else if nat_lt (value packet IpTtl) 2 then Some (expiry_answered port packet)
    else None
