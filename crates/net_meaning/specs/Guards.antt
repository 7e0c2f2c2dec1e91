-- Port security: what a switch port may send and get (ovn-nb(5), 'Logical_Switch_Port TABLE', port_security).
use Rattle.std.specs.Prelude.{ℕ, ◌+◌, ◌-◌, ◌*◌, ◌/◌, ◌^◌, ◌==◌, Bool, not, ◌&&◌, ◌||◌, List}
use Rattle.std.specs.List.{list_any}
use Rattle.nv_base.specs.Block.{Block}
use Rattle.nv_base.specs.declared.field.Field.TheVariants.{EthSrc, EthDst, EthType, Ip4Src, Ip4Dst, ArpSpa, ArpSha, UdpSrc, UdpDst}
use Rattle.nv_base.specs.declared.field.Prerequisite.TheVariants.{Ip4, Arp, Udp}
use Rattle.pkt_core.specs.Packet.{Values, value}
use Rattle.pkt_core.specs.Prerequisite.{meets}
use Rattle.nb_records.specs.declared.switch.Guard.{Guard}
use Rattle.nb_records.specs.declared.switch.Port.{Port}
use Rattle.net_meaning.specs.Address.{is_multicast}
use Rattle.nb_model.specs.Applies.{is_empty}
use Rattle.nb_model.specs.Addresses.{size_of, has_host_part}

-- the address is the one that is written with a host part, or is in the network that is written without
abbrev pub covers : ℕ → Block → Bool
covers addr net = (has_host_part net && (addr == net.base.0)) || (not (has_host_part net) && (addr / size_of net == net.base.0 / size_of net))

-- the broadcast address of a network that is written with a host part
abbrev pub is_broadcast_of : ℕ → Block → Bool
is_broadcast_of addr net = has_host_part net && (addr == net.base.0 / size_of net * size_of net + (size_of net - 1))

-- a DHCP client that has no address yet (RFC 2131)
abbrev pub is_dhcp_discover : Values → Bool
is_dhcp_discover packet =
    meets packet Udp && (value packet Ip4Src == 0) && (value packet Ip4Dst == 0xffff_ffff) && (value packet UdpSrc == 68) && (value packet UdpDst == 67)

-- an IPv6 packet
abbrev pub is_ip6 : Values → Bool
is_ip6 packet = value packet EthType == 0x86dd

-- an ARP packet that tells the MAC of its sender
abbrev pub tells_mac : Values → ℕ → Bool
tells_mac packet mac = meets packet Arp && (value packet ArpSha == mac)

-- what a guard without networks lets in of a MAC: all but ARP packets that tell another one
abbrev pub lets_any_in : Guard → Values → Bool
lets_any_in guard packet = not (meets packet Arp) || tells_mac packet guard.mac

-- what a guard with networks lets in of a MAC: IPv4 and ARP from their addresses, DHCP discovers, and what is no IP and no ARP
abbrev pub lets_nets_in : Guard → Values → Bool
lets_nets_in guard packet =
    (meets packet Ip4 && list_any (covers (value packet Ip4Src)) guard.nets)
    || is_dhcp_discover packet
    || (tells_mac packet guard.mac && list_any (covers (value packet ArpSpa)) guard.nets)
    || not (meets packet Ip4 || meets packet Arp || is_ip6 packet)

-- a guard lets in a packet from its MAC
abbrev pub lets_in : Values → Guard → Bool
lets_in packet guard =
    (value packet EthSrc == guard.mac)
    && ((is_empty guard.nets && lets_any_in guard packet) || (not (is_empty guard.nets) && lets_nets_in guard packet))

-- an address to which each host of a network listens: the network's broadcast, the broadcast to all, and multicast
abbrev pub is_for_many : ℕ → List Block → Bool
is_for_many addr nets = list_any (is_broadcast_of addr) nets || (addr == 0xffff_ffff) || (addr / 2 ^ 28 == 14)

-- what a guard with networks lets out to a MAC: IPv4 to their addresses or to many, and what is no IP
abbrev pub lets_nets_out : Guard → Values → Bool
lets_nets_out guard packet =
    (meets packet Ip4 && (list_any (covers (value packet Ip4Dst)) guard.nets || is_for_many (value packet Ip4Dst) guard.nets))
    || not (meets packet Ip4 || is_ip6 packet)

-- a guard lets out a packet to its MAC
abbrev pub lets_out : Values → Guard → Bool
lets_out packet guard = (value packet EthDst == guard.mac) && (is_empty guard.nets || lets_nets_out guard packet)

-- a port that has guards wants one of them to pass
abbrev pub some_guard : (Guard → Bool) → Port → Bool
some_guard passes port = is_empty port.security || list_any passes port.security

-- what a port lets in: no sender has a multicast MAC, and a disabled port lets in nothing
abbrev pub is_let_in : Port → Values → Bool
is_let_in port packet = not (is_multicast (value packet EthSrc)) && port.enabled && some_guard (lets_in packet) port

-- what a port lets out: all that is for many, and what a guard lets out
abbrev pub is_let_out : Port → Values → Bool
is_let_out port packet = is_multicast (value packet EthDst) || some_guard (lets_out packet) port
