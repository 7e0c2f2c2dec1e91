-- The addresses and ports that tell an IPv4 packet's connection (RFC 793, RFC 768).
use Rattle.std.specs.Prelude.{ℕ, if◌then◌else◌}
use Rattle.nv_base.specs.declared.field.Field.TheVariants.{IpProto, Ip4Src, Ip4Dst, TcpSrc, TcpDst, UdpSrc, UdpDst}
use Rattle.nv_base.specs.declared.field.Prerequisite.TheVariants.{Tcp, Udp}
use Rattle.nv_base.specs.Ip4.{address}
use Rattle.pkt_core.specs.declared.tuple.Tuple.{Tuple}
use Rattle.pkt_core.specs.Packet.{Values, value, with_value}
use Rattle.pkt_core.specs.Prerequisite.{meets}

-- source and destination exchanged
abbrev pub swap : Tuple → Tuple
swap t = record { proto = t.proto; src = t.dst; sport = t.dport; dst = t.src; dport = t.sport }

-- the source port of a TCP or UDP packet, 0 of another
abbrev pub sport_of : Values → ℕ
sport_of packet = if meets packet Tcp then value packet TcpSrc else (if meets packet Udp then value packet UdpSrc else 0)

-- the destination port of a TCP or UDP packet, 0 of another
abbrev pub dport_of : Values → ℕ
dport_of packet = if meets packet Tcp then value packet TcpDst else (if meets packet Udp then value packet UdpDst else 0)

-- the packet's tuple
abbrev pub tuple : Values → Tuple
tuple packet = record { proto = value packet IpProto; src = address (value packet Ip4Src); sport = sport_of packet; dst = address (value packet Ip4Dst); dport = dport_of packet }

-- the packet with these addresses
abbrev pub with_addresses : Values → Tuple → Values
with_addresses packet t = with_value (with_value packet Ip4Src t.src.0) Ip4Dst t.dst.0

-- the packet with the tuple's addresses, and with its ports where the packet is TCP or UDP; the protocol stays
abbrev pub with_tuple : Values → Tuple → Values
with_tuple packet t =
    if meets packet Tcp then with_value (with_value (with_addresses packet t) TcpSrc t.sport) TcpDst t.dport
    else (if meets packet Udp then with_value (with_value (with_addresses packet t) UdpSrc t.sport) UdpDst t.dport
    else with_addresses packet t)
