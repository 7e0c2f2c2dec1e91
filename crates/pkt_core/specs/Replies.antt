-- The packets that a datapath begins with, and those that it makes in answer to others (RFC 793, RFC 792, RFC 826).
use Rattle.std.specs.Prelude.{ℕ, ◌==◌, ◌/◌, ◌%◌, Bool, not, ◌&&◌, [], ◌∷◌}
use Rattle.nv_base.specs.declared.ip4.Ip4.{Ip4}
use Rattle.nv_base.specs.declared.field.Field.TheVariants.{Inport, EthSrc, EthDst, EthType, IpProto, IpTtl, Ip4Src, Ip4Dst, ArpOp, ArpSpa, ArpSha, ArpTpa, ArpTha, TcpSrc, TcpDst, TcpFlags, Icmp4Type, Icmp4Code, QuoteProto, QuoteSrc, QuoteSport, QuoteDst, QuoteDport}
use Rattle.nv_base.specs.declared.field.Prerequisite.TheVariants as needs
use Rattle.pkt_core.specs.declared.tuple.Tuple.{Tuple}
use Rattle.pkt_core.specs.declared.replies.IcmpReason.{IcmpReason}
use Rattle.pkt_core.specs.declared.replies.IcmpReason.TheVariants.{PortUnreachable, TtlExceeded}
use Rattle.pkt_core.specs.Packet.{Values, value, with_value, with_values, exchanged, zero_packet, headers, workings}
use Rattle.pkt_core.specs.Prerequisite.{meets, normal}
use Rattle.pkt_core.specs.Tuple.{tuple}

-- the packet as it comes into a datapath by a port: normal, with the port as `inport` and each other working field zero
abbrev pub start : Values → ℕ → Values
start packet port = normal (with_value (headers packet) Inport port)

-- a TCP packet with the flag of a reset, bit 2
abbrev pub is_reset : Values → Bool
is_reset packet = meets packet needs.Tcp && (value packet TcpFlags / 4 % 2 == 1)

-- a packet that may be answered by a reset or an ICMP error: IPv4, no reset, no ICMP error
abbrev pub is_answerable : Values → Bool
is_answerable packet = meets packet needs.Ip4 && not (is_reset packet) && not (meets packet needs.IcmpError)

-- the packet with its Ethernet and IPv4 addresses exchanged
abbrev pub turned : Values → Values
turned packet = exchanged (exchanged packet EthSrc EthDst) Ip4Src Ip4Dst

-- the TCP reset that answers a TCP packet: addresses and ports exchanged, the flags RST and ACK, TTL 255
abbrev pub reset : Values → Values
reset packet = with_values (exchanged (turned packet) TcpSrc TcpDst) ((TcpFlags, 0x14) ∷ (IpTtl, 255) ∷ [])

-- the type and the code of an ICMP error (RFC 792)
abbrev pub error_type : IcmpReason → ℕ
error_type PortUnreachable = 3
error_type TtlExceeded = 11

abbrev pub error_code : IcmpReason → ℕ
error_code PortUnreachable = 3
error_code TtlExceeded = 0

-- the packet with this tuple for its quote
abbrev pub with_quote : Values → Tuple → Values
with_quote packet t = with_values packet ((QuoteProto, t.proto) ∷ (QuoteSrc, t.src.0) ∷ (QuoteSport, t.sport) ∷ (QuoteDst, t.dst.0) ∷ (QuoteDport, t.dport) ∷ [])

-- an IPv4 packet back to where the packet came from, of ICMP and TTL 255: the working fields stay, and all else is zero
abbrev pub icmp_back : Values → Values
icmp_back packet = with_values (workings packet) ((EthSrc, value packet EthDst) ∷ (EthDst, value packet EthSrc) ∷ (EthType, 0x800) ∷ (IpProto, 1) ∷ (IpTtl, 255) ∷ (Ip4Src, value packet Ip4Dst) ∷ (Ip4Dst, value packet Ip4Src) ∷ [])

-- the ICMP error that answers the packet, which it quotes
abbrev pub icmp_error : Values → IcmpReason → Values
icmp_error packet reason = with_quote (with_values (icmp_back packet) ((Icmp4Type, error_type reason) ∷ (Icmp4Code, error_code reason) ∷ [])) (tuple packet)

-- the reply to an ARP request, that this MAC has the address that it asks for
abbrev pub arp_reply : Values → ℕ → Values
arp_reply packet mac = with_values packet ((EthDst, value packet EthSrc) ∷ (EthSrc, mac) ∷ (ArpOp, 2) ∷ (ArpSpa, value packet ArpTpa) ∷ (ArpSha, mac) ∷ (ArpTpa, value packet ArpSpa) ∷ (ArpTha, value packet ArpSha) ∷ [])

-- the broadcast ARP request, from this MAC and address, for the MAC of an address
abbrev pub arp_request : ℕ → Ip4 → Ip4 → Values
arp_request mac from wanted = with_values zero_packet ((EthSrc, mac) ∷ (EthDst, 0xffff_ffff_ffff) ∷ (EthType, 0x806) ∷ (ArpOp, 1) ∷ (ArpSpa, from.0) ∷ (ArpSha, mac) ∷ (ArpTpa, wanted.0) ∷ [])
