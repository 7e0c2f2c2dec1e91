-- A packet as a frame: the headers that its fields are in, with no options, no payload and no sums but those of IPv4.
-- What is written beside the fields is not from OVN.
use Rattle.std.specs.Prelude.{◌≡◌, ℕ, ◌+◌, false, List, [], ◌∷◌, ◌++◌, length, take, drop, replicate, if◌then◌else◌}
use Rattle.byteorder.specs.Endian.{big_bytes}
use Rattle.nv_base.specs.declared.field.Field.{Field}
use Rattle.nv_base.specs.declared.field.Field.TheVariants.{EthSrc, EthDst, EthType, IpProto, IpTtl, Ip4Src, Ip4Dst, ArpOp, ArpSpa, ArpSha, ArpTpa, ArpTha, TcpSrc, TcpDst, TcpFlags, UdpSrc, UdpDst, Icmp4Type, Icmp4Code, QuoteProto, QuoteSrc, QuoteSport, QuoteDst, QuoteDport}
use Rattle.nv_base.specs.declared.field.Prerequisite.TheVariants.{Ip4, Arp, Tcp, Udp, Icmp4, IcmpError}
use Rattle.pkt_core.specs.Packet.{Values, value, headers, IsPacket}
use Rattle.pkt_core.specs.Prerequisite.{meets, normal}
use Rattle.pkt_frame.specs.Checksum.{checksum}
use Rattle.pkt_frame.specs.Read.{has_ports}

-- so many zero bytes
abbrev pub zeros : ℕ → List ℕ
zeros count = replicate count 0

-- the number of a field, in so many bytes
abbrev pub field_bytes : ℕ → Values → Field → List ℕ
field_bytes count packet field = big_bytes count (value packet field)

unfoldable pub ethernet_bytes : Values → List ℕ
ethernet_bytes packet = field_bytes 6 packet EthDst ++ field_bytes 6 packet EthSrc ++ field_bytes 2 packet EthType

unfoldable pub arp_bytes : Values → List ℕ
arp_bytes packet =
    big_bytes 2 1 ++ big_bytes 2 0x800 ++ 6 ∷ 4 ∷ field_bytes 2 packet ArpOp
    ++ field_bytes 6 packet ArpSha ++ field_bytes 4 packet ArpSpa ++ field_bytes 6 packet ArpTha ++ field_bytes 4 packet ArpTpa

-- an IPv4 header of 20 bytes, with zero for its sum
unfoldable pub bare_header : ℕ → ℕ → ℕ → ℕ → ℕ → List ℕ
bare_header total ttl protocol source destination =
    0x45 ∷ 0 ∷ big_bytes 2 total ++ zeros 4 ++ big_bytes 1 ttl ++ big_bytes 1 protocol ++ zeros 2 ++ big_bytes 4 source ++ big_bytes 4 destination

-- the header with its sum, which is of the header with zero for it
abbrev pub with_sum : List ℕ → List ℕ
with_sum header = take 10 header ++ big_bytes 2 (checksum header) ++ drop 12 header

-- an IPv4 header of 20 bytes
abbrev pub ip4_header : ℕ → ℕ → ℕ → ℕ → ℕ → List ℕ
ip4_header total ttl protocol source destination = with_sum (bare_header total ttl protocol source destination)

unfoldable pub tcp_bytes : Values → List ℕ
tcp_bytes packet = field_bytes 2 packet TcpSrc ++ field_bytes 2 packet TcpDst ++ zeros 8 ++ big_bytes 2 (0x5000 + value packet TcpFlags) ++ zeros 6

unfoldable pub udp_bytes : Values → List ℕ
udp_bytes packet = field_bytes 2 packet UdpSrc ++ field_bytes 2 packet UdpDst ++ big_bytes 2 8 ++ zeros 2

unfoldable pub icmp_bytes : Values → List ℕ
icmp_bytes packet = field_bytes 1 packet Icmp4Type ++ field_bytes 1 packet Icmp4Code ++ zeros 6

-- the first 8 bytes of a quoted packet: of its ports, where its protocol has them
unfoldable pub quoted_bytes : Values → List ℕ
quoted_bytes packet = if has_ports (value packet QuoteProto) then field_bytes 2 packet QuoteSport ++ field_bytes 2 packet QuoteDport ++ zeros 4 else zeros 8

-- the quote of an ICMP error
abbrev pub quote_bytes : Values → List ℕ
quote_bytes packet = ip4_header 28 0 (value packet QuoteProto) (value packet QuoteSrc) (value packet QuoteDst) ++ quoted_bytes packet

-- what follows the IPv4 header
abbrev pub transport_bytes : Values → List ℕ
transport_bytes packet =
    if meets packet Tcp then tcp_bytes packet
    else (if meets packet Udp then udp_bytes packet
    else (if meets packet IcmpError then icmp_bytes packet ++ quote_bytes packet
    else (if meets packet Icmp4 then icmp_bytes packet else [])))

abbrev pub ip4_bytes : Values → List ℕ
ip4_bytes packet =
    ip4_header (20 + length (transport_bytes packet)) (value packet IpTtl) (value packet IpProto) (value packet Ip4Src) (value packet Ip4Dst)
    ++ transport_bytes packet

-- what follows the Ethernet header
abbrev pub payload_bytes : Values → List ℕ
payload_bytes packet = if meets packet Ip4 then ip4_bytes packet else (if meets packet Arp then arp_bytes packet else [])

-- the bytes of the frame that a packet is written as
abbrev pub frame_bytes : Values → List ℕ
frame_bytes packet = ethernet_bytes packet ++ payload_bytes packet

-- a packet that a frame tells whole: normal, with header fields alone, and with ports in a quote only where the quoted protocol has them
pub record IsTold (packet : Values) : Type 0 where
  pub numbers : IsPacket packet
  pub normal : normal packet ≡ packet
  pub headers : headers packet ≡ packet
  pub quoted : has_ports (value packet QuoteProto) ≡ false → (value packet QuoteSport ≡ 0) × (value packet QuoteDport ≡ 0)
