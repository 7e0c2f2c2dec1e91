-- A frame as a packet: Ethernet (IEEE 802.3), IPv4 (RFC 791), TCP (RFC 9293), UDP (RFC 768), ICMP (RFC 792), ARP (RFC 826).
-- Which headers are looked at, and what a frame needs, is not from OVN.
use Rattle.std.specs.Prelude.{ℕ, ◌*◌, ◌/◌, ◌%◌, ◌==◌, nat_le, Bool, ◌&&◌, ◌||◌, List, [], ◌∷◌, drop, Option, Some, None, if◌then◌else◌}
use Rattle.nv_base.specs.declared.field.Field.{Field}
use Rattle.nv_base.specs.declared.field.Field.TheVariants.{EthSrc, EthDst, EthType, IpProto, IpTtl, Ip4Src, Ip4Dst, ArpOp, ArpSpa, ArpSha, ArpTpa, ArpTha, TcpSrc, TcpDst, TcpFlags, UdpSrc, UdpDst, Icmp4Type, Icmp4Code, QuoteProto, QuoteSrc, QuoteSport, QuoteDst, QuoteDport}
use Rattle.pkt_core.specs.Packet.{Values, with_values, zero_packet}
use Rattle.pkt_frame.specs.Bytes.{number_at, has}

-- the fields of each header, and where they stand in it

abbrev pub ethernet_fields : List ℕ → List (Field × ℕ)
ethernet_fields bytes = (EthDst, number_at 0 6 bytes) ∷ (EthSrc, number_at 6 6 bytes) ∷ (EthType, number_at 12 2 bytes) ∷ []

abbrev pub arp_fields : List ℕ → List (Field × ℕ)
arp_fields bytes = (ArpOp, number_at 6 2 bytes) ∷ (ArpSha, number_at 8 6 bytes) ∷ (ArpSpa, number_at 14 4 bytes) ∷ (ArpTha, number_at 18 6 bytes) ∷ (ArpTpa, number_at 24 4 bytes) ∷ []

abbrev pub ip4_fields : List ℕ → List (Field × ℕ)
ip4_fields bytes = (IpTtl, number_at 8 1 bytes) ∷ (IpProto, number_at 9 1 bytes) ∷ (Ip4Src, number_at 12 4 bytes) ∷ (Ip4Dst, number_at 16 4 bytes) ∷ []

-- the flags of TCP are the lowest 12 bits of their 16
abbrev pub tcp_fields : List ℕ → List (Field × ℕ)
tcp_fields bytes = (TcpSrc, number_at 0 2 bytes) ∷ (TcpDst, number_at 2 2 bytes) ∷ (TcpFlags, number_at 12 2 bytes % 0x1000) ∷ []

abbrev pub udp_fields : List ℕ → List (Field × ℕ)
udp_fields bytes = (UdpSrc, number_at 0 2 bytes) ∷ (UdpDst, number_at 2 2 bytes) ∷ []

abbrev pub icmp_fields : List ℕ → List (Field × ℕ)
icmp_fields bytes = (Icmp4Type, number_at 0 1 bytes) ∷ (Icmp4Code, number_at 1 1 bytes) ∷ []

abbrev pub quote_fields : List ℕ → List (Field × ℕ)
quote_fields bytes = (QuoteProto, number_at 9 1 bytes) ∷ (QuoteSrc, number_at 12 4 bytes) ∷ (QuoteDst, number_at 16 4 bytes) ∷ []

abbrev pub quoted_port_fields : List ℕ → List (Field × ℕ)
quoted_port_fields bytes = (QuoteSport, number_at 0 2 bytes) ∷ (QuoteDport, number_at 2 2 bytes) ∷ []

-- the ARP is one of Ethernet and IPv4: its kinds and the lengths of their addresses
abbrev pub is_arp_of_ip4 : List ℕ → Bool
is_arp_of_ip4 bytes = (number_at 0 2 bytes == 1) && (number_at 2 2 bytes == 0x800) && (number_at 4 1 bytes == 6) && (number_at 5 1 bytes == 4)

-- how many bytes an IPv4 header says that it has, its options among them
abbrev pub header_length : List ℕ → ℕ
header_length bytes = number_at 0 1 bytes % 16 * 4

-- a whole IPv4 header is there
abbrev pub has_ip4_header : List ℕ → Bool
has_ip4_header bytes = has 20 bytes && (number_at 0 1 bytes / 16 == 4) && nat_le 20 (header_length bytes) && has (header_length bytes) bytes

-- what follows the header
abbrev pub ip4_payload : List ℕ → List ℕ
ip4_payload bytes = drop (header_length bytes) bytes

-- the IPv4 packet is no fragment: no offset, and no more fragments
abbrev pub is_unfragmented : List ℕ → Bool
is_unfragmented bytes = number_at 6 2 bytes % 0x4000 == 0

-- the packet with the fields of a header
abbrev pub with_header : Bool → List (Field × ℕ) → Values → Option Values
with_header there fields packet = if there then Some (with_values packet fields) else None

-- the protocol has ports: TCP and UDP
abbrev pub has_ports : ℕ → Bool
has_ports protocol = (protocol == 6) || (protocol == 17)

-- the packet with the ports of a quoted packet of TCP or UDP
abbrev pub with_quoted_ports : ℕ → List ℕ → Values → Option Values
with_quoted_ports protocol bytes packet = if has_ports protocol then with_header (has 4 bytes) (quoted_port_fields bytes) packet else Some packet

-- the packet with its quote, which may be a fragment
abbrev pub with_quote : List ℕ → Values → Option Values
with_quote bytes packet = if has_ip4_header bytes then with_quoted_ports (number_at 9 1 bytes) (ip4_payload bytes) (with_values packet (quote_fields bytes)) else None

-- the type of an ICMP error: destination unreachable, time exceeded
abbrev pub is_error_type : ℕ → Bool
is_error_type kind = (kind == 3) || (kind == 11)

-- the packet with the fields of ICMP; an error quotes the packet that it is about
abbrev pub with_icmp : List ℕ → Values → Option Values
with_icmp bytes packet =
    if has 8 bytes then
    (if is_error_type (number_at 0 1 bytes)
    then with_quote (drop 8 bytes) (with_values packet (icmp_fields bytes))
    else Some (with_values packet (icmp_fields bytes)))
    else None

-- the packet with the fields of the protocol over IPv4
abbrev pub with_transport : ℕ → List ℕ → Values → Option Values
with_transport protocol bytes packet =
    if protocol == 1 then with_icmp bytes packet
    else (if protocol == 6 then with_header (has 20 bytes) (tcp_fields bytes) packet
    else (if protocol == 17 then with_header (has 8 bytes) (udp_fields bytes) packet
    else Some packet))

-- the packet with the fields of IPv4
abbrev pub with_ip4 : List ℕ → Values → Option Values
with_ip4 bytes packet =
    if has_ip4_header bytes && is_unfragmented bytes
    then with_transport (number_at 9 1 bytes) (ip4_payload bytes) (with_values packet (ip4_fields bytes))
    else None

-- the packet with what an Ethernet type carries; of other types than IPv4 and ARP nothing is looked at
abbrev pub with_payload : ℕ → List ℕ → Values → Option Values
with_payload kind bytes packet =
    if kind == 0x800 then with_ip4 bytes packet
    else (if kind == 0x806 then with_header (has 28 bytes && is_arp_of_ip4 bytes) (arp_fields bytes) packet
    else Some packet)

-- the packet that a frame is: none where the bytes lack what their headers need; fields that are not in the frame are zero
abbrev pub frame : List ℕ → Option Values
frame bytes =
    if has 14 bytes
    then with_payload (number_at 12 2 bytes) (drop 14 bytes) (with_values zero_packet (ethernet_fields bytes))
    else None
