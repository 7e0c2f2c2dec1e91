-- A packet that a frame tells whole is what its fields make of the packet of zeros, kind by kind.
use Rattle.std.proofs.Common.{◌≡◌, ℕ, Bool, true, false, [], ◌∷◌, refl, ap, ◌∙◌}
use Rattle.std.specs.Prelude.{◌==◌, ◌||◌}
use Rattle.nv_base.specs.declared.field.Field.{Field}
use Rattle.nv_base.specs.declared.field.Field.TheVariants.{EthSrc, EthDst, EthType, IpProto, IpTtl, Ip4Src, Ip4Dst, ArpOp, ArpSpa, ArpSha, ArpTpa, ArpTha, TcpSrc, TcpDst, TcpFlags, UdpSrc, UdpDst, Icmp4Type, Icmp4Code, QuoteProto, QuoteSrc, QuoteSport, QuoteDst, QuoteDport}
use Rattle.nv_base.specs.Field.{all_fields}
use Rattle.pkt_core.specs.Packet.{Values, value, with_values, zero_packet, only, headers}
use Rattle.pkt_core.specs.Prerequisite.{normal}
use Rattle.pkt_frame.specs.Read.{has_ports}
use Rattle.pkt_frame.specs.Written.{IsTold}

-- a field with its number
abbrev pub same : Values → Field → Field × ℕ
same k field = (field, value k field)

abbrev pub ethernet_packet : Values → Values
ethernet_packet k = with_values zero_packet (same k EthDst ∷ same k EthSrc ∷ same k EthType ∷ [])

abbrev pub arp_packet : Values → Values
arp_packet k = with_values (ethernet_packet k) (same k ArpOp ∷ same k ArpSha ∷ same k ArpSpa ∷ same k ArpTha ∷ same k ArpTpa ∷ [])

abbrev pub ip4_packet : Values → Values
ip4_packet k = with_values (ethernet_packet k) (same k IpTtl ∷ same k IpProto ∷ same k Ip4Src ∷ same k Ip4Dst ∷ [])

abbrev pub tcp_packet : Values → Values
tcp_packet k = with_values (ip4_packet k) (same k TcpSrc ∷ same k TcpDst ∷ same k TcpFlags ∷ [])

abbrev pub udp_packet : Values → Values
udp_packet k = with_values (ip4_packet k) (same k UdpSrc ∷ same k UdpDst ∷ [])

abbrev pub icmp_packet : Values → Values
icmp_packet k = with_values (ip4_packet k) (same k Icmp4Type ∷ same k Icmp4Code ∷ [])

abbrev pub quoting_packet : Values → Values
quoting_packet k = with_values (icmp_packet k) (same k QuoteProto ∷ same k QuoteSrc ∷ same k QuoteDst ∷ [])

abbrev pub ports_packet : Values → Values
ports_packet k = with_values (quoting_packet k) (same k QuoteSport ∷ same k QuoteDport ∷ [])

-- the type of an ICMP error
abbrev pub is_error : Values → Bool
is_error k = (value k Icmp4Type == 3) || (value k Icmp4Type == 11)

-- the packet is its own normal headers
whole : (k : Values) → IsTold k → normal (headers k) ≡ k
whole k told = ap normal told.headers ∙ told.normal

pub is_tcp : (k : Values) → IsTold k → value k EthType ≡ 0x800 → value k IpProto ≡ 6 → tcp_packet k ≡ k
unfolding only all_fields
is_tcp k told ip tcp = let e : tcp_packet k ≡ normal (headers k) = rw (ip, tcp) refl in e ∙ whole k told

pub is_udp : (k : Values) → IsTold k → value k EthType ≡ 0x800 → value k IpProto ≡ 17 → udp_packet k ≡ k
unfolding only all_fields
is_udp k told ip udp = let e : udp_packet k ≡ normal (headers k) = rw (ip, udp) refl in e ∙ whole k told

pub is_icmp : (k : Values) → IsTold k → value k EthType ≡ 0x800 → value k IpProto ≡ 1 → is_error k ≡ false → icmp_packet k ≡ k
unfolding only all_fields
is_icmp k told ip icmp otherwise = let e : icmp_packet k ≡ normal (headers k) = rw (ip, icmp, otherwise) refl in e ∙ whole k told

pub is_quoting_ports : (k : Values) → IsTold k → value k EthType ≡ 0x800 → value k IpProto ≡ 1 → is_error k ≡ true → ports_packet k ≡ k
unfolding only all_fields
is_quoting_ports k told ip icmp error = let e : ports_packet k ≡ normal (headers k) = rw (ip, icmp, error) refl in e ∙ whole k told

pub is_quoting : (k : Values) → IsTold k → value k EthType ≡ 0x800 → value k IpProto ≡ 1 → is_error k ≡ true → has_ports (value k QuoteProto) ≡ false → quoting_packet k ≡ k
unfolding only all_fields
is_quoting k told ip icmp error otherwise =
    let zero_ports = told.quoted otherwise in
    let e : quoting_packet k ≡ normal (headers k) = rw (ip, icmp, error, zero_ports.0, zero_ports.1) refl in
    e ∙ whole k told

pub is_other_ip4 : (k : Values) → IsTold k → value k EthType ≡ 0x800 → (value k IpProto == 6) ≡ false → (value k IpProto == 17) ≡ false → (value k IpProto == 1) ≡ false → ip4_packet k ≡ k
unfolding only all_fields
is_other_ip4 k told ip tcp udp icmp = let e : ip4_packet k ≡ normal (headers k) = rw (ip, tcp, udp, icmp) refl in e ∙ whole k told

pub is_arp : (k : Values) → IsTold k → value k EthType ≡ 0x806 → arp_packet k ≡ k
unfolding only all_fields
is_arp k told arp = let e : arp_packet k ≡ normal (headers k) = rw arp refl in e ∙ whole k told

pub is_other : (k : Values) → IsTold k → (value k EthType == 0x800) ≡ false → (value k EthType == 0x806) ≡ false → ethernet_packet k ≡ k
unfolding only all_fields
is_other k told ip arp = let e : ethernet_packet k ≡ normal (headers k) = rw (ip, arp) refl in e ∙ whole k told
