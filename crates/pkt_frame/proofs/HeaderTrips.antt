-- Each header that is written is read as the fields that it was written of.
use Rattle.std.proofs.Common.{◌≡◌, ℕ, ◌+◌, ◌<◌, ◌^◌, ◌%◌, true, false, List, [], ◌∷◌, ◌++◌, length, drop, Some, None, refl, ap, ◌∙◌, arith, length-append}
use Rattle.std.specs.Prelude.{◌&&◌, if◌then◌else◌}
use Rattle.std.proofs.lemmas.Bool.{le-leb}
use Rattle.byteorder.specs.Endian.{big_bytes, big_number}
use Rattle.byteorder.specs.Numbers.{big_number-reads_back}
use Rattle.nv_base.specs.declared.field.Field.TheVariants.{EthSrc, EthDst, EthType, IpProto, IpTtl, Ip4Src, Ip4Dst, ArpOp, ArpSpa, ArpSha, ArpTpa, ArpTha, TcpSrc, TcpDst, TcpFlags, UdpSrc, UdpDst, Icmp4Type, Icmp4Code, QuoteProto, QuoteSrc, QuoteSport, QuoteDst, QuoteDport}
use Rattle.pkt_core.specs.Packet.{Values, value, with_values, zero_packet, IsPacket}
use Rattle.pkt_frame.specs.Bytes.{number_at, has}
use Rattle.pkt_frame.specs.Read.{is_arp_of_ip4, has_ip4_header, is_unfragmented, ip4_payload, arp_fields, quoted_port_fields, is_error_type, has_ports, with_header, with_quoted_ports, with_quote, with_transport, with_ip4, with_payload, frame}
use Rattle.pkt_frame.specs.Written.{field_bytes, zeros, ethernet_bytes, arp_bytes, bare_header, ip4_header, tcp_bytes, udp_bytes, icmp_bytes, quoted_bytes}
use Rattle.pkt_frame.proofs.Shapes.{same, ethernet_packet}

-- the bytes of a number are read as it
reads : (count number : ℕ) → number < 256 ^ count → big_number count (big_bytes count number ++ []) ≡ number
reads count number small = big_number-reads_back count number [] small

-- so many bytes in front are there
has_front : (count : ℕ) (xs ys : List ℕ) → length xs ≡ count → has count (xs ++ ys) ≡ true
has_front count xs ys long = let joined = length-append xs ys in le-leb count (length (xs ++ ys)) (omega (arith, long, joined))

-- Ethernet

from_ethernet : (bytes rest : List ℕ) (d s t : ℕ) → has 14 bytes ≡ true → drop 14 bytes ≡ rest → number_at 0 6 bytes ≡ d → number_at 6 6 bytes ≡ s → number_at 12 2 bytes ≡ t
    → frame bytes ≡ with_payload t rest (with_values zero_packet ((EthDst, d) ∷ (EthSrc, s) ∷ (EthType, t) ∷ []))
from_ethernet bytes rest d s t long after a b c = λ i. if long i then with_payload (c i) (after i) (with_values zero_packet ((EthDst, a i) ∷ (EthSrc, b i) ∷ (EthType, c i) ∷ [])) else None

pub reads_ethernet : (k : Values) (rest : List ℕ) → IsPacket k → frame (ethernet_bytes k ++ rest) ≡ with_payload (value k EthType) rest (ethernet_packet k)
unfolding ethernet_bytes
reads_ethernet k rest is =
    from_ethernet (ethernet_bytes k ++ rest) rest (value k EthDst) (value k EthSrc) (value k EthType) (has_front 14 (ethernet_bytes k) rest refl) refl
    (reads 6 (value k EthDst) (is.fits EthDst)) (reads 6 (value k EthSrc) (is.fits EthSrc)) (reads 2 (value k EthType) (is.fits EthType))

-- ARP

pub reads_arp : (k p : Values) → IsPacket k
    → with_header (has 28 (arp_bytes k) && is_arp_of_ip4 (arp_bytes k)) (arp_fields (arp_bytes k)) p ≡ Some (with_values p (same k ArpOp ∷ same k ArpSha ∷ same k ArpSpa ∷ same k ArpTha ∷ same k ArpTpa ∷ []))
unfolding arp_bytes
reads_arp k p is =
    let op = reads 2 (value k ArpOp) (is.fits ArpOp) in
    let sha = reads 6 (value k ArpSha) (is.fits ArpSha) in
    let spa = reads 4 (value k ArpSpa) (is.fits ArpSpa) in
    let tha = reads 6 (value k ArpTha) (is.fits ArpTha) in
    let tpa = reads 4 (value k ArpTpa) (is.fits ArpTpa) in
    λ i. Some (with_values p ((ArpOp, op i) ∷ (ArpSha, sha i) ∷ (ArpSpa, spa i) ∷ (ArpTha, tha i) ∷ (ArpTpa, tpa i) ∷ []))

-- IPv4

pub has_header : (total ttl protocol source destination : ℕ) (rest : List ℕ) → has_ip4_header (ip4_header total ttl protocol source destination ++ rest) ≡ true
unfolding bare_header
has_header total ttl protocol source destination rest =
    let there = has_front 20 (ip4_header total ttl protocol source destination) rest refl in
    λ i. there i && true && true && there i

from_ip4 : (bytes rest : List ℕ) (p : Values) (l r s d : ℕ) → has_ip4_header bytes ≡ true → is_unfragmented bytes ≡ true → ip4_payload bytes ≡ rest
    → number_at 8 1 bytes ≡ l → number_at 9 1 bytes ≡ r → number_at 12 4 bytes ≡ s → number_at 16 4 bytes ≡ d
    → with_ip4 bytes p ≡ with_transport r rest (with_values p ((IpTtl, l) ∷ (IpProto, r) ∷ (Ip4Src, s) ∷ (Ip4Dst, d) ∷ []))
from_ip4 bytes rest p l r s d there one after a b c e = λ i. if there i && one i then with_transport (b i) (after i) (with_values p ((IpTtl, a i) ∷ (IpProto, b i) ∷ (Ip4Src, c i) ∷ (Ip4Dst, e i) ∷ [])) else None

pub reads_ip4 : (total ttl protocol source destination : ℕ) (rest : List ℕ) (p : Values) → ttl < 256 → protocol < 256 → source < 2 ^ 32 → destination < 2 ^ 32
    → with_ip4 (ip4_header total ttl protocol source destination ++ rest) p ≡ with_transport protocol rest (with_values p ((IpTtl, ttl) ∷ (IpProto, protocol) ∷ (Ip4Src, source) ∷ (Ip4Dst, destination) ∷ []))
unfolding bare_header
reads_ip4 total ttl protocol source destination rest p a b c d =
    from_ip4 (ip4_header total ttl protocol source destination ++ rest) rest p ttl protocol source destination (has_header total ttl protocol source destination rest) refl refl
    (reads 1 ttl a) (reads 1 protocol b) (reads 4 source c) (reads 4 destination d)

-- TCP, UDP

flags_stay : (flags : ℕ) → flags < 0x1000 → (0x5000 + flags) % 0x1000 ≡ flags
flags_stay flags small = omega (arith, small)

flags_fit : (flags : ℕ) → flags < 0x1000 → 0x5000 + flags < 256 ^ 2
flags_fit flags small = omega (arith, small)

pub reads_tcp : (k p : Values) → IsPacket k → with_transport 6 (tcp_bytes k) p ≡ Some (with_values p (same k TcpSrc ∷ same k TcpDst ∷ same k TcpFlags ∷ []))
unfolding tcp_bytes
reads_tcp k p is =
    let src = reads 2 (value k TcpSrc) (is.fits TcpSrc) in
    let dst = reads 2 (value k TcpDst) (is.fits TcpDst) in
    let flags = ap (λ n. n % 0x1000) (reads 2 (0x5000 + value k TcpFlags) (flags_fit (value k TcpFlags) (is.fits TcpFlags))) ∙ flags_stay (value k TcpFlags) (is.fits TcpFlags) in
    λ i. Some (with_values p ((TcpSrc, src i) ∷ (TcpDst, dst i) ∷ (TcpFlags, flags i) ∷ []))

pub reads_udp : (k p : Values) → IsPacket k → with_transport 17 (udp_bytes k) p ≡ Some (with_values p (same k UdpSrc ∷ same k UdpDst ∷ []))
unfolding udp_bytes
reads_udp k p is =
    let src = reads 2 (value k UdpSrc) (is.fits UdpSrc) in
    let dst = reads 2 (value k UdpDst) (is.fits UdpDst) in
    λ i. Some (with_values p ((UdpSrc, src i) ∷ (UdpDst, dst i) ∷ []))

-- ICMP

pub reads_error : (k p : Values) (rest : List ℕ) → IsPacket k → is_error_type (value k Icmp4Type) ≡ true
    → with_transport 1 (icmp_bytes k ++ rest) p ≡ with_quote rest (with_values p (same k Icmp4Type ∷ same k Icmp4Code ∷ []))
unfolding icmp_bytes
reads_error k p rest is error =
    let there = has_front 8 (icmp_bytes k) rest refl in
    let kind = reads 1 (value k Icmp4Type) (is.fits Icmp4Type) in
    let code = reads 1 (value k Icmp4Code) (is.fits Icmp4Code) in
    let read : with_transport 1 (icmp_bytes k ++ rest) p ≡ (if is_error_type (value k Icmp4Type) then with_quote rest (with_values p (same k Icmp4Type ∷ same k Icmp4Code ∷ [])) else Some (with_values p (same k Icmp4Type ∷ same k Icmp4Code ∷ []))) =
    λ i. if there i then (if is_error_type (kind i) then with_quote rest (with_values p ((Icmp4Type, kind i) ∷ (Icmp4Code, code i) ∷ [])) else Some (with_values p ((Icmp4Type, kind i) ∷ (Icmp4Code, code i) ∷ []))) else None in
    read ∙ ap (λ b. if b then with_quote rest (with_values p (same k Icmp4Type ∷ same k Icmp4Code ∷ [])) else Some (with_values p (same k Icmp4Type ∷ same k Icmp4Code ∷ []))) error

pub reads_icmp : (k p : Values) → IsPacket k → is_error_type (value k Icmp4Type) ≡ false
    → with_transport 1 (icmp_bytes k) p ≡ Some (with_values p (same k Icmp4Type ∷ same k Icmp4Code ∷ []))
unfolding icmp_bytes
reads_icmp k p is otherwise =
    let kind = reads 1 (value k Icmp4Type) (is.fits Icmp4Type) in
    let code = reads 1 (value k Icmp4Code) (is.fits Icmp4Code) in
    let read : with_transport 1 (icmp_bytes k) p ≡ (if is_error_type (value k Icmp4Type) then with_quote [] (with_values p (same k Icmp4Type ∷ same k Icmp4Code ∷ [])) else Some (with_values p (same k Icmp4Type ∷ same k Icmp4Code ∷ []))) =
    λ i. if is_error_type (kind i) then with_quote [] (with_values p ((Icmp4Type, kind i) ∷ (Icmp4Code, code i) ∷ [])) else Some (with_values p ((Icmp4Type, kind i) ∷ (Icmp4Code, code i) ∷ [])) in
    read ∙ ap (λ b. if b then with_quote [] (with_values p (same k Icmp4Type ∷ same k Icmp4Code ∷ [])) else Some (with_values p (same k Icmp4Type ∷ same k Icmp4Code ∷ []))) otherwise

-- quotes

from_quote : (bytes rest : List ℕ) (p : Values) (r s d : ℕ) → has_ip4_header bytes ≡ true → ip4_payload bytes ≡ rest
    → number_at 9 1 bytes ≡ r → number_at 12 4 bytes ≡ s → number_at 16 4 bytes ≡ d
    → with_quote bytes p ≡ with_quoted_ports r rest (with_values p ((QuoteProto, r) ∷ (QuoteSrc, s) ∷ (QuoteDst, d) ∷ []))
from_quote bytes rest p r s d there after a b c = λ i. if there i then with_quoted_ports (a i) (after i) (with_values p ((QuoteProto, a i) ∷ (QuoteSrc, b i) ∷ (QuoteDst, c i) ∷ [])) else None

pub reads_quote : (protocol source destination : ℕ) (rest : List ℕ) (p : Values) → protocol < 256 → source < 2 ^ 32 → destination < 2 ^ 32
    → with_quote (ip4_header 28 0 protocol source destination ++ rest) p ≡ with_quoted_ports protocol rest (with_values p ((QuoteProto, protocol) ∷ (QuoteSrc, source) ∷ (QuoteDst, destination) ∷ []))
unfolding bare_header
reads_quote protocol source destination rest p a b c =
    from_quote (ip4_header 28 0 protocol source destination ++ rest) rest p protocol source destination (has_header 28 0 protocol source destination rest) refl
    (reads 1 protocol a) (reads 4 source b) (reads 4 destination c)

pub reads_ports : (k p : Values) → IsPacket k → has_ports (value k QuoteProto) ≡ true
    → with_quoted_ports (value k QuoteProto) (quoted_bytes k) p ≡ Some (with_values p (same k QuoteSport ∷ same k QuoteDport ∷ []))
unfolding quoted_bytes
reads_ports k p is ported =
    let src = reads 2 (value k QuoteSport) (is.fits QuoteSport) in
    let dst = reads 2 (value k QuoteDport) (is.fits QuoteDport) in
    let ports : List ℕ = field_bytes 2 k QuoteSport ++ field_bytes 2 k QuoteDport ++ zeros 4 in
    let written : quoted_bytes k ≡ ports = ap (λ b. if b then ports else zeros 8) ported in
    let chosen : with_quoted_ports (value k QuoteProto) (quoted_bytes k) p ≡ with_header true (quoted_port_fields ports) p = λ i. if ported i then with_header (has 4 (written i)) (quoted_port_fields (written i)) p else Some p in
    chosen ∙ (λ i. Some (with_values p ((QuoteSport, src i) ∷ (QuoteDport, dst i) ∷ [])))

pub reads_no_ports : (k p : Values) → has_ports (value k QuoteProto) ≡ false → with_quoted_ports (value k QuoteProto) (quoted_bytes k) p ≡ Some p
reads_no_ports k p otherwise = ap (λ b. if b then with_header (has 4 (quoted_bytes k)) (quoted_port_fields (quoted_bytes k)) p else Some p) otherwise
