-- The frame that a packet is written as is read as that packet, kind by kind.
use Rattle.std.proofs.Common.{◌≡◌, Bool, true, false, ◌++◌, Some, refl, ap, ◌∙◌}
use Rattle.std.specs.Prelude.{◌==◌, ◌&&◌, if◌then◌else◌}
use Rattle.std.proofs.lemmas.Bool.{eqb-true}
use Rattle.nv_base.specs.declared.field.Field.TheVariants.{EthType, IpProto, IpTtl, Ip4Src, Ip4Dst, Icmp4Type, QuoteProto, QuoteSrc, QuoteDst}
use Rattle.pkt_core.specs.Packet.{Values, value}
use Rattle.pkt_frame.specs.Bytes.{has}
use Rattle.pkt_frame.specs.Read.{has_ports, is_error_type, with_header, with_quoted_ports, with_transport, with_ip4, with_payload, is_arp_of_ip4, arp_fields, frame}
use Rattle.pkt_frame.specs.Written.{IsTold, arp_bytes, tcp_bytes, udp_bytes, icmp_bytes, quote_bytes, quoted_bytes, transport_bytes, ip4_bytes, payload_bytes, frame_bytes}
use Rattle.pkt_frame.proofs.Shapes.{ethernet_packet, ip4_packet, icmp_packet, quoting_packet, is_tcp, is_udp, is_icmp, is_quoting_ports, is_quoting, is_other_ip4, is_arp, is_other}
use Rattle.pkt_frame.proofs.HeaderTrips.{reads_ethernet, reads_arp, reads_ip4, reads_tcp, reads_udp, reads_error, reads_icmp, reads_quote, reads_ports, reads_no_ports}

-- of an IPv4 packet the headers of Ethernet and IPv4 are read
carried_by_ip4 : (k : Values) → IsTold k → value k EthType ≡ 0x800 → frame (frame_bytes k) ≡ with_transport (value k IpProto) (transport_bytes k) (ip4_packet k)
carried_by_ip4 k told ip =
    let is = told.numbers in
    let written : payload_bytes k ≡ ip4_bytes k = rw ip refl in
    let chosen : with_payload (value k EthType) (payload_bytes k) (ethernet_packet k) ≡ with_ip4 (ip4_bytes k) (ethernet_packet k) = λ i. with_payload (ip i) (written i) (ethernet_packet k) in
    reads_ethernet k (payload_bytes k) is ∙ chosen
    ∙ reads_ip4 _ (value k IpTtl) (value k IpProto) (value k Ip4Src) (value k Ip4Dst) (transport_bytes k) (ethernet_packet k) (is.fits IpTtl) (is.fits IpProto) (is.fits Ip4Src) (is.fits Ip4Dst)

tcp : (k : Values) → IsTold k → value k EthType ≡ 0x800 → value k IpProto ≡ 6 → frame (frame_bytes k) ≡ Some k
tcp k told ip six =
    let written : transport_bytes k ≡ tcp_bytes k = rw (ip, six) refl in
    carried_by_ip4 k told ip ∙ (λ i. with_transport (six i) (written i) (ip4_packet k)) ∙ reads_tcp k (ip4_packet k) told.numbers ∙ ap Some (is_tcp k told ip six)

udp : (k : Values) → IsTold k → value k EthType ≡ 0x800 → value k IpProto ≡ 17 → frame (frame_bytes k) ≡ Some k
udp k told ip seventeen =
    let written : transport_bytes k ≡ udp_bytes k = rw (ip, seventeen) refl in
    carried_by_ip4 k told ip ∙ (λ i. with_transport (seventeen i) (written i) (ip4_packet k)) ∙ reads_udp k (ip4_packet k) told.numbers ∙ ap Some (is_udp k told ip seventeen)

-- the quoted ports, where there are any
quoted : (k : Values) → IsTold k → value k EthType ≡ 0x800 → value k IpProto ≡ 1 → is_error_type (value k Icmp4Type) ≡ true → (b : Bool) → has_ports (value k QuoteProto) ≡ b
    → with_quoted_ports (value k QuoteProto) (quoted_bytes k) (quoting_packet k) ≡ Some k
quoted k told ip one error true ported = reads_ports k (quoting_packet k) told.numbers ported ∙ ap Some (is_quoting_ports k told ip one error)
quoted k told ip one error false otherwise = reads_no_ports k (quoting_packet k) otherwise ∙ ap Some (is_quoting k told ip one error otherwise)

-- of an ICMP error the quote is read too
quoting : (k : Values) → IsTold k → value k EthType ≡ 0x800 → value k IpProto ≡ 1 → is_error_type (value k Icmp4Type) ≡ true → (b : Bool) → has_ports (value k QuoteProto) ≡ b → frame (frame_bytes k) ≡ Some k
quoting k told ip one error b ported =
    let is = told.numbers in
    let written : transport_bytes k ≡ icmp_bytes k ++ quote_bytes k = rw (ip, one, error) refl in
    let begun = carried_by_ip4 k told ip ∙ (λ i. with_transport (one i) (written i) (ip4_packet k)) ∙ reads_error k (ip4_packet k) (quote_bytes k) is error
    ∙ reads_quote (value k QuoteProto) (value k QuoteSrc) (value k QuoteDst) (quoted_bytes k) (icmp_packet k) (is.fits QuoteProto) (is.fits QuoteSrc) (is.fits QuoteDst) in
    begun ∙ quoted k told ip one error b ported

icmp : (k : Values) → IsTold k → value k EthType ≡ 0x800 → value k IpProto ≡ 1 → (b : Bool) → is_error_type (value k Icmp4Type) ≡ b → frame (frame_bytes k) ≡ Some k
icmp k told ip one true error = quoting k told ip one error (has_ports (value k QuoteProto)) refl
icmp k told ip one false otherwise =
    let written : transport_bytes k ≡ icmp_bytes k = rw (ip, one, otherwise) refl in
    carried_by_ip4 k told ip ∙ (λ i. with_transport (one i) (written i) (ip4_packet k)) ∙ reads_icmp k (ip4_packet k) told.numbers otherwise ∙ ap Some (is_icmp k told ip one otherwise)

other_ip4 : (k : Values) → IsTold k → value k EthType ≡ 0x800 → (value k IpProto == 6) ≡ false → (value k IpProto == 17) ≡ false → (value k IpProto == 1) ≡ false → frame (frame_bytes k) ≡ Some k
other_ip4 k told ip six seventeen one =
    let read : with_transport (value k IpProto) (transport_bytes k) (ip4_packet k) ≡ Some (ip4_packet k) = rw (six, seventeen, one) refl in
    carried_by_ip4 k told ip ∙ read ∙ ap Some (is_other_ip4 k told ip six seventeen one)

by_protocol : (k : Values) → IsTold k → value k EthType ≡ 0x800 → (a b c : Bool) → (value k IpProto == 6) ≡ a → (value k IpProto == 17) ≡ b → (value k IpProto == 1) ≡ c → frame (frame_bytes k) ≡ Some k
by_protocol k told ip true b c six _ _ = tcp k told ip (eqb-true _ _ six)
by_protocol k told ip false true c _ seventeen _ = udp k told ip (eqb-true _ _ seventeen)
by_protocol k told ip false false true _ _ one = icmp k told ip (eqb-true _ _ one) (is_error_type (value k Icmp4Type)) refl
by_protocol k told ip false false false six seventeen one = other_ip4 k told ip six seventeen one

arp : (k : Values) → IsTold k → value k EthType ≡ 0x806 → frame (frame_bytes k) ≡ Some k
arp k told kind =
    let written : payload_bytes k ≡ arp_bytes k = rw kind refl in
    reads_ethernet k (payload_bytes k) told.numbers ∙ (λ i. with_payload (kind i) (written i) (ethernet_packet k)) ∙ reads_arp k (ethernet_packet k) told.numbers ∙ ap Some (is_arp k told kind)

other : (k : Values) → IsTold k → (value k EthType == 0x800) ≡ false → (value k EthType == 0x806) ≡ false → frame (frame_bytes k) ≡ Some k
other k told ip no_arp =
    let read : with_payload (value k EthType) (payload_bytes k) (ethernet_packet k) ≡ Some (ethernet_packet k) =
    λ i. if ip i then with_ip4 (payload_bytes k) (ethernet_packet k) else (if no_arp i then with_header (has 28 (payload_bytes k) && is_arp_of_ip4 (payload_bytes k)) (arp_fields (payload_bytes k)) (ethernet_packet k) else Some (ethernet_packet k)) in
    reads_ethernet k (payload_bytes k) told.numbers ∙ read ∙ ap Some (is_other k told ip no_arp)

by_type : (k : Values) → IsTold k → (a b : Bool) → (value k EthType == 0x800) ≡ a → (value k EthType == 0x806) ≡ b → frame (frame_bytes k) ≡ Some k
by_type k told true b ip _ = by_protocol k told (eqb-true _ _ ip) (value k IpProto == 6) (value k IpProto == 17) (value k IpProto == 1) refl refl refl
by_type k told false true _ kind = arp k told (eqb-true _ _ kind)
by_type k told false false ip no_arp = other k told ip no_arp

pub trips : (k : Values) → IsTold k → frame (frame_bytes k) ≡ Some k
trips k told = by_type k told (value k EthType == 0x800) (value k EthType == 0x806) refl refl
