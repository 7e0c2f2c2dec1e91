-- What is made of packets are packets, and keeps the port that they came in by.
use Rattle.std.proofs.Common.{◌≡◌, ℕ, ◌<◌, ◌^◌, Bool, true, false, cond, List, [], ◌∷◌, eqb, sym, refl, ◌∙◌, lit<}
use Rattle.std.specs.List.{AllByRecursion}
use Rattle.nv_base.specs.declared.field.Field.{Field}
use Rattle.nv_base.specs.declared.field.Field.TheVariants.{Inport, EthSrc, EthDst, EthType, IpProto, IpTtl, Ip4Src, Ip4Dst, ArpOp, ArpSpa, ArpSha, ArpTpa, ArpTha, TcpSrc, TcpDst, TcpFlags, UdpSrc, UdpDst, Icmp4Type, Icmp4Code, QuoteProto, QuoteSrc, QuoteSport, QuoteDst, QuoteDport}
use Rattle.nv_base.specs.declared.field.Prerequisite.TheVariants as needs
use Rattle.nv_base.specs.Field.{field_width, is_header}
use Rattle.pkt_core.specs.Packet.{Values, IsPacket, place, value, with_value, with_values, exchanged, headers, workings, is_working}
use Rattle.pkt_core.specs.Prerequisite.{meets, is_there}
use Rattle.pkt_core.specs.Replies.{start, turned, reset, icmp_back, icmp_error, arp_reply, error_code, error_type}
use Rattle.pkt_core.specs.Tuple.{sport_of, dport_of}
use Rattle.pkt_core.specs.declared.replies.IcmpReason.{IcmpReason}
use Rattle.pkt_core.specs.declared.replies.IcmpReason.TheVariants.{PortUnreachable, TtlExceeded}
use Rattle.pkt_core.proofs.Only.{only_value}
use Rattle.net_meaning.specs.Switches.{rejection}
pub use Rattle.tr_router.proofs.Formed.{Fit, fits_values}
use Rattle.ls_laws.proofs.Packets.{set_value, other_value, fits_with, fits_only}

-- none of these is the field
abbrev pub Others : Field → List (Field × ℕ) → Type 0
Others field numbers = AllByRecursion (λ (p : Field × ℕ). eqb (place p.0) (place field) ≡ false) numbers

pub other_values : (packet : Values) (numbers : List (Field × ℕ)) (field : Field) → Others field numbers → value (with_values packet numbers) field ≡ value packet field
other_values packet [] field others = refl
other_values packet (p ∷ numbers) field others = other_values (with_value packet p.0 p.1) numbers field others.1 ∙ other_value packet p.0 field p.1 others.0

-- two fields of one width exchanged
pub fits_exchanged : (packet : Values) (f g : Field) → field_width f ≡ field_width g → IsPacket packet → IsPacket (exchanged packet f g)
fits_exchanged packet f g same is =
    fits_with (with_value packet f (value packet g)) g (value packet f) (fits_with packet f (value packet g) is (rw same (is.fits g))) (rw (sym same) (is.fits f))

pub other_exchanged : (packet : Values) (f g field : Field) → eqb (place f) (place field) ≡ false → eqb (place g) (place field) ≡ false → value (exchanged packet f g) field ≡ value packet field
other_exchanged packet f g field first second =
    other_value (with_value packet f (value packet g)) g field (value packet f) second ∙ other_value packet f field (value packet g) first

-- ---- a packet that comes in

pub started : (packet : Values) (port : ℕ) → IsPacket packet → port < 2 ^ 32 → IsPacket (start packet port)
started packet port is fits =
    let coming = with_value (headers packet) Inport port in
    fits_only coming (is_there coming) (fits_with (headers packet) Inport port (fits_only packet is_header is) fits)

pub started_inport : (packet : Values) (port : ℕ) → IsPacket packet → value (start packet port) Inport ≡ port
started_inport packet port is =
    let coming = with_value (headers packet) Inport port in
    only_value coming (is_there coming) Inport ∙ set_value (headers packet) Inport port (fits_only packet is_header is).count

-- ---- answers

-- the numbers that an ARP reply changes
abbrev reply_numbers : Values → ℕ → List (Field × ℕ)
reply_numbers packet mac =
    (EthDst, value packet EthSrc) ∷ (EthSrc, mac) ∷ (ArpOp, 2) ∷ (ArpSpa, value packet ArpTpa) ∷ (ArpSha, mac) ∷ (ArpTpa, value packet ArpSpa) ∷ (ArpTha, value packet ArpSha) ∷ []

pub replied : (packet : Values) (mac : ℕ) → IsPacket packet → mac < 2 ^ 48 → IsPacket (arp_reply packet mac)
replied packet mac is fits =
    let fit : Fit (reply_numbers packet mac) = (is.fits EthSrc, (fits, (lit< tt, (is.fits ArpTpa, (fits, (is.fits ArpSpa, (is.fits ArpSha, tt))))))) in
    fits_values packet (reply_numbers packet mac) is fit

pub replied_inport : (packet : Values) (mac : ℕ) → value (arp_reply packet mac) Inport ≡ value packet Inport
replied_inport packet mac =
    let others : Others Inport (reply_numbers packet mac) = (refl, (refl, (refl, (refl, (refl, (refl, (refl, tt))))))) in
    other_values packet (reply_numbers packet mac) Inport others

turned_is : (packet : Values) → IsPacket packet → IsPacket (turned packet)
turned_is packet is = fits_exchanged (exchanged packet EthSrc EthDst) Ip4Src Ip4Dst refl (fits_exchanged packet EthSrc EthDst refl is)

turned_inport : (packet : Values) → value (turned packet) Inport ≡ value packet Inport
turned_inport packet = other_exchanged (exchanged packet EthSrc EthDst) Ip4Src Ip4Dst Inport refl refl ∙ other_exchanged packet EthSrc EthDst Inport refl refl

abbrev reset_numbers : List (Field × ℕ)
reset_numbers = (TcpFlags, 0x14) ∷ (IpTtl, 255) ∷ []

pub reset_is : (packet : Values) → IsPacket packet → IsPacket (reset packet)
reset_is packet is =
    let fit : Fit reset_numbers = (lit< tt, (lit< tt, tt)) in
    fits_values (exchanged (turned packet) TcpSrc TcpDst) reset_numbers (fits_exchanged (turned packet) TcpSrc TcpDst refl (turned_is packet is)) fit

pub reset_inport : (packet : Values) → value (reset packet) Inport ≡ value packet Inport
reset_inport packet =
    let others : Others Inport reset_numbers = (refl, (refl, tt)) in
    other_values (exchanged (turned packet) TcpSrc TcpDst) reset_numbers Inport others ∙ other_exchanged (turned packet) TcpSrc TcpDst Inport refl refl ∙ turned_inport packet

abbrev back_numbers : Values → List (Field × ℕ)
back_numbers packet =
    (EthSrc, value packet EthDst) ∷ (EthDst, value packet EthSrc) ∷ (EthType, 0x800) ∷ (IpProto, 1) ∷ (IpTtl, 255) ∷ (Ip4Src, value packet Ip4Dst) ∷ (Ip4Dst, value packet Ip4Src) ∷ []

abbrev type_numbers : IcmpReason → List (Field × ℕ)
type_numbers reason = (Icmp4Type, error_type reason) ∷ (Icmp4Code, error_code reason) ∷ []

types_fit : (reason : IcmpReason) → Fit (type_numbers reason)
types_fit PortUnreachable = (lit< tt, (lit< tt, tt))
types_fit TtlExceeded = (lit< tt, (lit< tt, tt))

abbrev quote_numbers : Values → List (Field × ℕ)
quote_numbers packet =
    (QuoteProto, value packet IpProto) ∷ (QuoteSrc, value packet Ip4Src) ∷ (QuoteSport, sport_of packet) ∷ (QuoteDst, value packet Ip4Dst) ∷ (QuoteDport, dport_of packet) ∷ []

back_is : (packet : Values) → IsPacket packet → IsPacket (icmp_back packet)
back_is packet is =
    let fit : Fit (back_numbers packet) = (is.fits EthDst, (is.fits EthSrc, (lit< tt, (lit< tt, (lit< tt, (is.fits Ip4Dst, (is.fits Ip4Src, tt))))))) in
    fits_values (workings packet) (back_numbers packet) (fits_only packet is_working is) fit

sport_fits : (packet : Values) → IsPacket packet → sport_of packet < 2 ^ 16
sport_fits packet is = by (meets packet needs.Tcp) (meets packet needs.Udp)
  where
    by : (tcp udp : Bool) → cond tcp (value packet TcpSrc) (cond udp (value packet UdpSrc) 0) < 2 ^ 16
    by true udp = is.fits TcpSrc
    by false true = is.fits UdpSrc
    by false false = lit< tt

dport_fits : (packet : Values) → IsPacket packet → dport_of packet < 2 ^ 16
dport_fits packet is = by (meets packet needs.Tcp) (meets packet needs.Udp)
  where
    by : (tcp udp : Bool) → cond tcp (value packet TcpDst) (cond udp (value packet UdpDst) 0) < 2 ^ 16
    by true udp = is.fits TcpDst
    by false true = is.fits UdpDst
    by false false = lit< tt

pub error_is : (packet : Values) (reason : IcmpReason) → IsPacket packet → IsPacket (icmp_error packet reason)
error_is packet reason is =
    let of_quote : Fit (quote_numbers packet) = (is.fits IpProto, (is.fits Ip4Src, (sport_fits packet is, (is.fits Ip4Dst, (dport_fits packet is, tt))))) in
    fits_values (with_values (icmp_back packet) (type_numbers reason)) (quote_numbers packet) (fits_values (icmp_back packet) (type_numbers reason) (back_is packet is) (types_fit reason)) of_quote

pub error_inport : (packet : Values) (reason : IcmpReason) → value (icmp_error packet reason) Inport ≡ value packet Inport
error_inport packet reason =
    let of_quote : Others Inport (quote_numbers packet) = (refl, (refl, (refl, (refl, (refl, tt))))) in
    let of_type : Others Inport (type_numbers reason) = (refl, (refl, tt)) in
    let of_back : Others Inport (back_numbers packet) = (refl, (refl, (refl, (refl, (refl, (refl, (refl, tt))))))) in
    other_values (with_values (icmp_back packet) (type_numbers reason)) (quote_numbers packet) Inport of_quote
    ∙ other_values (icmp_back packet) (type_numbers reason) Inport of_type
    ∙ other_values (workings packet) (back_numbers packet) Inport of_back
    ∙ only_value packet is_working Inport

-- what answers a packet that is rejected
pub rejection_is : (packet : Values) → IsPacket packet → IsPacket (rejection packet)
rejection_is packet is = by (meets packet needs.Tcp)
  where
    by : (b : Bool) → IsPacket (cond b (reset packet) (icmp_error packet PortUnreachable))
    by true = reset_is packet is
    by false = error_is packet PortUnreachable is

pub rejection_inport : (packet : Values) → value (rejection packet) Inport ≡ value packet Inport
rejection_inport packet = by (meets packet needs.Tcp)
  where
    by : (b : Bool) → value (cond b (reset packet) (icmp_error packet PortUnreachable)) Inport ≡ value packet Inport
    by true = reset_inport packet
    by false = error_inport packet PortUnreachable
