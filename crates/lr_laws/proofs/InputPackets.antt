-- What the rows of input make of a packet that the router answers is the packet that the meaning says.
use Rattle.std.proofs.Common.{◌≡◌, ℕ, cond, List, [], ◌∷◌, ◌++◌, length, eqb, sym, ap, refl, ◌∙◌}
use Rattle.std.specs.Prelude.{◌&&◌, false}
use Rattle.nv_base.specs.Field.{field_count}
use Rattle.nv_base.specs.declared.field.Field.{Field}
use Rattle.nv_base.specs.declared.field.Field.TheVariants.{Inport, Outport, FlagsLoopback, EthSrc, EthDst, EthType, IpProto, IpTtl, Ip4Src, Ip4Dst, ArpOp, ArpSpa, ArpSha, ArpTpa, ArpTha, TcpSrc, TcpDst, TcpFlags, UdpSrc, UdpDst, Icmp4Type, Icmp4Code, QuoteProto, QuoteSrc, QuoteSport, QuoteDst, QuoteDport, Reg6}
use Rattle.pkt_core.specs.Packet.{Values, is_working, place, value, value_only, with_value, with_values, workings}
use Rattle.pkt_core.specs.Replies.{arp_reply, icmp_error, reset}
use Rattle.pkt_core.specs.Tuple.{dport_of, sport_of}
use Rattle.pkt_core.specs.declared.replies.IcmpReason.{IcmpReason}
use Rattle.pkt_core.specs.declared.replies.IcmpReason.TheVariants.{PortUnreachable, TtlExceeded}
use Rattle.pkt_core.proofs.Only.{length-only, only_value}
use Rattle.nb_records.specs.declared.router.RouterPort.{RouterPort}
use Rattle.net_meaning.specs.Switches.{turned_back}
use Rattle.net_router.specs.Input.{echo_reply}
use Rattle.ls_laws.proofs.Packets.{other_value, same_packets, with_length}
use Rattle.lr_laws.specs.Steps.{CameIn, HasMac, going_back}
use Rattle.lr_laws.proofs.Changes.{changed_length, changed_value, number_after, same_changes}

-- ---- what answers change

module _ (packet : Values) where
  -- the Ethernet addresses exchanged, and then those of IPv4
  abbrev ethernet : List (Field × ℕ)
  ethernet = (EthSrc, value packet EthDst) ∷ (EthDst, value packet EthSrc) ∷ []

  abbrev addressed : List (Field × ℕ)
  addressed =
      (EthSrc, value packet EthDst) ∷ (EthDst, value packet EthSrc) ∷ (Ip4Src, value (with_values packet ethernet) Ip4Dst) ∷ (Ip4Dst, value (with_values packet ethernet) Ip4Src) ∷ []

  -- a reset
  abbrev reset_changes : List (Field × ℕ)
  reset_changes =
      (EthSrc, value packet EthDst) ∷ (EthDst, value packet EthSrc) ∷ (Ip4Src, value packet Ip4Dst) ∷ (Ip4Dst, value packet Ip4Src)
      ∷ (TcpSrc, value packet TcpDst) ∷ (TcpDst, value packet TcpSrc) ∷ (TcpFlags, 0x14) ∷ (IpTtl, 255) ∷ []

  reset_is : length packet ≡ field_count → reset packet ≡ with_values packet reset_changes
  reset_is long =
      λ i. with_values packet
      ((EthSrc, value packet EthDst) ∷ (EthDst, value packet EthSrc) ∷ (Ip4Src, changed_value packet ethernet Ip4Dst long i) ∷ (Ip4Dst, changed_value packet ethernet Ip4Src long i)
      ∷ (TcpSrc, changed_value packet addressed TcpDst long i) ∷ (TcpDst, changed_value packet addressed TcpSrc long i) ∷ (TcpFlags, 0x14) ∷ (IpTtl, 255) ∷ [])

  -- an ICMP error of a type and a code, of the packet's working fields
  abbrev error_changes : ℕ → ℕ → List (Field × ℕ)
  error_changes type code =
      (EthSrc, value packet EthDst) ∷ (EthDst, value packet EthSrc) ∷ (EthType, 0x800) ∷ (IpProto, 1) ∷ (IpTtl, 255) ∷ (Ip4Src, value packet Ip4Dst) ∷ (Ip4Dst, value packet Ip4Src)
      ∷ (Icmp4Type, type) ∷ (Icmp4Code, code)
      ∷ (QuoteProto, value packet IpProto) ∷ (QuoteSrc, value packet Ip4Src) ∷ (QuoteSport, sport_of packet) ∷ (QuoteDst, value packet Ip4Dst) ∷ (QuoteDport, dport_of packet) ∷ []

  -- an ARP reply from a MAC
  abbrev arp_changes : ℕ → List (Field × ℕ)
  arp_changes mac =
      (EthDst, value packet EthSrc) ∷ (EthSrc, mac) ∷ (ArpOp, 2) ∷ (ArpSpa, value packet ArpTpa) ∷ (ArpSha, mac) ∷ (ArpTpa, value packet ArpSpa) ∷ (ArpTha, value packet ArpSha) ∷ []

  -- an echo reply from a MAC
  abbrev echo_changes : ℕ → List (Field × ℕ)
  echo_changes mac =
      (Ip4Src, value packet Ip4Dst) ∷ (Ip4Dst, value packet Ip4Src) ∷ (EthSrc, mac) ∷ (EthDst, value packet EthSrc) ∷ (IpTtl, 255) ∷ (Icmp4Type, 0) ∷ []

-- ---- the answers to a packet that is to go out by a port are those to the packet, to go out by the port

module _ (packet : Values) (long : length packet ≡ field_count) (out : ℕ) where
  abbrev back : Values
  back = with_value packet Outport out

  -- other fields stay
  abbrev IsOther : Field → Type 0
  IsOther field = eqb (place Outport) (place field) ≡ false

  pub kept : (field : Field) → IsOther field → value back field ≡ value packet field
  kept field other = other_value packet Outport field out other

  reset_changes_kept : reset_changes back ≡ reset_changes packet
  reset_changes_kept =
      λ i. (EthSrc, kept EthDst refl i) ∷ (EthDst, kept EthSrc refl i) ∷ (Ip4Src, kept Ip4Dst refl i) ∷ (Ip4Dst, kept Ip4Src refl i)
      ∷ (TcpSrc, kept TcpDst refl i) ∷ (TcpDst, kept TcpSrc refl i) ∷ (TcpFlags, 0x14) ∷ (IpTtl, 255) ∷ []

  pub reset_back : reset back ≡ with_value (reset packet) Outport out
  reset_back =
      reset_is back (with_length packet Outport out long) ∙ ap (with_values back) reset_changes_kept
      ∙ same_changes packet ((Outport, out) ∷ reset_changes packet) (reset_changes packet ++ ((Outport, out) ∷ [])) long by
      ∙ ap (λ p. with_value p Outport out) (sym (reset_is packet long))
    where
      by : (field : Field) (old : ℕ) → number_after ((Outport, out) ∷ reset_changes packet) field old ≡ number_after (reset_changes packet ++ ((Outport, out) ∷ [])) field old
      by Outport old = refl
      by _ old = refl

  -- the tuple stays
  sport_kept : sport_of back ≡ sport_of packet
  sport_kept =
      λ i. cond (eqb (kept EthType refl i) 0x800 && eqb (kept IpProto refl i) 6) (kept TcpSrc refl i) (cond (eqb (kept EthType refl i) 0x800 && eqb (kept IpProto refl i) 17) (kept UdpSrc refl i) 0)

  dport_kept : dport_of back ≡ dport_of packet
  dport_kept =
      λ i. cond (eqb (kept EthType refl i) 0x800 && eqb (kept IpProto refl i) 6) (kept TcpDst refl i) (cond (eqb (kept EthType refl i) 0x800 && eqb (kept IpProto refl i) 17) (kept UdpDst refl i) 0)

  workings_back : workings back ≡ with_value (workings packet) Outport out
  workings_back =
      same_packets (workings back) (with_value (workings packet) Outport out) (length-only back is_working) (with_length (workings packet) Outport out (length-only packet is_working))
      (λ field.
      only_value back is_working field ∙ ap (λ n. cond (is_working field) n 0) (changed_value packet ((Outport, out) ∷ []) field long) ∙ by field
      ∙ ap (number_after ((Outport, out) ∷ []) field) (sym (only_value packet is_working field)) ∙ sym (changed_value (workings packet) ((Outport, out) ∷ []) field (length-only packet is_working)))
    where
      by : (field : Field) → cond (is_working field) (number_after ((Outport, out) ∷ []) field (value packet field)) 0 ≡ number_after ((Outport, out) ∷ []) field (value_only packet is_working field)
      by Outport = refl
      by _ = refl

  error_back_with : (type code : ℕ) → with_values (workings back) (error_changes back type code) ≡ with_value (with_values (workings packet) (error_changes packet type code)) Outport out
  error_back_with type code =
      (λ i. with_values (workings_back i)
      ((EthSrc, kept EthDst refl i) ∷ (EthDst, kept EthSrc refl i) ∷ (EthType, 0x800) ∷ (IpProto, 1) ∷ (IpTtl, 255) ∷ (Ip4Src, kept Ip4Dst refl i) ∷ (Ip4Dst, kept Ip4Src refl i)
      ∷ (Icmp4Type, type) ∷ (Icmp4Code, code)
      ∷ (QuoteProto, kept IpProto refl i) ∷ (QuoteSrc, kept Ip4Src refl i) ∷ (QuoteSport, sport_kept i) ∷ (QuoteDst, kept Ip4Dst refl i) ∷ (QuoteDport, dport_kept i) ∷ []))
      ∙ same_changes (workings packet) ((Outport, out) ∷ error_changes packet type code) (error_changes packet type code ++ ((Outport, out) ∷ [])) (length-only packet is_working) by
    where
      by : (field : Field) (old : ℕ) → number_after ((Outport, out) ∷ error_changes packet type code) field old ≡ number_after (error_changes packet type code ++ ((Outport, out) ∷ [])) field old
      by Outport old = refl
      by _ old = refl

  pub error_back : (reason : IcmpReason) → icmp_error back reason ≡ with_value (icmp_error packet reason) Outport out
  error_back PortUnreachable = error_back_with 3 3
  error_back TtlExceeded = error_back_with 11 0

-- ---- what rows make of the packet

module _ (port : RouterPort) (packet : Values) (long : length packet ≡ field_count) (at : CameIn port packet) (has : HasMac port packet) where
  abbrev turned : Values
  turned = going_back port packet

  -- what the rows change for an ARP reply, up to where they take a number over
  abbrev after_destination : List (Field × ℕ)
  after_destination = (EthDst, value packet EthSrc) ∷ []

  abbrev after_operation : ℕ → List (Field × ℕ)
  after_operation mac = (EthDst, value packet EthSrc) ∷ (EthSrc, mac) ∷ (ArpOp, 2) ∷ []

  abbrev after_target : ℕ → ℕ → List (Field × ℕ)
  after_target mac sender = (EthDst, value packet EthSrc) ∷ (EthSrc, mac) ∷ (ArpOp, 2) ∷ (ArpTha, sender) ∷ []

  abbrev after_sender : ℕ → ℕ → ℕ → List (Field × ℕ)
  after_sender mac sender own = (EthDst, value packet EthSrc) ∷ (EthSrc, mac) ∷ (ArpOp, 2) ∷ (ArpTha, sender) ∷ (ArpSha, own) ∷ []

  abbrev after_addresses : ℕ → ℕ → ℕ → ℕ → ℕ → List (Field × ℕ)
  after_addresses mac sender own target source = (EthDst, value packet EthSrc) ∷ (EthSrc, mac) ∷ (ArpOp, 2) ∷ (ArpTha, sender) ∷ (ArpSha, own) ∷ (ArpTpa, target) ∷ (ArpSpa, source) ∷ []

  abbrev replying : ℕ → ℕ → ℕ → ℕ → ℕ → ℕ → List (Field × ℕ)
  replying mac sender own target source out =
      (EthDst, value packet EthSrc) ∷ (EthSrc, mac) ∷ (ArpOp, 2) ∷ (ArpTha, sender) ∷ (ArpSha, own) ∷ (ArpTpa, target) ∷ (ArpSpa, source) ∷ (Outport, out) ∷ (FlagsLoopback, 1) ∷ []

  -- these numbers
  abbrev arp_mac : ℕ
  arp_mac = value (with_values packet after_destination) Reg6

  abbrev arp_sender : ℕ
  arp_sender = value (with_values packet (after_operation arp_mac)) ArpSha

  abbrev arp_own : ℕ
  arp_own = value (with_values packet (after_target arp_mac arp_sender)) Reg6

  abbrev arp_target : ℕ
  arp_target = value (with_values packet (after_sender arp_mac arp_sender arp_own)) ArpSpa

  abbrev arp_source : ℕ
  arp_source = value (with_values packet (after_sender arp_mac arp_sender arp_own)) ArpTpa

  abbrev arp_out : ℕ
  arp_out = value (with_values packet (after_addresses arp_mac arp_sender arp_own arp_target arp_source)) Inport

  pub replied : with_values packet (replying arp_mac arp_sender arp_own arp_target arp_source arp_out) ≡ turned_back (arp_reply turned port.mac)
  replied =
      (λ i. with_values packet
      (replying ((changed_value packet after_destination Reg6 long ∙ has) i) (changed_value packet (after_operation arp_mac) ArpSha long i) ((changed_value packet (after_target arp_mac arp_sender) Reg6 long ∙ has) i)
      (changed_value packet (after_sender arp_mac arp_sender arp_own) ArpSpa long i) (changed_value packet (after_sender arp_mac arp_sender arp_own) ArpTpa long i)
      ((changed_value packet (after_addresses arp_mac arp_sender arp_own arp_target arp_source) Inport long ∙ at) i)))
      ∙ same_changes packet made ((Outport, port.id.0) ∷ arp_changes packet port.mac ++ ((FlagsLoopback, 1) ∷ [])) long by
      ∙ (λ i. turned_back (with_values turned
      ((EthDst, back_is EthSrc refl i) ∷ (EthSrc, port.mac) ∷ (ArpOp, 2) ∷ (ArpSpa, back_is ArpTpa refl i) ∷ (ArpSha, port.mac) ∷ (ArpTpa, back_is ArpSpa refl i) ∷ (ArpTha, back_is ArpSha refl i) ∷ [])))
    where
      made : List (Field × ℕ)
      made = replying port.mac (value packet ArpSha) port.mac (value packet ArpSpa) (value packet ArpTpa) port.id.0

      by : (field : Field) (old : ℕ) → number_after made field old ≡ number_after ((Outport, port.id.0) ∷ arp_changes packet port.mac ++ ((FlagsLoopback, 1) ∷ [])) field old
      by Outport old = refl
      by _ old = refl

      back_is : (field : Field) → eqb (place Outport) (place field) ≡ false → value packet field ≡ value turned field
      back_is field other = sym (kept packet long port.id.0 field other)

  -- and for an echo reply
  abbrev after_macs : ℕ → List (Field × ℕ)
  after_macs mac = (EthDst, value packet EthSrc) ∷ (EthSrc, mac) ∷ []

  abbrev after_type : ℕ → ℕ → ℕ → List (Field × ℕ)
  after_type mac target source = (EthDst, value packet EthSrc) ∷ (EthSrc, mac) ∷ (Ip4Dst, target) ∷ (Ip4Src, source) ∷ (IpTtl, 255) ∷ (Icmp4Type, 0) ∷ []

  abbrev echoing : ℕ → ℕ → ℕ → ℕ → List (Field × ℕ)
  echoing mac target source out =
      (EthDst, value packet EthSrc) ∷ (EthSrc, mac) ∷ (Ip4Dst, target) ∷ (Ip4Src, source) ∷ (IpTtl, 255) ∷ (Icmp4Type, 0) ∷ (Outport, out) ∷ (FlagsLoopback, 1) ∷ []

  abbrev echo_target : ℕ
  echo_target = value (with_values packet (after_macs arp_mac)) Ip4Src

  abbrev echo_source : ℕ
  echo_source = value (with_values packet (after_macs arp_mac)) Ip4Dst

  abbrev echo_out : ℕ
  echo_out = value (with_values packet (after_type arp_mac echo_target echo_source)) Inport

  pub echoed : with_values packet (echoing arp_mac echo_target echo_source echo_out) ≡ turned_back (echo_reply port turned)
  echoed =
      (λ i. with_values packet
      (echoing ((changed_value packet after_destination Reg6 long ∙ has) i) (changed_value packet (after_macs arp_mac) Ip4Src long i) (changed_value packet (after_macs arp_mac) Ip4Dst long i)
      ((changed_value packet (after_type arp_mac echo_target echo_source) Inport long ∙ at) i)))
      ∙ same_changes packet made ((Outport, port.id.0) ∷ echo_changes packet port.mac ++ ((FlagsLoopback, 1) ∷ [])) long by
      ∙ (λ i. turned_back (with_values turned
      ((Ip4Src, back_is Ip4Dst refl i) ∷ (Ip4Dst, back_is Ip4Src refl i) ∷ (EthSrc, port.mac) ∷ (EthDst, sent_to i) ∷ (IpTtl, 255) ∷ (Icmp4Type, 0) ∷ [])))
    where
      made : List (Field × ℕ)
      made = echoing port.mac (value packet Ip4Src) (value packet Ip4Dst) port.id.0

      by : (field : Field) (old : ℕ) → number_after made field old ≡ number_after ((Outport, port.id.0) ∷ echo_changes packet port.mac ++ ((FlagsLoopback, 1) ∷ [])) field old
      by Outport old = refl
      by _ old = refl

      back_is : (field : Field) → eqb (place Outport) (place field) ≡ false → value packet field ≡ value turned field
      back_is field other = sym (kept packet long port.id.0 field other)

      sent_to : value packet EthSrc ≡ value turned EthSrc
      sent_to = back_is EthSrc refl

-- ---- what rows make of an answer

-- an answer, from the MAC in its `reg6` out by its `inport`
abbrev pub sent_back : Values → Values
sent_back answer =
    with_values answer ((EthSrc, value answer Reg6) ∷ (Outport, value (with_value answer EthSrc (value answer Reg6)) Inport) ∷ (FlagsLoopback, 1) ∷ [])

module _ (port : RouterPort) (answer : Values) (long : length answer ≡ field_count) (at : CameIn port answer) (has : HasMac port answer) where
  pub sent_back_is : sent_back answer ≡ turned_back (with_value (with_value answer Outport port.id.0) EthSrc port.mac)
  sent_back_is =
      (λ i. with_values answer ((EthSrc, has i) ∷ (Outport, (changed_value answer ((EthSrc, value answer Reg6) ∷ []) Inport long ∙ at) i) ∷ (FlagsLoopback, 1) ∷ []))
      ∙ same_changes answer ((EthSrc, port.mac) ∷ (Outport, port.id.0) ∷ (FlagsLoopback, 1) ∷ []) ((Outport, port.id.0) ∷ (EthSrc, port.mac) ∷ (FlagsLoopback, 1) ∷ []) long by
    where
      by : (field : Field) (old : ℕ) → number_after ((EthSrc, port.mac) ∷ (Outport, port.id.0) ∷ (FlagsLoopback, 1) ∷ []) field old
          ≡ number_after ((Outport, port.id.0) ∷ (EthSrc, port.mac) ∷ (FlagsLoopback, 1) ∷ []) field old
      by Outport old = refl
      by _ old = refl

-- ---- what rows make of the packet that answers, where they make one

module _ (port : RouterPort) (packet : Values) (long : length packet ≡ field_count) (at : CameIn port packet) (has : HasMac port packet) where
  pub reset_sent : sent_back (reset packet) ≡ turned_back (with_value (reset (going_back port packet)) EthSrc port.mac)
  reset_sent =
      sent_back_is port (reset packet) (ap length (reset_is packet long) ∙ changed_length packet (reset_changes packet) long)
      (ap (λ p. value p Inport) (reset_is packet long) ∙ changed_value packet (reset_changes packet) Inport long ∙ at)
      (ap (λ p. value p Reg6) (reset_is packet long) ∙ changed_value packet (reset_changes packet) Reg6 long ∙ has)
      ∙ ap (λ p. turned_back (with_value p EthSrc port.mac)) (sym (reset_back packet long port.id.0))

  -- an ICMP error
  abbrev unreachable : Values
  unreachable = icmp_error packet PortUnreachable

  of_port : CameIn port unreachable
  of_port = changed_value (workings packet) (error_changes packet 3 3) Inport (length-only packet is_working) ∙ only_value packet is_working Inport ∙ at

  with_mac : HasMac port unreachable
  with_mac = changed_value (workings packet) (error_changes packet 3 3) Reg6 (length-only packet is_working) ∙ only_value packet is_working Reg6 ∙ has

  full : length unreachable ≡ field_count
  full = changed_length (workings packet) (error_changes packet 3 3) (length-only packet is_working)

  pub error_sent : sent_back unreachable ≡ turned_back (with_value (icmp_error (going_back port packet) PortUnreachable) EthSrc port.mac)
  error_sent = sent_back_is port unreachable full of_port with_mac ∙ ap (λ p. turned_back (with_value p EthSrc port.mac)) (sym (error_back packet long port.id.0 PortUnreachable))

  -- one that the time to live was exceeded, from an address
  module _ (from : ℕ) where
    abbrev expired : ℕ → List (Field × ℕ)
    expired mac = (EthSrc, mac) ∷ (Icmp4Type, 11) ∷ (Icmp4Code, 0) ∷ (Ip4Src, from) ∷ []

    abbrev sent : ℕ → ℕ → List (Field × ℕ)
    sent mac out = (EthSrc, mac) ∷ (Icmp4Type, 11) ∷ (Icmp4Code, 0) ∷ (Ip4Src, from) ∷ (Outport, out) ∷ (FlagsLoopback, 1) ∷ []

    abbrev meant : List (Field × ℕ)
    meant = (Outport, port.id.0) ∷ (Ip4Src, from) ∷ (EthSrc, port.mac) ∷ (FlagsLoopback, 1) ∷ []

    -- what the rows make of the error
    abbrev pub sent_expired : Values
    sent_expired = with_values unreachable (sent (value unreachable Reg6) (value (with_values unreachable (expired (value unreachable Reg6))) Inport))

    pub expiry_sent : sent_expired ≡ turned_back (with_value (with_value (icmp_error (going_back port packet) TtlExceeded) Ip4Src from) EthSrc port.mac)
    expiry_sent =
        (λ i. with_values unreachable (sent (with_mac i) ((changed_value unreachable (expired (value unreachable Reg6)) Inport full ∙ of_port) i)))
        ∙ same_changes (workings packet) (error_changes packet 3 3 ++ sent port.mac port.id.0) (error_changes packet 11 0 ++ meant) (length-only packet is_working) by
        ∙ ap (λ p. turned_back (with_value (with_value p Ip4Src from) EthSrc port.mac)) (sym (error_back packet long port.id.0 TtlExceeded))
      where
        by : (field : Field) (old : ℕ) → number_after (error_changes packet 3 3 ++ sent port.mac port.id.0) field old ≡ number_after (error_changes packet 11 0 ++ meant) field old
        by Outport old = refl
        by _ old = refl
