-- A packet of the rows and the packet of the router that it stands for: their header fields and their `inport` are the same. Which changes
-- keep them so, and what is the same of both.
use Rattle.std.proofs.Common.{◌≡◌, ℕ, Bool, true, false, cond, List, [], ◌∷◌, length, eqb, sym, ap, refl, subst, ◌∙◌}
use Rattle.nv_base.specs.Field.{field_count, is_header}
use Rattle.nv_base.specs.declared.field.Field.{Field}
use Rattle.nv_base.specs.declared.field.Field.TheVariants.{Inport, Outport, FlagsLoopback, EthSrc, EthDst, EthType, IpProto, IpTtl, Ip4Src, Ip4Dst, ArpOp, ArpSpa, ArpSha, ArpTpa, ArpTha, TcpSrc, TcpDst, TcpFlags, UdpSrc, UdpDst, Icmp4Type, Icmp4Code, QuoteProto, QuoteSrc, QuoteSport, QuoteDst, QuoteDport}
use Rattle.nv_base.specs.declared.field.Prerequisite.{Prerequisite}
use Rattle.nv_base.specs.declared.field.Prerequisite.TheVariants.{Nothing, Ip4, Arp, Tcp, Udp, Icmp4, IcmpError}
use Rattle.nv_base.specs.declared.object.ObjId.{ObjId}
use Rattle.pkt_core.specs.declared.tuple.Tuple.{Tuple}
use Rattle.pkt_core.specs.declared.replies.IcmpReason.{IcmpReason}
use Rattle.pkt_core.specs.declared.replies.IcmpReason.TheVariants.{PortUnreachable}
use Rattle.pkt_core.specs.Packet.{Values, place, value, with_values, exchanged, headers, workings, is_working}
use Rattle.pkt_core.specs.Prerequisite.{carries, is_ip4, is_icmp_error, meets}
use Rattle.pkt_core.specs.Replies.{is_answerable, turned, reset, icmp_back, icmp_error, error_type, error_code, arp_reply}
use Rattle.pkt_core.specs.Tuple.{tuple, sport_of, dport_of}
use Rattle.pkt_core.proofs.Only.{only_value, length-only}
use Rattle.net_meaning.specs.Switches.{rejection, turned_back}
use Rattle.net_meaning.specs.Walk.{carried}
use Rattle.ls_laws.proofs.Packets.{set_value, same_packets}
use Rattle.lr_laws.proofs.Changes.{changed_length, changed_value, number_after}
use Rattle.tr_router.specs.Parts.{Carries}

-- the fields that go on from part to part, but for `flags.loopback`
abbrev pub goes_on : Field → Bool
goes_on Inport = true
goes_on field = is_header field

header_goes : (field : Field) → is_header field ≡ true → goes_on field ≡ true
header_goes Inport header = refl
header_goes _ header = header

-- the packet of the rows, which leaves by a number, stands for the packet of the router
pub record StandsFor (out : ℕ) (own packet : Values) : Type 0 where
  pub long_own : length own ≡ field_count
  pub long : length packet ≡ field_count
  pub same : (field : Field) → goes_on field ≡ true → value own field ≡ value packet field
  pub leaves : value own Outport ≡ out

-- it leaves by the number that it has
pub leaving_as : (out : ℕ) (own packet : Values) → StandsFor out own packet → StandsFor (value own Outport) own packet
leaving_as out own packet it = record { long_own = it.long_own; long = it.long; same = it.same; leaves = refl }

-- ---- what is carried

-- packets of the same numbers of header fields have the same header
pub headers_same : (a b : Values) → ((field : Field) → is_header field ≡ true → value a field ≡ value b field) → headers a ≡ headers b
headers_same a b same =
    same_packets (headers a) (headers b) (length-only a is_header) (length-only b is_header) (λ field. only_value a is_header field ∙ by field (is_header field) refl ∙ sym (only_value b is_header field))
  where
    by : (field : Field) (c : Bool) → is_header field ≡ c → cond c (value a field) 0 ≡ cond c (value b field) 0
    by field true is = same field is
    by field false is = refl

-- and carry the same where they came in by one port, and may go back or not
pub carried_same : (a b : Values) → ((field : Field) → is_header field ≡ true → value a field ≡ value b field) → value a Inport ≡ value b Inport → value a FlagsLoopback ≡ value b FlagsLoopback → carried a ≡ carried b
carried_same a b same inport loopback = rw (headers_same a b same, inport, loopback) refl

module _ (out : ℕ) (a b : Values) (it : StandsFor out a b) where
  -- ---- changes

  -- each field that goes on gets the same number
  pub both_given : (cs ds : List (Field × ℕ)) → ((field : Field) → goes_on field ≡ true → (old : ℕ) → number_after cs field old ≡ number_after ds field old) → (after : ℕ) → number_after cs Outport out ≡ after
      → StandsFor after (with_values a cs) (with_values b ds)
  both_given cs ds alike after given = record {
    long_own = changed_length a cs it.long_own;
    long = changed_length b ds it.long;
    same = λ field going. changed_value a cs field it.long_own ∙ ap (number_after cs field) (it.same field going) ∙ alike field going (value b field) ∙ sym (changed_value b ds field it.long);
    leaves = changed_value a cs Outport it.long_own ∙ ap (number_after cs Outport) it.leaves ∙ given;
  }

  -- both get the same numbers
  pub both_changed : (cs ds : List (Field × ℕ)) → cs ≡ ds → number_after cs Outport out ≡ out → StandsFor out (with_values a cs) (with_values b ds)
  both_changed cs ds alike stays = both_given cs ds (λ field going old. ap (λ es. number_after es field old) alike) out stays

  -- the working fields alone stay
  pub both_workings : StandsFor out (workings a) (workings b)
  both_workings = record {
    long_own = length-only a is_working;
    long = length-only b is_working;
    same = λ field going. only_value a is_working field ∙ ap (λ k. cond (is_working field) k 0) (it.same field going) ∙ sym (only_value b is_working field);
    leaves = only_value a is_working Outport ∙ it.leaves;
  }

  pub both_exchanged : (f g : Field) → goes_on f ≡ true → goes_on g ≡ true → (eqb (place f) (place Outport)) ≡ false → (eqb (place g) (place Outport)) ≡ false → StandsFor out (exchanged a f g) (exchanged b f g)
  both_exchanged f g of_f of_g f_other g_other =
      both_changed ((f, value a g) ∷ (g, value a f) ∷ []) ((f, value b g) ∷ (g, value b f) ∷ []) (λ i. (f, it.same g of_g i) ∷ (g, it.same f of_f i) ∷ []) (rw (f_other, g_other) refl)

  -- where both may go back, or none, they carry the same
  pub both_carry : (port : ObjId) → out ≡ port.0 → value a FlagsLoopback ≡ value b FlagsLoopback → Carries port a b
  both_carry port is loopback = record { by_port = it.leaves ∙ is; alike = carried_same a b (λ field header. it.same field (header_goes field header)) (it.same Inport refl) loopback }

  -- ---- what a packet is

  pub same_ip4 : is_ip4 a ≡ is_ip4 b
  same_ip4 = rw (it.same EthType refl) refl

  pub same_carries : (protocol : ℕ) → carries a protocol ≡ carries b protocol
  same_carries protocol = rw (it.same EthType refl, it.same IpProto refl) refl

  pub same_icmp_error : is_icmp_error a ≡ is_icmp_error b
  same_icmp_error = rw (same_carries 1, it.same Icmp4Type refl) refl

  pub same_meets : (needed : Prerequisite) → meets a needed ≡ meets b needed
  same_meets Nothing = refl
  same_meets Ip4 = same_ip4
  same_meets Arp = rw (it.same EthType refl) refl
  same_meets Tcp = same_carries 6
  same_meets Udp = same_carries 17
  same_meets Icmp4 = same_carries 1
  same_meets IcmpError = same_icmp_error

  pub same_answerable : is_answerable a ≡ is_answerable b
  same_answerable = rw (it.same EthType refl, it.same IpProto refl, it.same TcpFlags refl, it.same Icmp4Type refl) refl

  same_sport : sport_of a ≡ sport_of b
  same_sport = rw (same_meets Tcp, same_meets Udp, it.same TcpSrc refl, it.same UdpSrc refl) refl

  same_dport : dport_of a ≡ dport_of b
  same_dport = rw (same_meets Tcp, same_meets Udp, it.same TcpDst refl, it.same UdpDst refl) refl

  pub same_tuple : tuple a ≡ tuple b
  same_tuple = rw (same_sport, same_dport, it.same IpProto refl, it.same Ip4Src refl, it.same Ip4Dst refl) refl

-- turned back, they do
pub turned_carry : (out : ℕ) (a b : Values) → StandsFor out a b → (port : ObjId) → out ≡ port.0 → Carries port (turned_back a) (turned_back b)
turned_carry out a b it port is =
    both_carry out (turned_back a) (turned_back b) (both_changed out a b it ((FlagsLoopback, 1) ∷ []) ((FlagsLoopback, 1) ∷ []) refl refl) port is
    (set_value a FlagsLoopback 1 it.long_own ∙ sym (set_value b FlagsLoopback 1 it.long))

-- ---- packets that are made

-- the numbers that the packets are made with
abbrev numbers_of_reply : ℕ → Values → List (Field × ℕ)
numbers_of_reply mac packet = (EthDst, value packet EthSrc) ∷ (EthSrc, mac) ∷ (ArpOp, 2) ∷ (ArpSpa, value packet ArpTpa) ∷ (ArpSha, mac) ∷ (ArpTpa, value packet ArpSpa) ∷ (ArpTha, value packet ArpSha) ∷ []

abbrev numbers_of_reset : List (Field × ℕ)
numbers_of_reset = (TcpFlags, 0x14) ∷ (IpTtl, 255) ∷ []

abbrev numbers_back : Values → List (Field × ℕ)
numbers_back packet = (EthSrc, value packet EthDst) ∷ (EthDst, value packet EthSrc) ∷ (EthType, 0x800) ∷ (IpProto, 1) ∷ (IpTtl, 255) ∷ (Ip4Src, value packet Ip4Dst) ∷ (Ip4Dst, value packet Ip4Src) ∷ []

abbrev numbers_of_reason : IcmpReason → List (Field × ℕ)
numbers_of_reason reason = (Icmp4Type, error_type reason) ∷ (Icmp4Code, error_code reason) ∷ []

abbrev numbers_of_quote : Tuple → List (Field × ℕ)
numbers_of_quote t = (QuoteProto, t.proto) ∷ (QuoteSrc, t.src.0) ∷ (QuoteSport, t.sport) ∷ (QuoteDst, t.dst.0) ∷ (QuoteDport, t.dport) ∷ []

module _ (out : ℕ) (a b : Values) (it : StandsFor out a b) where
  -- the reply to an ARP request
  pub both_reply : (mac : ℕ) → StandsFor out (arp_reply a mac) (arp_reply b mac)
  both_reply mac =
      both_changed out a b it (numbers_of_reply mac a) (numbers_of_reply mac b)
      (λ i. (EthDst, it.same EthSrc refl i) ∷ (EthSrc, mac) ∷ (ArpOp, 2) ∷ (ArpSpa, it.same ArpTpa refl i) ∷ (ArpSha, mac) ∷ (ArpTpa, it.same ArpSpa refl i) ∷ (ArpTha, it.same ArpSha refl i) ∷ []) refl

  both_turned : StandsFor out (turned a) (turned b)
  both_turned = both_exchanged out (exchanged a EthSrc EthDst) (exchanged b EthSrc EthDst) (both_exchanged out a b it EthSrc EthDst refl refl refl refl) Ip4Src Ip4Dst refl refl refl refl

  pub both_reset : StandsFor out (reset a) (reset b)
  both_reset =
      both_changed out (exchanged (turned a) TcpSrc TcpDst) (exchanged (turned b) TcpSrc TcpDst) (both_exchanged out (turned a) (turned b) both_turned TcpSrc TcpDst refl refl refl refl)
      numbers_of_reset numbers_of_reset refl refl

  both_back : StandsFor out (icmp_back a) (icmp_back b)
  both_back =
      both_changed out (workings a) (workings b) (both_workings out a b it) (numbers_back a) (numbers_back b)
      (λ i. (EthSrc, it.same EthDst refl i) ∷ (EthDst, it.same EthSrc refl i) ∷ (EthType, 0x800) ∷ (IpProto, 1) ∷ (IpTtl, 255) ∷ (Ip4Src, it.same Ip4Dst refl i) ∷ (Ip4Dst, it.same Ip4Src refl i) ∷ []) refl

  pub both_error : (reason : IcmpReason) → StandsFor out (icmp_error a reason) (icmp_error b reason)
  both_error reason =
      both_changed out (with_values (icmp_back a) (numbers_of_reason reason)) (with_values (icmp_back b) (numbers_of_reason reason))
      (both_changed out (icmp_back a) (icmp_back b) both_back (numbers_of_reason reason) (numbers_of_reason reason) refl refl)
      (numbers_of_quote (tuple a)) (numbers_of_quote (tuple b)) (ap numbers_of_quote (same_tuple out a b it)) refl

  -- what answers where no service is
  pub both_rejection : StandsFor out (rejection a) (rejection b)
  both_rejection = subst (λ c. StandsFor out (cond c (reset a) (icmp_error a PortUnreachable)) (rejection b)) (sym (same_meets out a b it Tcp)) (by (meets b Tcp))
    where
      by : (c : Bool) → StandsFor out (cond c (reset a) (icmp_error a PortUnreachable)) (cond c (reset b) (icmp_error b PortUnreachable))
      by true = both_reset
      by false = both_error PortUnreachable
