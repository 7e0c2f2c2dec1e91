-- What is the same of packets that are alike, and which changes keep them so.
use Rattle.std.proofs.Common.{◌≡◌, ℕ, Bool, true, false, cond, [], ◌∷◌, eqb, sym, ap, refl, subst, ◌∙◌}
use Rattle.std.specs.Prelude.{List}
use Rattle.std.specs.List.{position}
use Rattle.std.specs.Option.{option_map_or}
use Rattle.std.proofs.lemmas.Bool.{false≢true}
use Rattle.nv_base.specs.declared.field.Field.{Field}
use Rattle.nv_base.specs.declared.field.Field.TheVariants.{Reg0, CtState, CtMarkBlocked, EthSrc, EthDst, EthType, IpProto, IpTtl, Ip4Src, Ip4Dst, ArpOp, ArpSpa, ArpSha, ArpTpa, ArpTha, TcpSrc, TcpDst, TcpFlags, UdpSrc, UdpDst, Icmp4Type, Icmp4Code, QuoteProto, QuoteSrc, QuoteSport, QuoteDst, QuoteDport}
use Rattle.nv_base.specs.declared.field.Prerequisite.{Prerequisite}
use Rattle.nv_base.specs.declared.field.Prerequisite.TheVariants.{Nothing, Ip4, Arp, Tcp, Udp, Icmp4, IcmpError}
use Rattle.nv_base.specs.Field.{is_header}
use Rattle.pkt_core.specs.declared.tuple.Tuple.{Tuple}
use Rattle.pkt_core.specs.declared.replies.IcmpReason.{IcmpReason}
use Rattle.pkt_core.specs.Packet.{Values, place, value, with_value, with_values, exchanged, only, headers, workings, is_working}
use Rattle.pkt_core.specs.Prerequisite.{carries, is_ip4, is_icmp_error, meets, is_there}
use Rattle.pkt_core.specs.Replies.{is_reset, is_answerable, turned, reset, icmp_back, icmp_error, error_type, error_code, arp_reply}
use Rattle.pkt_core.specs.Tuple.{swap, tuple, sport_of, dport_of}
use Rattle.pkt_core.proofs.Only.{only_value, length-only}
use Rattle.ct_core.specs.declared.entry.Entry.{Entry}
use Rattle.ct_core.specs.declared.look.Look.{Look}
use Rattle.ct_core.specs.declared.zone.Zone.{Zone}
use Rattle.ct_core.specs.declared.look.Look.TheVariants.{Found}
use Rattle.ct_core.specs.declared.look.Side.TheVariants.{Orig, Reply}
use Rattle.ct_core.specs.Entry.{has}
use Rattle.ct_core.specs.Look.{look, blocked_at, quoted, sought, unfound}
use Rattle.ls_laws.proofs.Packets.{with_length, same_packets}
use Rattle.ls_ct_laws.proofs.Noted.{AreAlike, is_noted, value_with}

-- a field of the header is none that is noted
pub header_unnoted : (field : Field) → is_header field ≡ true → is_noted field ≡ false
header_unnoted Reg0 header = absurd (false≢true header)
header_unnoted CtState header = absurd (false≢true header)
header_unnoted CtMarkBlocked header = absurd (false≢true header)
header_unnoted _ header = refl

module _ (a b : Values) (alike : AreAlike a b) where
  -- ---- changes

  -- both get one number for a field
  pub alike_set : (field : Field) (m n : ℕ) → m ≡ n → AreAlike (with_value a field m) (with_value b field n)
  alike_set field m n is = record {
    long_a = with_length a field m alike.long_a;
    long_b = with_length b field n alike.long_b;
    same = λ other not.
        value_with a field other m alike.long_a
        ∙ ap (λ k. cond (eqb (place field) (place other)) k (value a other)) is
        ∙ ap (cond (eqb (place field) (place other)) n) (alike.same other not)
        ∙ sym (value_with b field other n alike.long_b);
  }

  pub alike_with : (field : Field) (number : ℕ) → AreAlike (with_value a field number) (with_value b field number)
  alike_with field number = alike_set field number number refl

  -- the fields of a kind alone stay
  pub alike_only : (of_kind : Field → Bool) → AreAlike (only a of_kind) (only b of_kind)
  alike_only of_kind = record {
    long_a = length-only a of_kind;
    long_b = length-only b of_kind;
    same = λ other not. only_value a of_kind other ∙ ap (λ k. cond (of_kind other) k 0) (alike.same other not) ∙ sym (only_value b of_kind other);
  }

  pub alike_workings : AreAlike (workings a) (workings b)
  alike_workings = alike_only is_working

  -- the header is the same
  pub same_headers : headers a ≡ headers b
  same_headers =
      same_packets (headers a) (headers b) (length-only a is_header) (length-only b is_header) (λ field. only_value a is_header field ∙ by field (is_header field) refl ∙ sym (only_value b is_header field))
    where
      by : (field : Field) (c : Bool) → is_header field ≡ c → cond c (value a field) 0 ≡ cond c (value b field) 0
      by field true is = alike.same field (header_unnoted field is)
      by field false is = refl

  -- ---- what a packet is

  pub same_ip4 : is_ip4 a ≡ is_ip4 b
  same_ip4 = rw (alike.same EthType refl) refl

  pub same_carries : (protocol : ℕ) → carries a protocol ≡ carries b protocol
  same_carries protocol = rw (alike.same EthType refl, alike.same IpProto refl) refl

  pub same_icmp_error : is_icmp_error a ≡ is_icmp_error b
  same_icmp_error = rw (same_carries 1, alike.same Icmp4Type refl) refl

  pub same_meets : (needed : Prerequisite) → meets a needed ≡ meets b needed
  same_meets Nothing = refl
  same_meets Ip4 = same_ip4
  same_meets Arp = rw (alike.same EthType refl) refl
  same_meets Tcp = same_carries 6
  same_meets Udp = same_carries 17
  same_meets Icmp4 = same_carries 1
  same_meets IcmpError = same_icmp_error

  pub same_there : (field : Field) → is_there a field ≡ is_there b field
  same_there field = same_meets _

  pub same_reset : is_reset a ≡ is_reset b
  same_reset = rw (same_meets Tcp, alike.same TcpFlags refl) refl

  pub same_answerable : is_answerable a ≡ is_answerable b
  same_answerable = rw (alike.same EthType refl, alike.same IpProto refl, alike.same TcpFlags refl, alike.same Icmp4Type refl) refl

  -- ---- its connection

  same_sport : sport_of a ≡ sport_of b
  same_sport = rw (same_meets Tcp, same_meets Udp, alike.same TcpSrc refl, alike.same UdpSrc refl) refl

  same_dport : dport_of a ≡ dport_of b
  same_dport = rw (same_meets Tcp, same_meets Udp, alike.same TcpDst refl, alike.same UdpDst refl) refl

  pub same_tuple : tuple a ≡ tuple b
  same_tuple = rw (same_sport, same_dport, alike.same IpProto refl, alike.same Ip4Src refl, alike.same Ip4Dst refl) refl

  same_quoted : quoted a ≡ quoted b
  same_quoted = rw (alike.same QuoteProto refl, alike.same QuoteSrc refl, alike.same QuoteSport refl, alike.same QuoteDst refl, alike.same QuoteDport refl) refl

  same_sought : sought a ≡ sought b
  same_sought =
      ap (λ c. cond c (swap (quoted a)) (tuple a)) same_icmp_error
      ∙ ap (λ t. cond (is_icmp_error b) (swap t) (tuple a)) same_quoted
      ∙ ap (cond (is_icmp_error b) (swap (quoted b))) same_tuple

  same_unfound : unfound a ≡ unfound b
  same_unfound = rw (same_icmp_error, same_reset) refl

  -- a look-up tells the same of both
  pub same_look : (conns : List Entry) (zone : Zone) → look conns zone a ≡ look conns zone b
  same_look conns zone =
      ap (λ t. told t (is_icmp_error a) (unfound a)) same_sought ∙ ap (λ c. told (sought b) c (unfound a)) same_icmp_error ∙ ap (told (sought b) (is_icmp_error b)) same_unfound
    where
      -- what a look-up tells, by the tuple that is sought
      told : Tuple → Bool → Look → Look
      told t related unknown =
          option_map_or (λ place. Found place Orig related (blocked_at conns place)) (position (has Orig zone t) conns)
          (option_map_or (λ place. Found place Reply related (blocked_at conns place)) (position (has Reply zone t) conns) unknown)

-- ---- packets that are made

-- the numbers that fields of two packets get: the same
abbrev AreSame : List (Field × ℕ) → List (Field × ℕ) → Type 0
AreSame [] [] = Unit {0}
AreSame (m ∷ ms) (n ∷ ns) = (m.0 ≡ n.0) × (m.1 ≡ n.1) × AreSame ms ns
AreSame _ _ = ⊥

pub alike_sets : (a b : Values) (ms ns : List (Field × ℕ)) → AreAlike a b → AreSame ms ns → AreAlike (with_values a ms) (with_values b ns)
alike_sets a b [] [] alike same = alike
alike_sets a b (m ∷ ms) (n ∷ ns) alike same =
    alike_sets (with_value a m.0 m.1) (with_value b n.0 n.1) ms ns
    (subst (λ (f : Field). AreAlike (with_value a m.0 m.1) (with_value b f n.1)) same.0 (alike_set a b alike m.0 m.1 n.1 same.1)) same.2
alike_sets a b [] (n ∷ ns) alike same = absurd same
alike_sets a b (m ∷ ms) [] alike same = absurd same

-- the numbers that the packets are made with
abbrev numbers_of_reply : ℕ → Values → List (Field × ℕ)
numbers_of_reply mac packet = (EthDst, value packet EthSrc) ∷ (EthSrc, mac) ∷ (ArpOp, 2) ∷ (ArpSpa, value packet ArpTpa) ∷ (ArpSha, mac) ∷ (ArpTpa, value packet ArpSpa) ∷ (ArpTha, value packet ArpSha) ∷ []

abbrev numbers_of_reset : List (Field × ℕ)
numbers_of_reset = (TcpFlags, 0x14) ∷ (IpTtl, 255) ∷ []

abbrev numbers_back : Values → List (Field × ℕ)
numbers_back packet = (EthSrc, value packet EthDst) ∷ (EthDst, value packet EthSrc) ∷ (EthType, 0x800) ∷ (IpProto, 1) ∷ (IpTtl, 255) ∷ (Ip4Src, value packet Ip4Dst) ∷ (Ip4Dst, value packet Ip4Src) ∷ []

abbrev numbers_of_reason : IcmpReason → List (Field × ℕ)
numbers_of_reason reason = (Icmp4Type, error_type reason) ∷ (Icmp4Code, error_code reason) ∷ []

abbrev numbers_of_quote : Tuple → List (Field × ℕ)
numbers_of_quote t = (QuoteProto, t.proto) ∷ (QuoteSrc, t.src.0) ∷ (QuoteSport, t.sport) ∷ (QuoteDst, t.dst.0) ∷ (QuoteDport, t.dport) ∷ []

module _ (a b : Values) (alike : AreAlike a b) where
  -- two fields exchange their numbers
  pub alike_exchanged : (f g : Field) → is_noted f ≡ false → is_noted g ≡ false → AreAlike (exchanged a f g) (exchanged b f g)
  alike_exchanged f g not_f not_g =
      alike_set (with_value a f (value a g)) (with_value b f (value b g)) (alike_set a b alike f (value a g) (value b g) (alike.same g not_g)) g (value a f) (value b f) (alike.same f not_f)

  -- the reply to an ARP request
  pub alike_arp_reply : (mac : ℕ) → AreAlike (arp_reply a mac) (arp_reply b mac)
  alike_arp_reply mac =
      alike_sets a b (numbers_of_reply mac a) (numbers_of_reply mac b) alike
      (refl, alike.same EthSrc refl, (refl, refl, (refl, refl, (refl, alike.same ArpTpa refl, (refl, refl, (refl, alike.same ArpSpa refl, (refl, alike.same ArpSha refl, tt)))))))

module _ (a b : Values) (alike : AreAlike a b) where
  alike_turned : AreAlike (turned a) (turned b)
  alike_turned =
      alike_exchanged (exchanged a EthSrc EthDst) (exchanged b EthSrc EthDst) (alike_exchanged a b alike EthSrc EthDst refl refl) Ip4Src Ip4Dst refl refl

  -- a reset
  pub alike_reset : AreAlike (reset a) (reset b)
  alike_reset =
      alike_sets (exchanged (turned a) TcpSrc TcpDst) (exchanged (turned b) TcpSrc TcpDst) numbers_of_reset numbers_of_reset
      (alike_exchanged (turned a) (turned b) alike_turned TcpSrc TcpDst refl refl) (refl, refl, (refl, refl, tt))

  alike_icmp_back : AreAlike (icmp_back a) (icmp_back b)
  alike_icmp_back =
      alike_sets (workings a) (workings b) (numbers_back a) (numbers_back b) (alike_workings a b alike)
      (refl, alike.same EthDst refl, (refl, alike.same EthSrc refl, (refl, refl, (refl, refl, (refl, refl, (refl, alike.same Ip4Dst refl, (refl, alike.same Ip4Src refl, tt)))))))

  alike_of_kind : (reason : IcmpReason) → AreAlike (with_values (icmp_back a) (numbers_of_reason reason)) (with_values (icmp_back b) (numbers_of_reason reason))
  alike_of_kind reason = alike_sets (icmp_back a) (icmp_back b) (numbers_of_reason reason) (numbers_of_reason reason) alike_icmp_back (refl, refl, (refl, refl, tt))

  -- an ICMP error
  pub alike_icmp_error : (reason : IcmpReason) → AreAlike (icmp_error a reason) (icmp_error b reason)
  alike_icmp_error reason =
      let one = with_values (icmp_back a) (numbers_of_reason reason) in
      let other = with_values (icmp_back b) (numbers_of_reason reason) in
      let is = same_tuple a b alike in
      alike_sets one other (numbers_of_quote (tuple a)) (numbers_of_quote (tuple b)) (alike_of_kind reason)
      (refl, ap (λ (t : Tuple). t.proto) is, (refl, ap (λ (t : Tuple). t.src.0) is, (refl, ap (λ (t : Tuple). t.sport) is, (refl, ap (λ (t : Tuple). t.dst.0) is, (refl, ap (λ (t : Tuple). t.dport) is, tt)))))
