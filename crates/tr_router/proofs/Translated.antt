-- What a connection makes of packets: it changes addresses, ports and quotes alone. Packets stay packets, and one that stands for another does
-- so after it.
use Rattle.std.proofs.Common.{◌≡◌, ℕ, zero, suc, ◌<◌, ◌^◌, Bool, true, false, cond, List, [], ◌∷◌, length, eqb, lit<, sym, ap, refl, subst, ◌∙◌}
use Rattle.std.specs.Prelude.{◌==◌, if◌then◌else◌, Option, Some, None, slice_get}
use Rattle.std.specs.Option.{option_map_or}
use Rattle.std.specs.List.{AllByRecursion, position}
use Rattle.std.proofs.lemmas.Bool.{false≢true, eqb-true}
use Rattle.std.proofs.lemmas.Option.{same_Some, none-some}
use Rattle.nv_base.specs.Field.{field_count, field_width}
use Rattle.nv_base.specs.declared.field.Field.{Field}
use Rattle.nv_base.specs.declared.field.Field.TheVariants.{Outport, CtState, CtMarkBlocked, IpProto, Ip4Src, Ip4Dst, TcpSrc, TcpDst, UdpSrc, UdpDst, TcpFlags, QuoteProto, QuoteSrc, QuoteSport, QuoteDst, QuoteDport}
use Rattle.nv_base.specs.declared.field.Prerequisite.TheVariants.{Tcp, Udp}
use Rattle.pkt_core.specs.declared.tuple.Tuple.{Tuple}
use Rattle.pkt_core.specs.Packet.{Values, IsPacket, place, value, with_value, with_values}
use Rattle.pkt_core.specs.Prerequisite.{is_icmp_error, meets}
use Rattle.pkt_core.specs.Replies.{is_reset}
use Rattle.pkt_core.specs.Tuple.{dport_of, sport_of, swap, tuple, with_addresses, with_tuple}
use Rattle.ct_core.specs.declared.entry.Entry.{Entry}
use Rattle.ct_core.specs.declared.look.Look.{Look}
use Rattle.ct_core.specs.declared.look.Look.TheVariants.{Invalid, New, Found}
use Rattle.ct_core.specs.declared.look.Side.{Side}
use Rattle.ct_core.specs.declared.look.Side.TheVariants.{Orig, Reply}
use Rattle.ct_core.specs.declared.zone.Zone.{Zone}
use Rattle.ct_core.specs.Changes.{AreConnections, IsEntry, IsTuple}
use Rattle.ct_core.specs.Entry.{has, tuple_on}
use Rattle.ct_core.specs.Look.{flags_of, found_at, is_marked, look, quoted, sought, unfound}
use Rattle.ct_core.specs.Translation.{back, followed, forth, other, translated, translated_at}
use Rattle.tr_pipe.specs.Tracking.{bit, marked_by}
use Rattle.tr_pipe.specs.Translating.{Change}
use Rattle.ls_laws.proofs.Packets.{same_place}
use Rattle.lr_laws.proofs.Changes.{changed_value, number_after}
use Rattle.tr_router.proofs.Alike.{StandsFor, both_changed, both_given, goes_on, same_icmp_error, same_meets, same_tuple}
use Rattle.tr_router.proofs.Formed.{Fit, fits_values}

-- ---- tuples

pub tuple_is : (packet : Values) → IsPacket packet → IsTuple (tuple packet)
tuple_is packet is = record {
  proto = is.fits IpProto;
  src = is.fits Ip4Src;
  sport = by (meets packet Tcp) (meets packet Udp) (is.fits TcpSrc) (is.fits UdpSrc);
  dst = is.fits Ip4Dst;
  dport = by (meets packet Tcp) (meets packet Udp) (is.fits TcpDst) (is.fits UdpDst);
}
  where
    by : (tcp udp : Bool) {m n : ℕ} → m < 2 ^ 16 → n < 2 ^ 16 → cond tcp m (cond udp n 0) < 2 ^ 16
    by true udp of_tcp of_udp = of_tcp
    by false true of_tcp of_udp = of_udp
    by false false of_tcp of_udp = lit< tt

pub swap_is : (t : Tuple) → IsTuple t → IsTuple (swap t)
swap_is t is = record { proto = is.proto; src = is.dst; sport = is.dport; dst = is.src; dport = is.sport }

tuple_on_is : (side : Side) (e : Entry) → IsEntry e → IsTuple (tuple_on side e)
tuple_on_is Orig e is = is.orig
tuple_on_is Reply e is = is.reply

-- ---- the numbers that a packet gets

-- the numbers of a tuple for a packet of TCP, of UDP, or of neither
abbrev pub tuple_numbers : Bool → Bool → Tuple → List (Field × ℕ)
tuple_numbers true udp t = (Ip4Src, t.src.0) ∷ (Ip4Dst, t.dst.0) ∷ (TcpSrc, t.sport) ∷ (TcpDst, t.dport) ∷ []
tuple_numbers false true t = (Ip4Src, t.src.0) ∷ (Ip4Dst, t.dst.0) ∷ (UdpSrc, t.sport) ∷ (UdpDst, t.dport) ∷ []
tuple_numbers false false t = (Ip4Src, t.src.0) ∷ (Ip4Dst, t.dst.0) ∷ []

pub with_tuple_as : (packet : Values) (t : Tuple) → with_tuple packet t ≡ with_values packet (tuple_numbers (meets packet Tcp) (meets packet Udp) t)
with_tuple_as packet t = by (meets packet Tcp) (meets packet Udp)
  where
    by : (tcp udp : Bool)
        → cond tcp (with_value (with_value (with_addresses packet t) TcpSrc t.sport) TcpDst t.dport)
        (cond udp (with_value (with_value (with_addresses packet t) UdpSrc t.sport) UdpDst t.dport) (with_addresses packet t))
        ≡ with_values packet (tuple_numbers tcp udp t)
    by true udp = refl
    by false true = refl
    by false false = refl

-- the numbers that a packet from an address gets by a connection: an error, a packet of TCP, of UDP, or another
abbrev pub numbers_by : Bool → Bool → Bool → ℕ → Tuple → Tuple → List (Field × ℕ)
numbers_by true tcp udp src own back =
    (Ip4Src, if src == own.src.0 then back.dst.0 else src) ∷ (Ip4Dst, back.src.0)
    ∷ (QuoteProto, back.proto) ∷ (QuoteSrc, back.src.0) ∷ (QuoteSport, back.sport) ∷ (QuoteDst, back.dst.0) ∷ (QuoteDport, back.dport) ∷ []
numbers_by false tcp udp src own back = tuple_numbers tcp udp (swap back)

abbrev pub numbers_of : Entry → Side → Values → List (Field × ℕ)
numbers_of e side packet = numbers_by (is_icmp_error packet) (meets packet Tcp) (meets packet Udp) (value packet Ip4Src) (tuple_on side e) (tuple_on (other side) e)

pub translated_as : (e : Entry) (side : Side) (packet : Values) → translated e side packet ≡ with_values packet (numbers_of e side packet)
translated_as e side packet = by (is_icmp_error packet)
  where
    by : (error : Bool)
        → cond error (with_values packet (numbers_by true (meets packet Tcp) (meets packet Udp) (value packet Ip4Src) (tuple_on side e) (tuple_on (other side) e))) (with_tuple packet (swap (tuple_on (other side) e)))
        ≡ with_values packet (numbers_by error (meets packet Tcp) (meets packet Udp) (value packet Ip4Src) (tuple_on side e) (tuple_on (other side) e))
    by true = refl
    by false = with_tuple_as packet (swap (tuple_on (other side) e))

-- ---- they fit

tuple_fits : (tcp udp : Bool) (t : Tuple) → IsTuple t → Fit (tuple_numbers tcp udp t)
tuple_fits true udp t is = (is.src, (is.dst, (is.sport, (is.dport, tt))))
tuple_fits false true t is = (is.src, (is.dst, (is.sport, (is.dport, tt))))
tuple_fits false false t is = (is.src, (is.dst, tt))

pub with_tuple_is : (packet : Values) (t : Tuple) → IsPacket packet → IsTuple t → IsPacket (with_tuple packet t)
with_tuple_is packet t is of =
    subst IsPacket (sym (with_tuple_as packet t)) (fits_values packet (tuple_numbers (meets packet Tcp) (meets packet Udp) t) is (tuple_fits (meets packet Tcp) (meets packet Udp) t of))

numbers_fit : (error tcp udp : Bool) (src : ℕ) (own back : Tuple) → src < 2 ^ 32 → IsTuple back → Fit (numbers_by error tcp udp src own back)
numbers_fit true tcp udp src own back fits is = (by (src == own.src.0), (is.src, (is.proto, (is.src, (is.sport, (is.dst, (is.dport, tt)))))))
  where
    by : (b : Bool) → cond b back.dst.0 src < 2 ^ 32
    by true = is.dst
    by false = fits
numbers_fit false tcp udp src own back fits is = tuple_fits tcp udp (swap back) (swap_is back is)

pub translated_is : (e : Entry) (side : Side) (packet : Values) → IsEntry e → IsPacket packet → IsPacket (translated e side packet)
translated_is e side packet of is =
    subst IsPacket (sym (translated_as e side packet))
    (fits_values packet (numbers_of e side packet) is
    (numbers_fit (is_icmp_error packet) (meets packet Tcp) (meets packet Udp) (value packet Ip4Src) (tuple_on side e) (tuple_on (other side) e) (is.fits Ip4Src) (tuple_on_is (other side) e of)))

-- ---- what they leave as it is

abbrev pub stays : Field → Bool
stays Ip4Src = false
stays Ip4Dst = false
stays TcpSrc = false
stays TcpDst = false
stays UdpSrc = false
stays UdpDst = false
stays QuoteProto = false
stays QuoteSrc = false
stays QuoteSport = false
stays QuoteDst = false
stays QuoteDport = false
stays _ = true

abbrev pub AllChange : List (Field × ℕ) → Type 0
AllChange numbers = AllByRecursion (λ (p : Field × ℕ). stays p.0 ≡ false) numbers

apart : (changed field : Field) → stays changed ≡ false → stays field ≡ true → eqb (place changed) (place field) ≡ false
apart changed field gone kept = by (eqb (place changed) (place field)) refl
  where
    by : (b : Bool) → eqb (place changed) (place field) ≡ b → b ≡ false
    by true is = absurd (false≢true (sym gone ∙ ap stays (same_place changed field (eqb-true _ _ is)) ∙ kept))
    by false is = refl

stays_after : (changes : List (Field × ℕ)) → AllChange changes → (field : Field) → stays field ≡ true → (old : ℕ) → number_after changes field old ≡ old
stays_after [] all field kept old = refl
stays_after (c ∷ changes) all field kept old =
    ap (λ b. number_after changes field (cond b c.1 old)) (apart c.0 field all.0 kept) ∙ stays_after changes all.1 field kept old

tuple_changes : (tcp udp : Bool) (t : Tuple) → AllChange (tuple_numbers tcp udp t)
tuple_changes true udp t = (refl, (refl, (refl, (refl, tt))))
tuple_changes false true t = (refl, (refl, (refl, (refl, tt))))
tuple_changes false false t = (refl, (refl, tt))

pub with_tuple_stays : (packet : Values) (t : Tuple) (field : Field) → length packet ≡ field_count → stays field ≡ true → value (with_tuple packet t) field ≡ value packet field
with_tuple_stays packet t field long kept =
    let numbers = tuple_numbers (meets packet Tcp) (meets packet Udp) t in
    ap (λ (p : Values). value p field) (with_tuple_as packet t) ∙ changed_value packet numbers field long
    ∙ stays_after numbers (tuple_changes (meets packet Tcp) (meets packet Udp) t) field kept (value packet field)

numbers_change : (error tcp udp : Bool) (src : ℕ) (own back : Tuple) → AllChange (numbers_by error tcp udp src own back)
numbers_change true tcp udp src own back = (refl, (refl, (refl, (refl, (refl, (refl, (refl, tt)))))))
numbers_change false tcp udp src own back = tuple_changes tcp udp (swap back)

pub translated_stays : (e : Entry) (side : Side) (packet : Values) (field : Field) → length packet ≡ field_count → stays field ≡ true → value (translated e side packet) field ≡ value packet field
translated_stays e side packet field long kept =
    ap (λ (p : Values). value p field) (translated_as e side packet) ∙ changed_value packet (numbers_of e side packet) field long
    ∙ stays_after (numbers_of e side packet) (numbers_change (is_icmp_error packet) (meets packet Tcp) (meets packet Udp) (value packet Ip4Src) (tuple_on side e) (tuple_on (other side) e)) field kept (value packet field)

-- ---- packets that stand for others

module _ (out : ℕ) (a b : Values) (it : StandsFor out a b) where
  -- both get the same numbers, none of which is an `outport`
  both_numbers : (cs ds : List (Field × ℕ)) → cs ≡ ds → AllChange cs → StandsFor out (with_values a cs) (with_values b ds)
  both_numbers cs ds alike all = both_changed out a b it cs ds alike (stays_after cs all Outport refl out)

  pub both_with_tuple : (t : Tuple) → StandsFor out (with_tuple a t) (with_tuple b t)
  both_with_tuple t =
      subst (λ x. StandsFor out x (with_tuple b t)) (sym (with_tuple_as a t))
      (subst (λ y. StandsFor out (with_values a (tuple_numbers (meets a Tcp) (meets a Udp) t)) y) (sym (with_tuple_as b t))
      (both_numbers (tuple_numbers (meets a Tcp) (meets a Udp) t) (tuple_numbers (meets b Tcp) (meets b Udp) t)
      (λ i. tuple_numbers (same_meets out a b it Tcp i) (same_meets out a b it Udp i) t) (tuple_changes (meets a Tcp) (meets a Udp) t)))

  both_translated : (e : Entry) (side : Side) → StandsFor out (translated e side a) (translated e side b)
  both_translated e side =
      subst (λ x. StandsFor out x (translated e side b)) (sym (translated_as e side a))
      (subst (λ y. StandsFor out (with_values a (numbers_of e side a)) y) (sym (translated_as e side b))
      (both_numbers (numbers_of e side a) (numbers_of e side b)
      (λ i. numbers_by (same_icmp_error out a b it i) (same_meets out a b it Tcp i) (same_meets out a b it Udp i) (it.same Ip4Src refl i) (tuple_on side e) (tuple_on (other side) e))
      (numbers_change (is_icmp_error a) (meets a Tcp) (meets a Udp) (value a Ip4Src) (tuple_on side e) (tuple_on (other side) e))))

  -- what a look-up notes in the packet of the rows is in working fields alone
  pub both_marked : (found : Look) → StandsFor out (marked_by found a) b
  both_marked found = both_given out a b it ((CtState, flags_of found) ∷ (CtMarkBlocked, bit (is_marked found)) ∷ []) [] by out refl
    where
      by : (field : Field) → goes_on field ≡ true → (old : ℕ) → number_after ((CtState, flags_of found) ∷ (CtMarkBlocked, bit (is_marked found)) ∷ []) field old ≡ number_after [] field old
      by CtState going old = absurd (false≢true going)
      by CtMarkBlocked going old = absurd (false≢true going)
      by _ going old = refl

  -- ---- look-ups

  same_quoted : quoted a ≡ quoted b
  same_quoted = rw (it.same QuoteProto refl, it.same QuoteSrc refl, it.same QuoteSport refl, it.same QuoteDst refl, it.same QuoteDport refl) refl

  same_sought : sought a ≡ sought b
  same_sought = λ i. cond (same_icmp_error out a b it i) (swap (same_quoted i)) (same_tuple out a b it i)

  same_reset : is_reset a ≡ is_reset b
  same_reset = rw (same_meets out a b it Tcp, it.same TcpFlags refl) refl

  same_unfound : unfound a ≡ unfound b
  same_unfound = rw (same_icmp_error out a b it, same_reset) refl

  same_found_at : (conns : List Entry) (side : Side) (at : ℕ) → found_at conns a side at ≡ found_at conns b side at
  same_found_at conns side at = rw (same_icmp_error out a b it) refl

  -- the same is known of both
  pub same_look : (conns : List Entry) (zone : Zone) → look conns zone a ≡ look conns zone b
  same_look conns zone = λ i.
      option_map_or (λ at. same_found_at conns Orig at i) (position (has Orig zone (same_sought i)) conns)
      (option_map_or (λ at. same_found_at conns Reply at i) (position (has Reply zone (same_sought i)) conns) (same_unfound i))

-- ---- what is done by a look-up

-- a change by what was found
pub record IsTranslation (change : Change) : Type 0 where
  pub formed : (conns : List Entry) (packet : Values) (found : Look) → AreConnections conns → IsPacket packet → IsPacket (change conns packet found)
  pub leaves : (conns : List Entry) (packet : Values) (found : Look) (field : Field) → length packet ≡ field_count → stays field ≡ true → value (change conns packet found) field ≡ value packet field
  pub both : (conns : List Entry) (out : ℕ) (a b : Values) (found : Look) → StandsFor out a b → StandsFor out (change conns a found) (change conns b found)
  pub begins : (conns : List Entry) (packet : Values) → change conns packet New ≡ packet

-- an entry at a place fits
entry_there : (conns : List Entry) (at : ℕ) (e : Entry) → AllByRecursion IsEntry conns → slice_get conns at ≡ Some e → IsEntry e
entry_there [] at e all is = absurd (none-some e is)
entry_there (first ∷ conns) zero e all is = subst IsEntry (same_Some first e is) all.0
entry_there (first ∷ conns) (suc at) e all is = entry_there conns at e all.1 is

module _ (conns : List Entry) (at : ℕ) (side : Side) where
  at_is : (packet : Values) → AreConnections conns → IsPacket packet → IsPacket (translated_at conns at side packet)
  at_is packet are is = by (slice_get conns at) refl
    where
      by : (found : Option Entry) → slice_get conns at ≡ found → IsPacket (option_map_or (λ (e : Entry). translated e side packet) found packet)
      by None none = is
      by (Some e) there = translated_is e side packet (entry_there conns at e are.fit there) is

  at_stays : (packet : Values) (field : Field) → length packet ≡ field_count → stays field ≡ true → value (translated_at conns at side packet) field ≡ value packet field
  at_stays packet field long kept = by (slice_get conns at)
    where
      by : (found : Option Entry) → value (option_map_or (λ (e : Entry). translated e side packet) found packet) field ≡ value packet field
      by None = refl
      by (Some e) = translated_stays e side packet field long kept

  at_both : (out : ℕ) (a b : Values) → StandsFor out a b → StandsFor out (translated_at conns at side a) (translated_at conns at side b)
  at_both out a b it = by (slice_get conns at)
    where
      by : (found : Option Entry) → StandsFor out (option_map_or (λ (e : Entry). translated e side a) found a) (option_map_or (λ (e : Entry). translated e side b) found b)
      by None = it
      by (Some e) = both_translated out a b it e side

pub of_forth : IsTranslation forth
of_forth = record { formed = formed; leaves = leaves; both = both; begins = λ conns packet. refl }
  where
    formed : (conns : List Entry) (packet : Values) (found : Look) → AreConnections conns → IsPacket packet → IsPacket (forth conns packet found)
    formed conns packet Invalid are is = is
    formed conns packet New are is = is
    formed conns packet (Found at Orig related blocked) are is = at_is conns at Orig packet are is
    formed conns packet (Found at Reply related blocked) are is = is

    leaves : (conns : List Entry) (packet : Values) (found : Look) (field : Field) → length packet ≡ field_count → stays field ≡ true → value (forth conns packet found) field ≡ value packet field
    leaves conns packet Invalid field long kept = refl
    leaves conns packet New field long kept = refl
    leaves conns packet (Found at Orig related blocked) field long kept = at_stays conns at Orig packet field long kept
    leaves conns packet (Found at Reply related blocked) field long kept = refl

    both : (conns : List Entry) (out : ℕ) (a b : Values) (found : Look) → StandsFor out a b → StandsFor out (forth conns a found) (forth conns b found)
    both conns out a b Invalid it = it
    both conns out a b New it = it
    both conns out a b (Found at Orig related blocked) it = at_both conns at Orig out a b it
    both conns out a b (Found at Reply related blocked) it = it

pub of_back : IsTranslation back
of_back = record { formed = formed; leaves = leaves; both = both; begins = λ conns packet. refl }
  where
    formed : (conns : List Entry) (packet : Values) (found : Look) → AreConnections conns → IsPacket packet → IsPacket (back conns packet found)
    formed conns packet Invalid are is = is
    formed conns packet New are is = is
    formed conns packet (Found at Orig related blocked) are is = is
    formed conns packet (Found at Reply related blocked) are is = at_is conns at Reply packet are is

    leaves : (conns : List Entry) (packet : Values) (found : Look) (field : Field) → length packet ≡ field_count → stays field ≡ true → value (back conns packet found) field ≡ value packet field
    leaves conns packet Invalid field long kept = refl
    leaves conns packet New field long kept = refl
    leaves conns packet (Found at Orig related blocked) field long kept = refl
    leaves conns packet (Found at Reply related blocked) field long kept = at_stays conns at Reply packet field long kept

    both : (conns : List Entry) (out : ℕ) (a b : Values) (found : Look) → StandsFor out a b → StandsFor out (back conns a found) (back conns b found)
    both conns out a b Invalid it = it
    both conns out a b New it = it
    both conns out a b (Found at Orig related blocked) it = it
    both conns out a b (Found at Reply related blocked) it = at_both conns at Reply out a b it

pub of_followed : IsTranslation followed
of_followed = record { formed = formed; leaves = leaves; both = both; begins = λ conns packet. refl }
  where
    formed : (conns : List Entry) (packet : Values) (found : Look) → AreConnections conns → IsPacket packet → IsPacket (followed conns packet found)
    formed conns packet Invalid are is = is
    formed conns packet New are is = is
    formed conns packet (Found at side related blocked) are is = at_is conns at side packet are is

    leaves : (conns : List Entry) (packet : Values) (found : Look) (field : Field) → length packet ≡ field_count → stays field ≡ true → value (followed conns packet found) field ≡ value packet field
    leaves conns packet Invalid field long kept = refl
    leaves conns packet New field long kept = refl
    leaves conns packet (Found at side related blocked) field long kept = at_stays conns at side packet field long kept

    both : (conns : List Entry) (out : ℕ) (a b : Values) (found : Look) → StandsFor out a b → StandsFor out (followed conns a found) (followed conns b found)
    both conns out a b Invalid it = it
    both conns out a b New it = it
    both conns out a b (Found at side related blocked) it = at_both conns at side out a b it

-- ---- what a look-up notes

flags_fit : (found : Look) → flags_of found < 2 ^ field_width CtState
flags_fit Invalid = lit< tt
flags_fit New = lit< tt
flags_fit (Found at Orig true blocked) = lit< tt
flags_fit (Found at Orig false blocked) = lit< tt
flags_fit (Found at Reply true blocked) = lit< tt
flags_fit (Found at Reply false blocked) = lit< tt

pub marked_is : (found : Look) (packet : Values) → IsPacket packet → IsPacket (marked_by found packet)
marked_is found packet is = fits_values packet ((CtState, flags_of found) ∷ (CtMarkBlocked, bit (is_marked found)) ∷ []) is (flags_fit found, (by (is_marked found), tt))
  where
    by : (b : Bool) → bit b < 2 ^ field_width CtMarkBlocked
    by true = lit< tt
    by false = lit< tt

-- a field that is no note
pub marked_stays : (found : Look) (packet : Values) (field : Field) → length packet ≡ field_count → eqb (place CtState) (place field) ≡ false → eqb (place CtMarkBlocked) (place field) ≡ false
    → value (marked_by found packet) field ≡ value packet field
marked_stays found packet field long state mark =
    changed_value packet ((CtState, flags_of found) ∷ (CtMarkBlocked, bit (is_marked found)) ∷ []) field long ∙ rw (state, mark) refl

pub marked_flags : (found : Look) (packet : Values) → length packet ≡ field_count → value (marked_by found packet) CtState ≡ flags_of found
marked_flags found packet long = changed_value packet ((CtState, flags_of found) ∷ (CtMarkBlocked, bit (is_marked found)) ∷ []) CtState long
