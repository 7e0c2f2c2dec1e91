-- What a look-up finds.
use Rattle.std.proofs.Common.{◌≡◌, ℕ, Bool, true, false, ◌||◌, List, Option, None, Some, if◌then◌else◌, refl, sym, ap, subst, ◌∙◌}
use Rattle.std.proofs.lemmas.Bool.{true≢false, false≢true, and_parts}
use Rattle.std.specs.List.{position, list_any}
use Rattle.std.specs.Option.{option_map_or, is_some}
use Rattle.nv_base.specs.inner.Exact as tells
use Rattle.pkt_core.specs.declared.tuple.Tuple.{Tuple}
use Rattle.pkt_core.specs.inner.Exact as packets
use Rattle.pkt_core.specs.Packet.{Values}
use Rattle.pkt_core.specs.Prerequisite.{is_icmp_error}
use Rattle.pkt_core.specs.Replies.{is_reset}
use Rattle.ct_core.specs.declared.entry.Entry.{Entry}
use Rattle.ct_core.specs.declared.look.Look.{Look}
use Rattle.ct_core.specs.declared.look.Look.TheVariants.{Invalid, New, Found}
use Rattle.ct_core.specs.declared.look.Side.{Side}
use Rattle.ct_core.specs.declared.look.Side.TheVariants.{Orig, Reply}
use Rattle.ct_core.specs.declared.zone.Zone.{Zone}
use Rattle.ct_core.specs.declared.zone.Zone.TheVariants.{Port, Dnat, Snat}
use Rattle.ct_core.specs.Entry.{same_zone, same_tuple, tuple_on, has}
use Rattle.ct_core.specs.Look.{Finds, blocked_at, found_at, look, place_of, sought, unfound}
use Rattle.ct_core.specs.inner.Exact.{zones_equal}
use Rattle.ct_core.proofs.Positions.{position-is, position-none}

-- the words for the same are those of `==`
pub zones_agree : (a b : Zone) → zones_equal a b ≡ same_zone a b
zones_agree (Port a) (Port b) = refl
zones_agree (Port a) (Dnat b) = refl
zones_agree (Port a) (Snat b) = refl
zones_agree (Dnat a) (Port b) = refl
zones_agree (Dnat a) (Dnat b) = refl
zones_agree (Dnat a) (Snat b) = refl
zones_agree (Snat a) (Port b) = refl
zones_agree (Snat a) (Dnat b) = refl
zones_agree (Snat a) (Snat b) = refl

-- they tell equality
pub zone_is : (a b : Zone) → same_zone a b ≡ true → a ≡ b
zone_is (Port a) (Port b) e = ap Port (tells.object a b e)
zone_is (Port a) (Dnat b) e = absurd (false≢true e)
zone_is (Port a) (Snat b) e = absurd (false≢true e)
zone_is (Dnat a) (Port b) e = absurd (false≢true e)
zone_is (Dnat a) (Dnat b) e = ap Dnat (tells.object a b e)
zone_is (Dnat a) (Snat b) e = absurd (false≢true e)
zone_is (Snat a) (Port b) e = absurd (false≢true e)
zone_is (Snat a) (Dnat b) e = absurd (false≢true e)
zone_is (Snat a) (Snat b) e = ap Snat (tells.object a b e)

pub tuple_is : (a b : Tuple) → same_tuple a b ≡ true → a ≡ b
tuple_is = packets.tuple

finds : (conns : List Entry) (zone : Zone) (t : Tuple) (place : ℕ) (side : Side) → position (has side zone t) conns ≡ Some place → Finds conns zone t place side
finds conns zone t place side e =
    let is = position-is (has side zone t) conns place e in
    let parts = and_parts _ _ is.2 in
    record {
      entry = is.0;
      there = is.1;
      in_zone = zone_is is.0.zone zone parts.0;
      tuple_is = tuple_is (tuple_on side is.0) t parts.1;
      first = is.4;
    }

-- what a look says of the entry that is found
abbrev place_in : Look → ℕ
place_in (Found place side related blocked) = place
place_in _ = 0

abbrev side_in : Look → Side
side_in (Found place side related blocked) = side
side_in _ = Orig

abbrev related_in : Look → Bool
related_in (Found place side related blocked) = related
related_in _ = false

abbrev blocked_in : Look → Bool
blocked_in (Found place side related blocked) = blocked
blocked_in _ = false

none_found : (b : Bool) → place_of (if b then Invalid else New) ≡ None
none_found true = refl
none_found false = refl

-- what is known where nothing is found has no place
pub unfound_place : (packet : Values) → place_of (unfound packet) ≡ None
unfound_place packet = none_found (is_icmp_error packet || is_reset packet)

some_none : (i : ℕ) → Some i ≡ None → ⊥
some_none i e = true≢false (ap is_some e)

module _ (conns : List Entry) (zone : Zone) (packet : Values) where
  -- what is known by the two first places
  abbrev said : Option ℕ → Option ℕ → Look
  said o r = option_map_or (found_at conns packet Orig) o (option_map_or (found_at conns packet Reply) r (unfound packet))

  abbrev There : ℕ → Side → Bool → Bool → Type 0
  There place side related blocked = Finds conns zone (sought packet) place side × (related ≡ is_icmp_error packet) × (blocked ≡ blocked_at conns place)

  at : (i : ℕ) (s : Side) (place : ℕ) (side : Side) (related blocked : Bool) → position (has s zone (sought packet)) conns ≡ Some i → found_at conns packet s i ≡ Found place side related blocked → There place side related blocked
  at i s place side related blocked p e =
      let place_same : i ≡ place = ap place_in e in
      let side_same : s ≡ side = ap side_in e in
      let first : Finds conns zone (sought packet) place s = subst (λ n. Finds conns zone (sought packet) n s) place_same (finds conns zone (sought packet) i s p) in
      (subst (λ x. Finds conns zone (sought packet) place x) side_same first, sym (ap related_in e), sym (ap blocked_in e) ∙ ap (blocked_at conns) place_same)

  by : (o r : Option ℕ) (place : ℕ) (side : Side) (related blocked : Bool) → position (has Orig zone (sought packet)) conns ≡ o → position (has Reply zone (sought packet)) conns ≡ r
      → said o r ≡ Found place side related blocked → There place side related blocked
  by (Some i) r place side related blocked p q e = at i Orig place side related blocked p e
  by None (Some i) place side related blocked p q e = at i Reply place side related blocked q e
  by None None place side related blocked p q e = absurd (some_none place (sym (ap place_of e) ∙ unfound_place packet))

  -- what is found is there
  pub found_there : (place : ℕ) (side : Side) (related blocked : Bool) → look conns zone packet ≡ Found place side related blocked → There place side related blocked
  found_there place side related blocked e = by (position (has Orig zone (sought packet)) conns) (position (has Reply zone (sought packet)) conns) place side related blocked refl refl e

  none_by : (o r : Option ℕ) → position (has Orig zone (sought packet)) conns ≡ o → position (has Reply zone (sought packet)) conns ≡ r
      → place_of (said o r) ≡ None → (side : Side) → list_any (has side zone (sought packet)) conns ≡ false
  none_by (Some i) r p q e side = absurd (some_none i e)
  none_by None (Some i) p q e side = absurd (some_none i e)
  none_by None None p q e Orig = position-none (has Orig zone (sought packet)) conns p
  none_by None None p q e Reply = position-none (has Reply zone (sought packet)) conns q

  -- where nothing is found, nothing is there
  pub not_there : place_of (look conns zone packet) ≡ None → (side : Side) → list_any (has side zone (sought packet)) conns ≡ false
  not_there e = none_by (position (has Orig zone (sought packet)) conns) (position (has Reply zone (sought packet)) conns) refl refl e
