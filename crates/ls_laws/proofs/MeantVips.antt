-- The VIP that a packet is for, of some load balancers of a network, and which of their other VIPs come after it.
use Rattle.std.proofs.Common.{◌≡◌, ℕ, ◌<◌, Bool, true, List, eqb, sym, ap, ◌∙◌, ◌⊎◌, inl, inr, lit<, refl}
use Rattle.std.specs.Prelude.{◌&&◌, Option, Some, None, option_and_then, option_map, slice_get}
use Rattle.std.specs.List.{Contains, filter, filter_map}
use Rattle.std.proofs.lemmas.Bool.{false≢true, and_from, and_parts, eq-eqb, eqb-true}
use Rattle.std.proofs.lemmas.Option.{none-some}
use Rattle.nv_base.specs.declared.field.Field.TheVariants.{Ip4Dst}
use Rattle.pkt_core.specs.declared.tuple.Tuple.{Tuple}
use Rattle.pkt_core.specs.Packet.{Values, value}
use Rattle.pkt_core.specs.Tuple.{dport_of}
use Rattle.nb_records.specs.declared.balancer.Lb.{Lb}
use Rattle.nb_records.specs.declared.balancer.Proto.{Proto}
use Rattle.nb_records.specs.declared.balancer.Vip.{Vip}
use Rattle.nb_model.specs.Belongs.{either, same_frontend, same_port}
use Rattle.nb_model.specs.Network.{Network}
use Rattle.nb_model.specs.Sound.{IsSound}
use Rattle.net_meaning.specs.Balancing as meaning
use Rattle.net_meaning.specs.Balancing.{backend_for, balanced_tuple, is_for_all, is_of, is_to, is_to_port, vip_for_all, vip_of_port}
use Rattle.net_rows.specs.LoadBalancers.{priority_of_vip}
use Rattle.ls_laws.proofs.ChosenVips.{IsChosen, chosen, has_backend, none_chosen}
use Rattle.ls_laws.proofs.VipMatches.{asks, is_for, to_backend}

no_port : (a b : Option ℕ) → is_for_all a ≡ true → is_for_all b ≡ true → same_port a b ≡ true
no_port None None is_a is_b = refl
no_port None (Some b) is_a is_b = absurd (false≢true is_b)
no_port (Some a) b is_a is_b = absurd (false≢true is_a)

module _ (packet : Values) where
  -- ---- VIPs of the packet's port, and those for all

  abbrev of_port : Lb → Vip → Bool
  of_port lb vip = is_to packet vip && is_to_port lb.proto packet vip.at.port

  abbrev for_all : Lb → Vip → Bool
  for_all lb vip = is_to packet vip && is_for_all vip.at.port

  -- two of a load balancer are at one address and port
  one_address : (a b : Vip) → is_to packet a ≡ true → is_to packet b ≡ true → eqb a.at.addr.0 b.at.addr.0 ≡ true
  one_address a b to_a to_b = eq-eqb a.at.addr.0 b.at.addr.0 (eqb-true a.at.addr.0 (value packet Ip4Dst) to_a ∙ sym (eqb-true b.at.addr.0 (value packet Ip4Dst) to_b))

  one_port : (proto : Proto) (a b : Option ℕ) → is_to_port proto packet a ≡ true → is_to_port proto packet b ≡ true → same_port a b ≡ true
  one_port proto None b is_a is_b = absurd (false≢true is_a)
  one_port proto (Some a) None is_a is_b = absurd (false≢true is_b)
  one_port proto (Some a) (Some b) is_a is_b =
      eq-eqb a b (eqb-true a (dport_of packet) (and_parts (is_of proto packet) (eqb a (dport_of packet)) is_a).1 ∙ sym (eqb-true b (dport_of packet) (and_parts (is_of proto packet) (eqb b (dport_of packet)) is_b).1))

  one_of_port : (lb : Lb) (a b : Vip) → of_port lb a ≡ true → of_port lb b ≡ true → same_frontend a.at b.at ≡ true
  one_of_port lb a b is_a is_b =
      let parts_a = and_parts (is_to packet a) (is_to_port lb.proto packet a.at.port) is_a in
      let parts_b = and_parts (is_to packet b) (is_to_port lb.proto packet b.at.port) is_b in
      and_from (eqb a.at.addr.0 b.at.addr.0) (same_port a.at.port b.at.port) (one_address a b parts_a.0 parts_b.0) (one_port lb.proto a.at.port b.at.port parts_a.1 parts_b.1)

  one_for_all : (lb : Lb) (a b : Vip) → for_all lb a ≡ true → for_all lb b ≡ true → same_frontend a.at b.at ≡ true
  one_for_all lb a b is_a is_b =
      let parts_a = and_parts (is_to packet a) (is_for_all a.at.port) is_a in
      let parts_b = and_parts (is_to packet b) (is_for_all b.at.port) is_b in
      and_from (eqb a.at.addr.0 b.at.addr.0) (same_port a.at.port b.at.port) (one_address a b parts_a.0 parts_b.0) (no_port a.at.port b.at.port parts_a.1 parts_b.1)

  -- a VIP that the packet is for is of its port, or for all
  abbrev IsOfPort : Lb → Vip → Type 0
  IsOfPort lb vip = (of_port lb vip ≡ true) × (priority_of_vip vip.at.port ≡ 120)

  abbrev IsForAll : Lb → Vip → Type 0
  IsForAll lb vip = (for_all lb vip ≡ true) × (priority_of_vip vip.at.port ≡ 110)

  either_of : (lb : Lb) (vip : Vip) → is_for packet lb vip ≡ true → IsOfPort lb vip ⊎ IsForAll lb vip
  either_of lb vip is = by vip.at.port refl
    where
      parts : (is_to packet vip ≡ true) × (asks packet lb.proto vip.at.port ≡ true)
      parts = and_parts (is_to packet vip) (asks packet lb.proto vip.at.port) is

      by : (port : Option ℕ) → vip.at.port ≡ port → IsOfPort lb vip ⊎ IsForAll lb vip
      by None none = inr (and_from (is_to packet vip) (is_for_all vip.at.port) parts.0 (ap is_for_all none), ap priority_of_vip none)
      by (Some port) some =
          inl (
            and_from (is_to packet vip) (is_to_port lb.proto packet vip.at.port) parts.0 (ap (is_to_port lb.proto packet) some ∙ (sym (ap (asks packet lb.proto) some) ∙ parts.1)),
            ap priority_of_vip some,
          )

  port_asks : (lb : Lb) (vip : Vip) → of_port lb vip ≡ true → (is_for packet lb vip ≡ true) × (priority_of_vip vip.at.port ≡ 120)
  port_asks lb vip is = by vip.at.port refl
    where
      parts : (is_to packet vip ≡ true) × (is_to_port lb.proto packet vip.at.port ≡ true)
      parts = and_parts (is_to packet vip) (is_to_port lb.proto packet vip.at.port) is

      by : (port : Option ℕ) → vip.at.port ≡ port → (is_for packet lb vip ≡ true) × (priority_of_vip vip.at.port ≡ 120)
      by None none = absurd (false≢true (sym (ap (is_to_port lb.proto packet) none) ∙ parts.1))
      by (Some port) some = (
        and_from (is_to packet vip) (asks packet lb.proto vip.at.port) parts.0 (ap (asks packet lb.proto) some ∙ (sym (ap (is_to_port lb.proto packet) some) ∙ parts.1)),
        ap priority_of_vip some,
      )

  all_asks : (lb : Lb) (vip : Vip) → for_all lb vip ≡ true → (is_for packet lb vip ≡ true) × (priority_of_vip vip.at.port ≡ 110)
  all_asks lb vip is = by vip.at.port refl
    where
      parts : (is_to packet vip ≡ true) × (is_for_all vip.at.port ≡ true)
      parts = and_parts (is_to packet vip) (is_for_all vip.at.port) is

      by : (port : Option ℕ) → vip.at.port ≡ port → (is_for packet lb vip ≡ true) × (priority_of_vip vip.at.port ≡ 110)
      by None none = (and_from (is_to packet vip) (asks packet lb.proto vip.at.port) parts.0 (ap (asks packet lb.proto) none), ap priority_of_vip none)
      by (Some port) some = absurd (false≢true (sym (ap is_for_all some) ∙ parts.1))

-- a VIP is this one or after it: it is for all where this is of the packet's port, or of a later load balancer
abbrev pub IsAfter : Lb → Vip → Lb → Vip → Type 0
IsAfter lb vip other another =
    (another ≡ vip) ⊎ ((priority_of_vip another.at.port < priority_of_vip vip.at.port) ⊎ ((priority_of_vip another.at.port ≡ priority_of_vip vip.at.port) × (lb.id.0 < other.id.0)))

-- the load balancers of a network of which this holds
module _ (net : Network) (sound : IsSound net) (which : Lb → Bool) (packet : Values) where
  abbrev pub lbs : List Lb
  lbs = filter which net.lbs

  -- the VIP that the packet is for, with its load balancer
  pub record IsMeant (vip : Vip) : Type 0 where
    pub lb : Lb
    pub attached : Contains lbs lb
    pub in_lb : Contains lb.vips vip
    pub taken : is_for packet lb vip ≡ true
    pub others : (other : Lb) → Contains lbs other → (another : Vip) → Contains other.vips another → is_for packet other another ≡ true → IsAfter lb vip other another

  abbrev first_of_port : Option Vip
  first_of_port = slice_get (filter_map (vip_of_port packet) lbs) 0

  abbrev first_for_all : Option Vip
  first_for_all = slice_get (filter_map (vip_for_all packet) lbs) 0

  -- of one priority
  level : (lb : Lb) (vip : Vip) (other : Lb) (another : Vip) (n : ℕ) → priority_of_vip vip.at.port ≡ n → priority_of_vip another.at.port ≡ n → (another ≡ vip) ⊎ (lb.id.0 < other.id.0)
      → IsAfter lb vip other another
  level lb vip other another n is_n is_m (inl same) = inl same
  level lb vip other another n is_n is_m (inr later) = inr (inr (is_m ∙ sym is_n, later))

  by_port : (vip : Vip) → first_of_port ≡ Some vip → IsMeant vip
  by_port vip found = record { lb = first.lb; attached = first.attached; in_lb = first.in_lb; taken = is.0; others = λ other attached another in_other asks. by other attached another in_other (either_of packet other another asks) }
    where
      first : IsChosen net sound which (of_port packet) (one_of_port packet) vip
      first = chosen net sound which (of_port packet) (one_of_port packet) vip found

      is : (is_for packet first.lb vip ≡ true) × (priority_of_vip vip.at.port ≡ 120)
      is = port_asks packet first.lb vip first.passed

      by : (other : Lb) → Contains lbs other → (another : Vip) → Contains other.vips another → IsOfPort packet other another ⊎ IsForAll packet other another → IsAfter first.lb vip other another
      by other attached another in_other (inl of) = level first.lb vip other another 120 is.1 of.1 (first.others other attached another in_other of.0)
      by other attached another in_other (inr of) = inr (inl (rw (is.1, of.1) (lit< tt)))

  -- no VIP is of its port
  module _ (none_of_port : first_of_port ≡ None) where
    no_vip_of_port : (lb : Lb) → Contains lbs lb → (vip : Vip) → Contains lb.vips vip → of_port packet lb vip ≡ true → ⊥
    no_vip_of_port = none_chosen net sound which (of_port packet) (one_of_port packet) none_of_port

    by_all : (vip : Vip) → first_for_all ≡ Some vip → IsMeant vip
    by_all vip found = record { lb = first.lb; attached = first.attached; in_lb = first.in_lb; taken = is.0; others = λ other attached another in_other asks. by other attached another in_other (either_of packet other another asks) }
      where
        first : IsChosen net sound which (for_all packet) (one_for_all packet) vip
        first = chosen net sound which (for_all packet) (one_for_all packet) vip found

        is : (is_for packet first.lb vip ≡ true) × (priority_of_vip vip.at.port ≡ 110)
        is = all_asks packet first.lb vip first.passed

        by : (other : Lb) → Contains lbs other → (another : Vip) → Contains other.vips another → IsOfPort packet other another ⊎ IsForAll packet other another → IsAfter first.lb vip other another
        by other attached another in_other (inl of) = absurd (no_vip_of_port other attached another in_other of.0)
        by other attached another in_other (inr of) = level first.lb vip other another 110 is.1 of.1 (first.others other attached another in_other of.0)

    -- and none is for all
    no_vip : first_for_all ≡ None → (lb : Lb) → Contains lbs lb → (vip : Vip) → Contains lb.vips vip → is_for packet lb vip ≡ true → ⊥
    no_vip none_for_all lb attached vip in_lb asks = by (either_of packet lb vip asks)
      where
        by : IsOfPort packet lb vip ⊎ IsForAll packet lb vip → ⊥
        by (inl of) = no_vip_of_port lb attached vip in_lb of.0
        by (inr of) = none_chosen net sound which (for_all packet) (one_for_all packet) none_for_all lb attached vip in_lb of.0

  -- the VIP that the meaning says is so
  pub meant : (vip : Vip) → meaning.vip lbs packet ≡ Some vip → IsMeant vip
  meant vip is = by first_of_port first_for_all refl refl is
    where
      by : (port all : Option Vip) → first_of_port ≡ port → first_for_all ≡ all → either port all ≡ Some vip → IsMeant vip
      by (Some own) all found of_all same = by_port vip (found ∙ same)
      by None all none of_all same = by_all none vip (of_all ∙ same)

  -- and where it says none, the packet is for none
  pub none_meant : meaning.vip lbs packet ≡ None → (lb : Lb) → Contains lbs lb → (vip : Vip) → Contains lb.vips vip → is_for packet lb vip ≡ true → ⊥
  none_meant is = by first_of_port first_for_all refl refl is
    where
      by : (port all : Option Vip) → first_of_port ≡ port → first_for_all ≡ all → either port all ≡ None → (lb : Lb) → Contains lbs lb → (vip : Vip) → Contains lb.vips vip → is_for packet lb vip ≡ true → ⊥
      by (Some own) all found of_all none = absurd (none-some own (sym none))
      by None all none of_all same = no_vip none (of_all ∙ same)

  -- a packet that is for a VIP gets the tuple to one of its backends
  pub goes_to : (vip : Vip) → meaning.vip lbs packet ≡ Some vip → balanced_tuple lbs packet ≡ option_map (to_backend packet) (backend_for packet vip)
  goes_to vip is = ap (λ v. option_map (to_backend packet) (option_and_then (backend_for packet) v)) is

  pub has_tuple : (vip : Vip) → IsMeant vip → (t : Tuple) × (option_map (to_backend packet) (backend_for packet vip) ≡ Some t)
  has_tuple vip of =
      let own = has_backend net sound which of.lb of.attached vip of.in_lb packet in
      (to_backend packet own.0, ap (option_map (to_backend packet)) own.1)
