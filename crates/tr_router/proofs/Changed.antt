-- What a router's changes of addresses leave: a packet, and a state, or nothing; and of a packet of the rows what they leave of the router's packet
-- that it stands for.
use Rattle.std.proofs.Common.{◌≡◌, ℕ, zero, suc, ◌+◌, ◌-◌, ◌<◌, ◌^◌, Bool, true, false, cond, nat_lt, List, [], ◌∷◌, ◌⊎◌, inl, inr, sym, ap, refl, subst, ◌∙◌, arith}
use Rattle.std.specs.Prelude.{◌==◌, ◌&&◌, ◌||◌, not, if◌then◌else◌, fold, filter, length, Option, Some, None, option_map, option_and_then, slice_get, is_some}
use Rattle.std.specs.Bool.{IsTrue}
use Rattle.std.specs.List.{AllByRecursion, Contains, cons_option, filter_map, find, list_all, list_any}
use Rattle.std.proofs.lemmas.Bool.{and_parts, ltb-true}
use Rattle.std.proofs.lemmas.Option.{same_Some, none-some}
use Rattle.nv_base.specs.Field.{field_count}
use Rattle.nv_base.specs.declared.field.Field.{Field}
use Rattle.nv_base.specs.declared.field.Field.TheVariants.{Ip4Src, Ip4Dst}
use Rattle.nv_base.specs.declared.field.Prerequisite.TheVariants.{Tcp, Udp}
use Rattle.nv_base.specs.Name.{is_object_name}
use Rattle.nv_base.specs.declared.ip4.Ip4.{Ip4}
use Rattle.nv_base.specs.declared.object.ObjId.{ObjId}
use Rattle.pkt_core.specs.declared.tuple.Tuple.{Tuple}
use Rattle.pkt_core.specs.Packet.{Values, IsPacket, value}
use Rattle.pkt_core.specs.Prerequisite.{is_ip4, meets}
use Rattle.pkt_core.specs.Tuple.{dport_of, swap, tuple, with_tuple}
use Rattle.ct_core.specs.declared.entry.Entry.{Entry}
use Rattle.ct_core.specs.declared.look.Look.{Look}
use Rattle.ct_core.specs.declared.look.Look.TheVariants.{Invalid, New, Found}
use Rattle.ct_core.specs.declared.look.Side.TheVariants.{Orig, Reply}
use Rattle.ct_core.specs.declared.zone.Zone.{Zone}
use Rattle.ct_core.specs.declared.zone.Zone.TheVariants.{Dnat, Snat}
use Rattle.ct_core.specs.Changes.{AreConnections, IsEntry, IsTuple, object_of, recorded}
use Rattle.ct_core.specs.Look.{look}
use Rattle.ct_core.specs.State.{State}
use Rattle.ct_core.specs.Translation.{back, balance, begun_as, forth, is_free, is_reply, ports, snat_port, with_destination, with_source}
use Rattle.ct_core.proofs.Changed.{keeps_recorded}
use Rattle.nb_records.specs.declared.balancer.Backend.{Backend}
use Rattle.nb_records.specs.declared.balancer.Lb.{Lb}
use Rattle.nb_records.specs.declared.balancer.Proto.{Proto}
use Rattle.nb_records.specs.declared.balancer.Proto.TheVariants as proto
use Rattle.nb_records.specs.declared.balancer.Vip.{Vip}
use Rattle.nb_records.specs.declared.router.Nat.{Nat}
use Rattle.nb_model.specs.Belongs.{either, is_snat}
use Rattle.nb_model.specs.Network.{Network, same}
use Rattle.nb_model.specs.Readable as readable
use Rattle.nb_model.specs.Sound.{IsSound}
use Rattle.nb_model.proofs.Readable.{of_lb}
use Rattle.nb_router.specs.Vocabulary.{dnats, is_attached, lbs_of, nats_of}
use Rattle.net_meaning.specs.declared.cause.Cause.{Cause}
use Rattle.net_meaning.specs.declared.cause.Cause.TheVariants.{CtFull, NoPort}
use Rattle.net_router.specs.Input.{is_in_network}
use Rattle.net_meaning.specs.Balancing.{backend_for, balanced_tuple, is_for_all, is_of, is_to, is_to_port, vip, vip_for_all, vip_of_port}
use Rattle.net_router.specs.Translation.{Changed, bound, bound_if, changed_out, changes_source, closer, destination_rule, dnatted, hidden_behind, hidden_by, new_tuple, redirected, snatted, source_rule, unsnatted, where_room, with_port}
use Rattle.net_router.specs.Translation.Changed.{Onward, Stopped}
use Rattle.net_rows.proofs.Elements.{Contains-from_filter, one_first, one_later, one_of, one_of_none}
use Rattle.net_rows.proofs.Sound.{each_passes}
use Rattle.lr_units.proofs.SoundRouters.{nat_is_sound}
use Rattle.nv_table.proofs.Found.{found_there}
use Rattle.tr_router.specs.Parts.{IsState}
use Rattle.tr_router.proofs.Alike.{StandsFor, same_ip4, same_meets, same_tuple}
use Rattle.tr_router.proofs.Translated.{both_with_tuple, of_back, of_forth, same_look, stays, swap_is, tuple_is, with_tuple_is, with_tuple_stays}

-- ---- what is left

-- all else of the packet stays
abbrev pub KeepsRest : Values → Values → Type 0
KeepsRest before packet = (field : Field) → stays field ≡ true → value packet field ≡ value before field

-- a packet, of which all else is as before, and a state
abbrev pub IsLeftOf : Values → Changed → Type 0
IsLeftOf before (Onward packet state) = IsPacket packet × IsState state × KeepsRest before packet
IsLeftOf before (Stopped cause) = Unit {0}

-- by a change both go on, with one state, or both are dropped, for one cause
abbrev pub BothChange : ℕ → Changed → Changed → Type 0
BothChange out (Onward own after) (Onward packet later) = StandsFor out own packet × (after ≡ later)
BothChange out (Stopped why) (Stopped cause) = why ≡ cause
BothChange out _ _ = ⊥

with_conns_is : (state : State) (conns : List Entry) → IsState state → AreConnections conns → IsState (record state { conns = conns })
with_conns_is state conns is are = record { conns = are; nbrs = is.nbrs }

module _ (zone : Zone) (numbered : (object_of zone).0 < 2 ^ 32) (packet : Values) (state : State) (is : IsPacket packet) (are : IsState state) where
  entry_is : (t : Tuple) → IsTuple t → IsEntry (begun_as zone t packet)
  entry_is t of = record { zone = numbered; orig = tuple_is packet is; reply = swap_is t of }

  pub bound_left : (t : Tuple) → IsTuple t → IsLeftOf packet (bound zone t packet state)
  bound_left t of = by (recorded (begun_as zone t packet) state.conns) refl
    where
      by : (room : Option (List Entry)) → recorded (begun_as zone t packet) state.conns ≡ room → IsLeftOf packet (where_room room (with_tuple packet t) state)
      by None full = tt
      by (Some conns) there = (
        with_tuple_is packet t is of,
        with_conns_is state conns are (keeps_recorded (begun_as zone t packet) state.conns conns are.conns (entry_is t of) there),
        λ field kept. with_tuple_stays packet t field is.count kept,
      )

  pub bound_if_left : (t : Option Tuple) → ((u : Tuple) → t ≡ Some u → IsTuple u) → IsLeftOf packet (bound_if zone t packet state)
  bound_if_left None of = (is, are, λ field kept. refl)
  bound_if_left (Some t) of = bound_left t (of t refl)

module _ (out : ℕ) (a b : Values) (it : StandsFor out a b) where
  pub both_bound : (zone : Zone) (t : Tuple) (state : State) → BothChange out (bound zone t a state) (bound zone t b state)
  both_bound zone t state =
      subst (λ (room : Option (List Entry)). BothChange out (where_room room (with_tuple a t) state) (bound zone t b state)) (sym same_room) (by (recorded (begun_as zone t b) state.conns))
    where
      same_room : recorded (begun_as zone t a) state.conns ≡ recorded (begun_as zone t b) state.conns
      same_room = λ i. recorded (record { zone = zone; orig = same_tuple out a b it i; reply = swap t; blocked = false }) state.conns

      by : (room : Option (List Entry)) → BothChange out (where_room room (with_tuple a t) state) (where_room room (with_tuple b t) state)
      by None = refl
      by (Some conns) = (both_with_tuple out a b it t, refl)

  pub both_bound_if : (zone : Zone) (t : Option Tuple) (state : State) → BothChange out (bound_if zone t a state) (bound_if zone t b state)
  both_bound_if zone None state = (it, refl)
  both_bound_if zone (Some t) state = both_bound zone t state

  -- ---- which rule, which VIP

  same_dst : value a Ip4Dst ≡ value b Ip4Dst
  same_dst = it.same Ip4Dst refl

  same_dport : dport_of a ≡ dport_of b
  same_dport = λ i. (same_tuple out a b it i).dport

  same_to_port : (of : Proto) (port : Option ℕ) → is_to_port of a port ≡ is_to_port of b port
  same_to_port of None = refl
  same_to_port proto.Tcp (Some port) = λ i. same_meets out a b it Tcp i && (port == same_dport i)
  same_to_port proto.Udp (Some port) = λ i. same_meets out a b it Udp i && (port == same_dport i)

  same_vip : (lbs : List Lb) → vip lbs a ≡ vip lbs b
  same_vip lbs = λ i.
      either (slice_get (filter_map (λ (lb : Lb). find (λ (v : Vip). (v.at.addr.0 == same_dst i) && same_to_port lb.proto v.at.port i) lb.vips) lbs) 0)
      (slice_get (filter_map (λ (lb : Lb). find (λ (v : Vip). (v.at.addr.0 == same_dst i) && is_for_all v.at.port) lb.vips) lbs) 0)

  same_backend : (v : Vip) → backend_for a v ≡ backend_for b v
  same_backend v = λ i. slice_get v.backends (balance (same_tuple out a b it i) (length v.backends))

  pub same_balanced : (lbs : List Lb) → balanced_tuple lbs a ≡ balanced_tuple lbs b
  same_balanced lbs = λ i. option_map (λ (backend : Backend). with_destination backend.addr backend.port (same_tuple out a b it i)) (option_and_then (λ (v : Vip). same_backend v i) (same_vip lbs i))

  pub same_new_tuple : (net : Network) (router : ObjId) → new_tuple net router a ≡ new_tuple net router b
  same_new_tuple net router = λ i.
      either (same_balanced (lbs_of net router) i)
      (option_map (λ (nat : Nat). with_destination nat.logical.base None (same_tuple out a b it i)) (find (λ (nat : Nat). not (is_snat nat.kind) && (nat.external.0 == same_dst i)) (nats_of net router)))

  pub same_source_rule : (net : Network) (router : ObjId) → source_rule net router a ≡ source_rule net router b
  same_source_rule net router = λ i. fold closer None (filter (λ (nat : Nat). changes_source nat.kind && is_in_network (it.same Ip4Src refl i) nat.logical) (nats_of net router))

  -- ---- arriving

  pub both_unsnatted : (net : Network) (router : ObjId) (conns : List Entry) → StandsFor out (unsnatted net router conns a) (unsnatted net router conns b)
  both_unsnatted net router conns =
      subst (λ (c : Bool). StandsFor out (cond c (back conns a (look conns (Snat router) a)) a) (unsnatted net router conns b)) (sym same_test)
      (subst (λ (found : Look). StandsFor out (cond (test (value b Ip4Dst)) (back conns a found) a) (unsnatted net router conns b)) (sym (same_look out a b it conns (Snat router)))
      (by (test (value b Ip4Dst)) (look conns (Snat router) b)))
    where
      test : ℕ → Bool
      test dst = list_any (λ (nat : Nat). changes_source nat.kind && (nat.external.0 == dst)) (nats_of net router)

      same_test : test (value a Ip4Dst) ≡ test (value b Ip4Dst)
      same_test = ap test same_dst

      by : (c : Bool) (found : Look) → StandsFor out (cond c (back conns a found) a) (cond c (back conns b found) b)
      by true found = of_back.both conns out a b found it
      by false found = it

  -- ---- leaving

  same_port : (conns : List Entry) (zone : Zone) (external : Ip4) → snat_port conns zone (tuple a) external ≡ snat_port conns zone (tuple b) external
  same_port conns zone external = ap (λ (t : Tuple). snat_port conns zone t external) (same_tuple out a b it)

  both_with_port : (zone : Zone) (external : Ip4) (port : Option ℕ) (state : State) → BothChange out (with_port zone external port a state) (with_port zone external port b state)
  both_with_port zone external None state = refl
  both_with_port zone external (Some port) state =
      subst (λ (t : Tuple). BothChange out (bound zone (with_source external port t) a state) (bound zone (with_source external port (tuple b)) b state)) (sym (same_tuple out a b it))
      (both_bound zone (with_source external port (tuple b)) state)

  both_behind : (zone : Zone) (external : Ip4) (state : State) (found : Look) → BothChange out (hidden_behind zone external a state found) (hidden_behind zone external b state found)
  both_behind zone external state New =
      subst (λ (port : Option ℕ). BothChange out (with_port zone external port a state) (with_port zone external (snat_port state.conns zone (tuple b) external) b state)) (sym (same_port state.conns zone external))
      (both_with_port zone external (snat_port state.conns zone (tuple b) external) state)
  both_behind zone external state Invalid = (it, refl)
  both_behind zone external state (Found at side related blocked) = (of_forth.both state.conns out a b (Found at side related blocked) it, refl)

  pub both_hidden : (router : ObjId) (rule : Option Nat) (state : State) → BothChange out (hidden_by router rule a state) (hidden_by router rule b state)
  both_hidden router None state = (it, refl)
  both_hidden router (Some nat) state =
      subst (λ (found : Look). BothChange out (hidden_behind (Snat router) nat.external a state found) (hidden_by router (Some nat) b state)) (sym (same_look out a b it state.conns (Snat router)))
      (both_behind (Snat router) nat.external state (look state.conns (Snat router) b))

-- ---- the tuples fit

-- what is found first is found in one of them
first_found : {A B : Type 0} (f : A → Option B) (xs : List A) (v : B) → slice_get (filter_map f xs) 0 ≡ Some v → (x : A) × Contains xs x × (f x ≡ Some v)
first_found f [] v is = absurd (none-some v is)
first_found {A} {B} f (x ∷ xs) v is = by (f x) refl (first_found f xs v) is
  where
    by : (found : Option B) → f x ≡ found → (slice_get (filter_map f xs) 0 ≡ Some v → (y : A) × Contains xs y × (f y ≡ Some v)) → slice_get (cons_option found (filter_map f xs)) 0 ≡ Some v
        → (y : A) × Contains (x ∷ xs) y × (f y ≡ Some v)
    by None none rest later = let at = rest later in (at.0, one_later x xs at.0 at.1, at.2)
    by (Some w) here rest first = (x, one_first x xs x refl, here ∙ first)

at_there : {A : Type 0} (xs : List A) (i : ℕ) (x : A) → slice_get xs i ≡ Some x → Contains xs x
at_there [] i x is = absurd (none-some x is)
at_there (y ∷ xs) zero x is = one_first y xs x (same_Some y x is)
at_there (y ∷ xs) (suc i) x is = one_later y xs x (at_there xs i x is)

-- the rule that is taken is one of them
closest_there : (nats : List Nat) (first : Option Nat) (best : Nat) → fold closer first nats ≡ Some best → (first ≡ Some best) ⊎ Contains nats best
closest_there [] first best is = inl is
closest_there (nat ∷ nats) first best is = by first (closest_there nats (closer first nat) best is)
  where
    by_length : (old : Nat) (b : Bool) → (cond b (Some nat) (Some old) ≡ Some best) → (Some old ≡ Some best) ⊎ Contains (nat ∷ nats) best
    by_length old true same_one = inr (one_first nat nats best (same_Some nat best same_one))
    by_length old false same_one = inl same_one

    by : (old : Option Nat) → (closer old nat ≡ Some best) ⊎ Contains nats best → (old ≡ Some best) ⊎ Contains (nat ∷ nats) best
    by old (inr later) = inr (one_later nat nats best later)
    by None (inl same_one) = inr (one_first nat nats best (same_Some nat best same_one))
    by (Some old) (inl same_one) = by_length old (nat_lt old.logical.len nat.logical.len) same_one

with_destination_is : (addr : Ip4) (port : Option ℕ) (t : Tuple) → addr.0 < 2 ^ 32 → ((n : ℕ) → port ≡ Some n → n < 2 ^ 16) → IsTuple t → IsTuple (with_destination addr port t)
with_destination_is addr None t low service is = record { proto = is.proto; src = is.src; sport = is.sport; dst = low; dport = is.dport }
with_destination_is addr (Some n) t low service is = record { proto = is.proto; src = is.src; sport = is.sport; dst = low; dport = service n refl }

service_is : (port : Option ℕ) → IsTrue (readable.is_service port) → (n : ℕ) → port ≡ Some n → n < 2 ^ 16
service_is None is n at = absurd (none-some n at)
service_is (Some m) is n at = subst (λ k. k < 2 ^ 16) (same_Some m n at) (ltb-true m 65536 (and_parts (nat_lt 0 m) (nat_lt m 65536) is).1)

-- a load balancer of the network, of which these are some
module _ (net : Network) (sound : IsSound net) (lbs : List Lb) (of_net : (lb : Lb) → Contains lbs lb → Contains net.lbs lb) where
  -- a VIP of one of them
  vip_there : (packet : Values) (v : Vip) → vip lbs packet ≡ Some v → (lb : Lb) × Contains net.lbs lb × Contains lb.vips v
  vip_there packet v = by (slice_get (filter_map (vip_of_port packet) lbs) 0) refl (slice_get (filter_map (vip_for_all packet) lbs) 0) refl
    where
      of_its_lb : (p : Vip → Bool) (lb : Lb) → Contains lbs lb → find p lb.vips ≡ Some v → (l : Lb) × Contains net.lbs l × Contains l.vips v
      of_its_lb p lb there found = (lb, of_net lb there, (found_there p v lb.vips found).0)

      by : (of_port : Option Vip) → slice_get (filter_map (vip_of_port packet) lbs) 0 ≡ of_port → (for_all : Option Vip) → slice_get (filter_map (vip_for_all packet) lbs) 0 ≡ for_all
          → either of_port for_all ≡ Some v → (l : Lb) × Contains net.lbs l × Contains l.vips v
      by (Some w) first for_all later is =
          let at = first_found (vip_of_port packet) lbs v (first ∙ is) in
          of_its_lb (λ (u : Vip). is_to packet u && is_to_port at.0.proto packet u.at.port) at.0 at.1 at.2
      by None first for_all later is =
          let at = first_found (vip_for_all packet) lbs v (later ∙ is) in
          of_its_lb (λ (u : Vip). is_to packet u && is_for_all u.at.port) at.0 at.1 at.2

  -- a backend of a VIP has an address, and a port
  backend_is : (lb : Lb) (v : Vip) (backend : Backend) → Contains net.lbs lb → Contains lb.vips v → Contains v.backends backend → IsTrue (readable.is_ip4 backend.addr) × IsTrue (readable.is_service backend.port)
  backend_is lb v backend there in_lb in_vip =
      let all = each_passes of_lb net.lbs lb sound.readable.lbs there in
      let good = each_passes readable.is_vip lb.vips v (and_parts (is_object_name lb.name && nat_lt 0 (length lb.vips)) (list_all readable.is_vip lb.vips) all).1 in_lb in
      let each =
      each_passes (readable.is_backend (is_some v.at.port)) v.backends backend
      (and_parts (readable.is_frontend v.at && nat_lt 0 (length v.backends)) (list_all (readable.is_backend (is_some v.at.port)) v.backends) good).1 in_vip in
      and_parts (readable.is_ip4 backend.addr) (readable.is_service backend.port)
      (and_parts (readable.is_ip4 backend.addr && readable.is_service backend.port) (readable.same_truth (is_some backend.port) (is_some v.at.port)) each).0

  -- the tuple of a packet that goes to a backend fits
  pub balanced_is : (packet : Values) → IsPacket packet → (t : Tuple) → balanced_tuple lbs packet ≡ Some t → IsTuple t
  balanced_is packet formed t = by_vip (vip lbs packet) refl
    where
      by_vip : (v : Option Vip) → vip lbs packet ≡ v → option_map (λ (backend : Backend). with_destination backend.addr backend.port (tuple packet)) (option_and_then (backend_for packet) v) ≡ Some t → IsTuple t
      by_vip None none is = absurd (none-some t is)
      by_vip (Some v) at is = by (backend_for packet v) refl is
        where
          by : (found : Option Backend) → backend_for packet v ≡ found → option_map (λ (backend : Backend). with_destination backend.addr backend.port (tuple packet)) found ≡ Some t → IsTuple t
          by None none same_one = absurd (none-some t same_one)
          by (Some backend) there same_one =
              let of = vip_there packet v at in
              let good = backend_is of.0 v backend of.1 of.2 (at_there v.backends (balance (tuple packet) (length v.backends)) backend there) in
              subst IsTuple (same_Some (with_destination backend.addr backend.port (tuple packet)) t same_one)
              (with_destination_is backend.addr backend.port (tuple packet) (ltb-true backend.addr.0 (2 ^ 32) good.0) (service_is backend.port good.1) (tuple_is packet formed))

module _ (net : Network) (sound : IsSound net) (router : ObjId) where
  of_router : (nat : Nat) → Contains (nats_of net router) nat → Contains net.nats nat
  of_router nat there = Contains-from_filter (λ (n : Nat). same router n.router) net.nats nat there

  module _ (packet : Values) (formed : IsPacket packet) where
    by_rule : (rule : Option Nat) → destination_rule net router packet ≡ rule → (t : Tuple) → option_map (λ (nat : Nat). with_destination nat.logical.base None (tuple packet)) rule ≡ Some t → IsTuple t
    by_rule None none t is = absurd (none-some t is)
    by_rule (Some nat) at t is =
        let there = of_router nat (found_there (λ (n : Nat). not (is_snat n.kind) && (n.external.0 == value packet Ip4Dst)) nat (nats_of net router) at).0 in
        subst IsTuple (same_Some (with_destination nat.logical.base None (tuple packet)) t is)
        (with_destination_is nat.logical.base None (tuple packet) (nat_is_sound net sound nat there).1.base (λ n none. absurd (none-some n none)) (tuple_is packet formed))

    -- that of a packet which begins a connection fits
    pub new_tuple_is : (t : Tuple) → new_tuple net router packet ≡ Some t → IsTuple t
    new_tuple_is t =
        by (balanced_tuple (lbs_of net router) packet) refl
        (option_map (λ (nat : Nat). with_destination nat.logical.base None (tuple packet)) (destination_rule net router packet)) refl
      where
        of_net : (lb : Lb) → Contains (lbs_of net router) lb → Contains net.lbs lb
        of_net lb there = Contains-from_filter (is_attached net router) net.lbs lb there

        by : (of_vip : Option Tuple) → balanced_tuple (lbs_of net router) packet ≡ of_vip
            → (of_rule : Option Tuple) → option_map (λ (nat : Nat). with_destination nat.logical.base None (tuple packet)) (destination_rule net router packet) ≡ of_rule → either of_vip of_rule ≡ Some t → IsTuple t
        by (Some u) at of_rule by_it is = balanced_is net sound (lbs_of net router) of_net packet formed t (at ∙ is)
        by None at of_rule by_it is = by_rule (destination_rule net router packet) refl t (by_it ∙ is)

    -- the external address of the rule that changes the source fits
    pub source_rule_is : (nat : Nat) → source_rule net router packet ≡ Some nat → nat.external.0 < 2 ^ 32
    source_rule_is nat is = by (closest_there (filter wants (nats_of net router)) None nat is)
      where
        wants : Nat → Bool
        wants n = changes_source n.kind && is_in_network (value packet Ip4Src) n.logical

        by : (None ≡ Some nat) ⊎ Contains (filter wants (nats_of net router)) nat → nat.external.0 < 2 ^ 32
        by (inl none) = absurd (none-some nat none)
        by (inr there) = (nat_is_sound net sound nat (of_router nat (Contains-from_filter wants (nats_of net router) nat there))).0

-- ---- the port that is chosen

ports_first : (first count : ℕ) → ports first (suc count) ≡ first ∷ ports (first + 1) count
unfolding ports
ports_first first count = refl

no_ports : (first : ℕ) → ports first 0 ≡ []
unfolding ports
no_ports first = refl

ports_below : (count first port : ℕ) → Contains (ports first count) port → port < first + count
ports_below zero first port there = absurd (one_of_none port (subst (λ (ps : List ℕ). Contains ps port) (no_ports first) there))
ports_below (suc count) first port there =
    by (one_of first (ports (first + 1) count) port (subst (λ (ps : List ℕ). Contains ps port) (ports_first first count) there)) (ports_below count (first + 1) port)
  where
    by : (first ≡ port) ⊎ Contains (ports (first + 1) count) port → (Contains (ports (first + 1) count) port → port < first + 1 + count) → port < first + suc count
    by (inl same_one) rest = omega (arith, same_one)
    by (inr later) rest = let below = rest later in omega (arith, below)

chosen_fits : (conns : List Entry) (zone : Zone) (t : Tuple) (external : Ip4) (port : ℕ) → IsTuple t → snat_port conns zone t external ≡ Some port → port < 2 ^ 16
chosen_fits conns zone t external port is = by (is_free conns zone external t t.sport) ((t.proto == 6) || (t.proto == 17))
  where
    by : (own has_ports : Bool) → cond own (Some t.sport) (cond has_ports (find (is_free conns zone external t) (ports 1024 (65536 - 1024))) None) ≡ Some port → port < 2 ^ 16
    by true has_ports at = subst (λ n. n < 2 ^ 16) (same_Some t.sport port at) is.sport
    by false true at =
        let below = ports_below (65536 - 1024) 1024 port (found_there (is_free conns zone external t) port (ports 1024 (65536 - 1024)) at).0 in
        omega (arith, below)
    by false false at = absurd (none-some port at)

-- ---- what a router leaves

module _ (net : Network) (sound : IsSound net) (router : ObjId) (numbered : router.0 < 2 ^ 32) (packet : Values) (state : State) (is : IsPacket packet) (are : IsState state) where
  -- the packet is as it was, or as the connection has it
  as_it_is : IsLeftOf packet (Onward packet state)
  as_it_is = (is, are, λ field kept. refl)

  moved_forth : (found : Look) → IsLeftOf packet (Onward (forth state.conns packet found) state)
  moved_forth found = (of_forth.formed state.conns packet found are.conns is, are, λ field kept. of_forth.leaves state.conns packet found field is.count kept)

  moved_back : (found : Look) → IsLeftOf packet (Onward (back state.conns packet found) state)
  moved_back found = (of_back.formed state.conns packet found are.conns is, are, λ field kept. of_back.leaves state.conns packet found field is.count kept)

  pub redirected_left : (found : Look) → IsLeftOf packet (redirected net router packet state found)
  redirected_left New = bound_if_left (Dnat router) numbered packet state is are (new_tuple net router packet) (new_tuple_is net sound router packet is)
  redirected_left Invalid = as_it_is
  redirected_left (Found at side related blocked) = moved_forth (Found at side related blocked)

  pub dnatted_left : IsLeftOf packet (dnatted net router packet state)
  dnatted_left = by (dnats net router)
    where
      by : (b : Bool) → IsLeftOf packet (cond b (redirected net router packet state (look state.conns (Dnat router) packet)) (Onward packet state))
      by true = redirected_left (look state.conns (Dnat router) packet)
      by false = as_it_is

  with_port_left : (external : Ip4) → external.0 < 2 ^ 32 → (port : Option ℕ) → snat_port state.conns (Snat router) (tuple packet) external ≡ port → IsLeftOf packet (with_port (Snat router) external port packet state)
  with_port_left external low None chosen = tt
  with_port_left external low (Some port) chosen =
      let own = tuple_is packet is in
      bound_left (Snat router) numbered packet state is are (with_source external port (tuple packet))
      (record { proto = own.proto; src = low; sport = chosen_fits state.conns (Snat router) (tuple packet) external port own chosen; dst = own.dst; dport = own.dport })

  behind_left : (external : Ip4) → external.0 < 2 ^ 32 → (found : Look) → IsLeftOf packet (hidden_behind (Snat router) external packet state found)
  behind_left external low New = with_port_left external low (snat_port state.conns (Snat router) (tuple packet) external) refl
  behind_left external low Invalid = as_it_is
  behind_left external low (Found at side related blocked) = moved_forth (Found at side related blocked)

  pub hidden_left : (rule : Option Nat) → ((nat : Nat) → rule ≡ Some nat → nat.external.0 < 2 ^ 32) → IsLeftOf packet (hidden_by router rule packet state)
  hidden_left None low = as_it_is
  hidden_left (Some nat) low = behind_left nat.external (low nat refl) (look state.conns (Snat router) packet)

  pub snatted_left : (found : Look) → IsLeftOf packet (snatted net router packet state found)
  snatted_left found = by (dnats net router && is_reply found)
    where
      by : (b : Bool) → IsLeftOf packet (cond b (Onward (back state.conns packet found) state) (hidden_by router (source_rule net router packet) packet state))
      by true = moved_back found
      by false = hidden_left (source_rule net router packet) (source_rule_is net sound router packet is)

  pub changed_out_left : IsLeftOf packet (changed_out net router packet state)
  changed_out_left = by (is_ip4 packet)
    where
      by : (b : Bool) → IsLeftOf packet (cond b (snatted net router packet state (look state.conns (Dnat router) packet)) (Onward packet state))
      by true = snatted_left (look state.conns (Dnat router) packet)
      by false = as_it_is

  -- a reply to an external address
  pub unsnatted_left : IsLeftOf packet (Onward (unsnatted net router state.conns packet) state)
  unsnatted_left = by (list_any (λ (nat : Nat). changes_source nat.kind && (nat.external.0 == value packet Ip4Dst)) (nats_of net router))
    where
      by : (b : Bool) → IsLeftOf packet (Onward (cond b (back state.conns packet (look state.conns (Snat router) packet)) packet) state)
      by true = moved_back (look state.conns (Snat router) packet)
      by false = as_it_is
