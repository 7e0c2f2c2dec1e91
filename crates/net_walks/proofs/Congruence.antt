-- Walks over parts that do the same tell the same, whatever the notes of the parts.
use Rattle.std.proofs.Common.{◌≡◌, ℕ, zero, suc, Bool, true, false, cond, List, [], ◌∷◌, ◌++◌, map, sym, ap, refl, ◌∙◌, subst}
use Rattle.std.specs.Prelude.{Option, Some, None, option_map, not}
use Rattle.std.specs.List.{AllByRecursion, filter}
use Rattle.nv_base.specs.declared.object.ObjId.{ObjId}
use Rattle.nv_base.specs.declared.field.Field.TheVariants.{Outport}
use Rattle.pkt_core.specs.Packet.{Values, IsPacket, with_value, headers}
use Rattle.pkt_core.specs.Replies.{start}
use Rattle.nb_model.specs.Network.{Network, same}
use Rattle.net_meaning.specs.declared.answer.Answer.{Answer}
use Rattle.net_meaning.specs.declared.answer.Answer.TheVariants as answer
use Rattle.net_meaning.specs.declared.cause.Cause.TheVariants as cause
use Rattle.net_meaning.specs.declared.event.PlainEvent.{PlainEvent}
use Rattle.net_meaning.specs.declared.event.PlainEvent.TheVariants.{Output, Drop, HopLimit}
use Rattle.net_meaning.specs.Places.{Side, side_of, datapath_at}
use Rattle.net_meaning.specs.Places.Side.{Host, NoPeer, Peer}
use Rattle.net_meaning.specs.Walk.{Target, Passed, Part, Parts, Told, Walked, Onward, ends, told_of, after_told, carrying, then_part, crosses, delivered_to, made, left, leaves, leaves_late, copies, is_same_port, sent, arrived, enters, hops_left, walk, events}
use Rattle.net_meaning.specs.Walk.Passed.{GoesOn, Drops, Makes}
use Rattle.net_meaning.specs.Walk.Target.{OnePort, Ports, Late}
use Rattle.net_meaning.specs.Walk.Told.{Note, Happens}
use Rattle.net_walks.specs.Alike.{Agree, AreAlike, ArePackets, IsInside, IsKept, IsPort, SamePart, SameParts}

-- ---- what is told

module _ {N : Type 0} where
  -- events of what is told in two pieces
  events_append : (told more : List (Told N)) → events (told ++ more) ≡ events told ++ events more
  events_append [] more = refl
  events_append (Note note ∷ told) more = events_append told more
  events_append (Happens event ∷ told) more = ap (λ rest. event ∷ rest) (events_append told more)

  -- notes are no events
  no_notes : (notes : List N) → events (map Note notes) ≡ []
  no_notes [] = refl
  no_notes (note ∷ notes) = no_notes notes

-- what happens is all events
abbrev happen : {N : Type 0} → List PlainEvent → List (Told N)
happen all = map Happens all

all_events : (N : Type 0) (all : List PlainEvent) → events (happen {N = N} all) ≡ all
all_events N [] = refl
all_events N (event ∷ all) = ap (λ rest. event ∷ rest) (all_events N all)

module _ {N M S : Type 0} where
  -- walks that end at once
  ends_alike : (happens : List PlainEvent) (state : S) → AreAlike (ends {N = N} happens state) (ends {N = M} happens state)
  ends_alike happens state = record { told = all_events N happens ∙ sym (all_events M happens); left = refl }

  -- the same is told first
  after_alike : (one : List (Told N)) (other : List (Told M)) (w : Walked N S) (v : Walked M S) → events one ≡ events other → AreAlike w v → AreAlike (after_told one w) (after_told other v)
  after_alike one other w v first rest = record {
    told = events_append one w.told ∙ ap (λ es. es ++ events w.told) first ∙ ap (λ es. events other ++ es) rest.told ∙ sym (events_append other v.told);
    left = rest.left;
  }

-- ---- walks from states of a kind

module _ {N M S : Type 0} {Holds : S → Type 0} where
  ends_agree : (happens : List PlainEvent) (state : S) → Holds state → Agree Holds (ends {N = N} happens state) (ends {N = M} happens state)
  ends_agree happens state holds = record { alike = ends_alike happens state; holds = holds }

  after_agree : (one : List (Told N)) (other : List (Told M)) (w : Walked N S) (v : Walked M S) → events one ≡ events other → Agree Holds w v → Agree Holds (after_told one w) (after_told other v)
  after_agree one other w v first rest = record { alike = after_alike one other w v first rest.alike; holds = rest.holds }

-- the same is told of a packet that is made
same_told : (N M : Type 0) (answer : Answer) (arrival : ObjId) → events (told_of {N = N} answer arrival) ≡ events (told_of {N = M} answer arrival)
same_told N M answer.Reject arrival = refl
same_told N M answer.Arp arrival = refl

-- ---- walks over parts that do the same

module _ (net : Network) where
  module _ {N M S : Type 0} (Holds : S → Type 0) (ps : Parts N S) (qs : Parts M S) (same_parts : SameParts net Holds ps qs) (packets : ArePackets net) where
    -- a part, and what follows
    then_agree : (p : Part N S) (q : Part M S) (f : Option Passed → S → Walked N S) (g : Option Passed → S → Walked M S) → SamePart net Holds p q
        → ((passed : Option Passed) (state : S) → IsKept net passed → Holds state → Agree Holds (f passed state) (g passed state)) → Agree Holds (then_part p f) (then_part q g)
    then_agree p q f g same_part onward =
        after_agree (map Note p.notes) (map Note q.notes) (f (option_map carrying p.passed) p.state) (g (option_map carrying q.passed) q.state) (no_notes p.notes ∙ sym (no_notes q.notes))
        (rw (same_part.passed, same_part.state) (onward (option_map carrying q.passed) q.state same_part.kept same_part.holds))

    -- packets go on alike over the next hop
    record GoOnAlike (o : Onward N S) (p : Onward M S) : Type 0 where
      enters : (port : ObjId) (packet : Values) (state : S) → IsPort net port → IsPacket packet → Holds state → Agree Holds (o.enters port packet state) (p.enters port packet state)
      leaves : (arrival : ObjId) (packet : Values) (state : S) (port : ObjId) → IsPort net arrival → IsInside net packet → IsPort net port → Holds state → Agree Holds (o.leaves arrival packet state port) (p.leaves arrival packet state port)
      leaves_late : (arrival : ObjId) (packet : Values) (state : S) (port : ObjId) → IsPort net arrival → IsInside net packet → IsPort net port → Holds state → Agree Holds (o.leaves_late arrival packet state port) (p.leaves_late arrival packet state port)

    -- if there is one
    abbrev OnwardAlike : Option (Onward N S) → Option (Onward M S) → Type 0
    OnwardAlike None None = Unit {0}
    OnwardAlike (Some o) (Some p) = GoOnAlike o p
    OnwardAlike _ _ = ⊥

    module _ (o : Option (Onward N S)) (p : Option (Onward M S)) (onward : OnwardAlike o p) where
      crosses_agree : (a : Option (Onward N S)) (c : Option (Onward M S)) (peer : ObjId) (packet : Values) (state : S) → OnwardAlike a c → IsPort net peer → IsPacket packet → Holds state
          → Agree Holds (crosses net ps o peer packet state a) (crosses net qs p peer packet state c)
      crosses_agree None None peer packet state on at formed holds = ends_agree (HopLimit peer ∷ []) state holds
      crosses_agree (Some x) (Some y) peer packet state on at formed holds = on.enters peer packet state at formed holds
      crosses_agree None (Some y) peer packet state on at formed holds = absurd on
      crosses_agree (Some x) None peer packet state on at formed holds = absurd on

      delivered_agree : (port : ObjId) (packet : Values) (state : S) (side : Side) → side_of net port ≡ side → IsInside net packet → Holds state → Agree Holds (delivered_to net ps o port packet state side) (delivered_to net qs p port packet state side)
      delivered_agree port packet state Host is inside holds = ends_agree (Output port (headers packet) ∷ []) state holds
      delivered_agree port packet state NoPeer is inside holds = ends_agree (Drop (datapath_at net port) cause.NoPeer ∷ []) state holds
      delivered_agree port packet state (Peer peer) is inside holds = crosses_agree o p peer packet state onward (packets.sides port peer is) inside.formed holds

      made_agree : (answer : Answer) (a : Option (Onward N S)) (c : Option (Onward M S)) (arrival : ObjId) (port : ObjId) (packet : Values) (state : S) → OnwardAlike a c → IsPort net arrival → IsPort net port → IsInside net packet → Holds state
          → Agree Holds (made net ps o arrival answer a port packet state) (made net qs p arrival answer c port packet state)
      made_agree answer None None arrival port packet state on at to inside holds = ends_agree (HopLimit arrival ∷ []) state holds
      made_agree answer.Reject (Some x) (Some y) arrival port packet state on at to inside holds = on.leaves_late arrival packet state port at inside to holds
      made_agree answer.Arp (Some x) (Some y) arrival port packet state on at to inside holds = on.leaves arrival packet state port at inside to holds
      made_agree answer None (Some y) arrival port packet state on at to inside holds = absurd on
      made_agree answer (Some x) None arrival port packet state on at to inside holds = absurd on

      left_agree : (arrival port : ObjId) → IsPort net arrival → (passed : Option Passed) (state : S) → IsKept net passed → Holds state → Agree Holds (left net ps o arrival port passed state) (left net qs p arrival port passed state)
      left_agree arrival port at None state kept holds = ends_agree [] state holds
      left_agree arrival port at (Some (GoesOn (OnePort to) packet)) state kept holds = delivered_agree port packet state (side_of net port) refl kept.1 holds
      left_agree arrival port at (Some (GoesOn (Late to) packet)) state kept holds = delivered_agree port packet state (side_of net port) refl kept.1 holds
      left_agree arrival port at (Some (GoesOn (Ports ports) packet)) state kept holds = delivered_agree port packet state (side_of net port) refl kept.1 holds
      left_agree arrival port at (Some (Drops why)) state kept holds = ends_agree (Drop (datapath_at net port) why ∷ []) state holds
      left_agree arrival port at (Some (Makes answer by packet)) state kept holds =
          after_agree (told_of answer arrival) (told_of answer arrival) _ _ (same_told N M answer arrival) (made_agree answer o p arrival by packet state onward at kept.0 kept.1 holds)

      leaves_agree : (arrival : ObjId) (packet : Values) (state : S) (port : ObjId) → IsPort net arrival → IsInside net packet → IsPort net port → Holds state → Agree Holds (leaves net ps o arrival packet state port) (leaves net qs p arrival packet state port)
      leaves_agree arrival packet state port at inside is holds =
          let out = packets.leaves port packet is inside in
          then_agree _ _ (left net ps o arrival port) (left net qs p arrival port) (same_parts.leaving port (with_value packet Outport port.0) state is out.0 out.1 holds) (left_agree arrival port at)

      late_agree : (arrival : ObjId) (packet : Values) (state : S) (port : ObjId) → IsPort net arrival → IsInside net packet → IsPort net port → Holds state → Agree Holds (leaves_late net ps o arrival packet state port) (leaves_late net qs p arrival packet state port)
      late_agree arrival packet state port at inside is holds =
          let out = packets.leaves port packet is inside in
          then_agree _ _ (left net ps o arrival port) (left net qs p arrival port) (same_parts.late port (with_value packet Outport port.0) state is out.0 out.1 holds) (left_agree arrival port at)

      copies_agree : (arrival : ObjId) (packet : Values) (state : S) (ports : List ObjId) → IsPort net arrival → IsInside net packet → AllByRecursion (IsPort net) ports → Holds state → Agree Holds (copies net ps o arrival packet state ports) (copies net qs p arrival packet state ports)
      copies_agree arrival packet state [] at inside all holds = ends_agree [] state holds
      copies_agree arrival packet state (port ∷ ports) at inside all holds =
          let first = leaves_agree arrival packet state port at inside all.0 holds in
          after_agree _ _ (copies net ps o arrival packet (leaves net ps o arrival packet state port).state ports) (copies net qs p arrival packet (leaves net qs p arrival packet state port).state ports) first.alike.told
          (subst (λ s. Agree Holds (copies net ps o arrival packet s ports) (copies net qs p arrival packet (leaves net qs p arrival packet state port).state ports)) (sym first.alike.left)
          (copies_agree arrival packet (leaves net qs p arrival packet state port).state ports at inside all.1 first.holds))

      others : (arrival : ObjId) (ports : List ObjId) → AllByRecursion (IsPort net) ports → AllByRecursion (IsPort net) (filter (λ port. not (same port arrival)) ports)
      others arrival [] all = tt
      others arrival (port ∷ ports) all = by (not (same port arrival)) (others arrival ports all.1)
        where
          by : (b : Bool) → AllByRecursion (IsPort net) (filter (λ port. not (same port arrival)) ports) → AllByRecursion (IsPort net) (cond b (port ∷ filter (λ port. not (same port arrival)) ports) (filter (λ port. not (same port arrival)) ports))
          by true rest = (all.0, rest)
          by false rest = rest

      sent_agree : (arrival : ObjId) (target : Target) (packet : Values) (state : S) → IsPort net arrival → IsKept net (Some (GoesOn target packet)) → Holds state → Agree Holds (sent net ps o arrival target packet state) (sent net qs p arrival target packet state)
      sent_agree arrival (OnePort port) packet state at kept holds = by (is_same_port net ps o arrival port packet)
        where
          by : (b : Bool) → Agree Holds (cond b (ends {N = N} (Drop (datapath_at net arrival) cause.SamePort ∷ []) state) (leaves net ps o arrival packet state port)) (cond b (ends {N = M} (Drop (datapath_at net arrival) cause.SamePort ∷ []) state) (leaves net qs p arrival packet state port))
          by true = ends_agree (Drop (datapath_at net arrival) cause.SamePort ∷ []) state holds
          by false = leaves_agree arrival packet state port at kept.1 kept.0 holds
      sent_agree arrival (Late port) packet state at kept holds = by (is_same_port net ps o arrival port packet)
        where
          by : (b : Bool) → Agree Holds (cond b (ends {N = N} (Drop (datapath_at net arrival) cause.SamePort ∷ []) state) (leaves_late net ps o arrival packet state port)) (cond b (ends {N = M} (Drop (datapath_at net arrival) cause.SamePort ∷ []) state) (leaves_late net qs p arrival packet state port))
          by true = ends_agree (Drop (datapath_at net arrival) cause.SamePort ∷ []) state holds
          by false = late_agree arrival packet state port at kept.1 kept.0 holds
      sent_agree arrival (Ports ports) packet state at kept holds = copies_agree arrival packet state (filter (λ port. not (same port arrival)) ports) at kept.1 (others arrival ports kept.0) holds

      arrived_agree : (arrival : ObjId) → IsPort net arrival → (passed : Option Passed) (state : S) → IsKept net passed → Holds state → Agree Holds (arrived net ps o arrival passed state) (arrived net qs p arrival passed state)
      arrived_agree arrival at None state kept holds = ends_agree [] state holds
      arrived_agree arrival at (Some (GoesOn target packet)) state kept holds = sent_agree arrival target packet state at kept holds
      arrived_agree arrival at (Some (Drops why)) state kept holds = ends_agree (Drop (datapath_at net arrival) why ∷ []) state holds
      arrived_agree arrival at (Some (Makes answer by packet)) state kept holds =
          after_agree (told_of answer arrival) (told_of answer arrival) _ _ (same_told N M answer arrival) (made_agree answer o p arrival by packet state onward at kept.0 kept.1 holds)

      enters_agree : (arrival : ObjId) (packet : Values) (state : S) → IsPort net arrival → IsPacket packet → Holds state → Agree Holds (enters net ps o arrival packet state) (enters net qs p arrival packet state)
      enters_agree arrival packet state at formed holds =
          let from = packets.starts arrival packet at formed in
          then_agree _ _ (arrived net ps o arrival) (arrived net qs p arrival) (same_parts.arriving arrival (start packet arrival.0) state at from.0 from.1.0 from.1.1 holds) (arrived_agree arrival at)

    -- so packets go on alike, however many hops are left
    onward_alike : (hops : ℕ) → OnwardAlike (hops_left net ps hops) (hops_left net qs hops)
    onward_alike zero = tt
    onward_alike (suc hops) = record {
      enters = enters_agree (hops_left net ps hops) (hops_left net qs hops) (onward_alike hops);
      leaves = leaves_agree (hops_left net ps hops) (hops_left net qs hops) (onward_alike hops);
      leaves_late = late_agree (hops_left net ps hops) (hops_left net qs hops) (onward_alike hops);
    }

    -- and walks agree
    pub walks_agree : (hops : ℕ) (arrival : ObjId) (packet : Values) (state : S) → IsPort net arrival → IsPacket packet → Holds state → Agree Holds (walk net ps hops arrival packet state) (walk net qs hops arrival packet state)
    walks_agree hops = enters_agree (hops_left net ps hops) (hops_left net qs hops) (onward_alike hops)
