-- What becomes of the addresses of a packet that leaves a router: by its stages, as the router has it.
use Rattle.std.proofs.Common.{◌≡◌, ℕ, ◌<◌, ◌^◌, eqb, Bool, true, false, cond, not, ◌&&◌, sym, ap, refl, subst, ◌∙◌}
use Rattle.std.specs.Prelude.{Option, Some, None}
use Rattle.std.specs.List.{Contains}
use Rattle.nv_base.specs.declared.field.Field.TheVariants.{Outport, EthType, CtState}
use Rattle.pkt_core.specs.Packet.{Values, IsPacket, value}
use Rattle.pkt_core.specs.Prerequisite.{is_ip4}
use Rattle.ct_core.specs.declared.look.Look.{Look}
use Rattle.ct_core.specs.declared.look.Look.TheVariants.{Invalid, New, Found}
use Rattle.ct_core.specs.declared.look.Side.TheVariants.{Orig, Reply}
use Rattle.ct_core.specs.declared.zone.Zone.TheVariants.{Dnat}
use Rattle.ct_core.specs.Look.{look}
use Rattle.ct_core.specs.State.{State}
use Rattle.ct_core.specs.Translation.{back, is_reply}
use Rattle.nb_records.specs.declared.router.Nat.{Nat}
use Rattle.nb_records.specs.declared.router.Router.{Router}
use Rattle.nb_model.specs.Network.{Network}
use Rattle.nb_model.specs.Sound.{IsSound}
use Rattle.nb_router.specs.Vocabulary.{dnats}
use Rattle.sb_model.specs.declared.stage.Stage.TheVariants.{LrOutDelivery}
use Rattle.net_router.specs.Translation.{Changed, changed_out, hidden_by, snatted, source_rule}
use Rattle.net_router.specs.Translation.Changed.{Onward}
use Rattle.tr_pipe.specs.Machine.{StageEnd}
use Rattle.tr_pipe.specs.Machine.StageEnd.{On}
use Rattle.tr_pipe.specs.Tracking.{Flight, coming, marked_by}
use Rattle.tr_pipe.specs.Translating.{changed_by, tracked_by}
use Rattle.lr_nat_laws.specs.Steps.{IsFlagged, changed_to, is_answer}
use Rattle.tr_router.specs.Parts.{IsState, IsUnseen}
use Rattle.tr_router.proofs.Alike.{StandsFor}
use Rattle.tr_router.proofs.Changed.{BothChange, both_hidden, hidden_left, same_source_rule, source_rule_is}
use Rattle.tr_router.proofs.Comes.{Comes, IsReached, Lasting, changed_comes, lasting_on, marked_lasts, rest_lasts}
use Rattle.tr_router.proofs.Networks.{router_number_fits}
use Rattle.tr_router.proofs.Translated.{both_marked, marked_flags, marked_is, of_back}

module _ (net : Network) (sound : IsSound net) (router : Router) (among : Contains net.routers router) (packet : Values) (state : State) (formed : IsPacket packet) (unseen : IsUnseen packet) (are : IsState state) where
  numbered : router.id.0 < 2 ^ 32
  numbered = router_number_fits net sound router among

  itself : StandsFor (value packet Outport) packet packet
  itself = record { long_own = formed.count; long = formed.count; same = λ field going. refl; leaves = refl }

  abbrev first : Flight
  first = coming packet state

  abbrev pub second : Flight
  second = cond (dnats net router.id) (tracked_by back (Dnat router.id) first) first

  abbrev by_found : Look → Flight
  by_found found = changed_by back found first

  abbrev found_here : Look
  found_here = look state.conns (Dnat router.id) packet

  module _ (found : Look) where
    abbrev marked : Values
    marked = marked_by found packet

    marked_formed : IsPacket marked
    marked_formed = marked_is found packet formed

    found_formed : IsPacket (by_found found).packet
    found_formed = of_back.formed state.conns marked found are.conns marked_formed

    found_lasts : Lasting packet (by_found found).packet
    found_lasts =
        lasting_on packet marked (by_found found).packet (marked_lasts found packet formed)
        (rest_lasts marked (by_found found).packet (λ field kept. of_back.leaves state.conns marked found field marked_formed.count kept))

    found_flagged : IsFlagged (by_found found)
    found_flagged = of_back.leaves state.conns marked found CtState marked_formed.count refl ∙ marked_flags found packet formed.count

    marked_stands : StandsFor (value packet Outport) marked packet
    marked_stands = both_marked (value packet Outport) packet packet itself found

    goes_back : IsReached packet (value packet Outport) (by_found found) (back state.conns packet found) state
    goes_back = record {
      stands = of_back.both state.conns (value packet Outport) marked packet found marked_stands;
      formed = found_formed;
      are = are;
      state_is = refl;
      lasting = found_lasts;
    }

  -- ---- a packet of the second stage

  abbrev IsGood : Flight → Type 0
  IsGood flight = IsPacket flight.packet × IsFlagged flight

  second_good : IsGood second
  second_good = by (dnats net router.id) (is_ip4 packet)
    where
      by : (b ip4 : Bool) → IsGood (cond b (cond ip4 (by_found found_here) first) first)
      by true true = (found_formed found_here, found_flagged found_here)
      by true false = (formed, unseen)
      by false ip4 = (formed, unseen)

  pub second_is : IsPacket second.packet
  second_is = second_good.0

  pub second_flagged : IsFlagged second
  second_flagged = second_good.1

  -- ---- what comes to delivery

  abbrev To : StageEnd → Changed → Type 0
  To end changed = Comes packet LrOutDelivery state end changed

  -- the source of a packet of the rows may change, which stands for the router's
  hidden_comes : (flight : Flight) → flight.state ≡ state → Lasting packet flight.packet → IsPacket flight.packet → StandsFor (value packet Outport) flight.packet packet
      → To (changed_to LrOutDelivery flight (hidden_by router.id (source_rule net router.id flight.packet) flight.packet state)) (hidden_by router.id (source_rule net router.id packet) packet state)
  hidden_comes flight same_state lasting own_is it =
      changed_comes packet LrOutDelivery state flight flight.packet packet same_state lasting (hidden_by router.id (source_rule net router.id flight.packet) flight.packet state)
      (hidden_by router.id (source_rule net router.id packet) packet state)
      (subst (λ (rule : Option Nat). BothChange (value packet Outport) (hidden_by router.id rule flight.packet state) (hidden_by router.id (source_rule net router.id packet) packet state)) (sym (same_source_rule (value packet Outport) flight.packet packet it net router.id))
      (both_hidden (value packet Outport) flight.packet packet it router.id (source_rule net router.id packet) state))
      (hidden_left net sound router.id numbered flight.packet state own_is are (source_rule net router.id flight.packet) (source_rule_is net sound router.id flight.packet own_is))

  -- where its connection was looked up, as it is: a reply comes back, and a rule may change the source of any other
  abbrev pub end_of : Flight → Bool → StageEnd
  end_of flight ip4 =
      cond (ip4 && not (is_answer flight.look)) (changed_to LrOutDelivery flight (hidden_by router.id (source_rule net router.id flight.packet) flight.packet flight.state)) (On LrOutDelivery flight)

  found_comes : (found : Look) → To (end_of (by_found found) true) (cond (is_reply found) (Onward (back state.conns packet found) state) (hidden_by router.id (source_rule net router.id packet) packet state))
  found_comes Invalid = hidden_comes (by_found Invalid) refl (found_lasts Invalid) (found_formed Invalid) (marked_stands Invalid)
  found_comes New = hidden_comes (by_found New) refl (found_lasts New) (found_formed New) (marked_stands New)
  found_comes (Found at Orig related blocked) =
      let found = Found at Orig related blocked in hidden_comes (by_found found) refl (found_lasts found) (found_formed found) (marked_stands found)
  found_comes (Found at Reply related blocked) = (by_found (Found at Reply related blocked), refl, goes_back (Found at Reply related blocked))

  pub leaving_comes : To (end_of second (is_ip4 second.packet)) (changed_out net router.id packet state)
  leaving_comes = by (is_ip4 packet) refl (dnats net router.id)
    where
      as_it_is : IsReached packet (value packet Outport) first packet state
      as_it_is = record { stands = itself; formed = formed; are = are; state_is = refl; lasting = λ field lasting. refl }

      -- it is IPv4 after a look-up where it was before
      still : is_ip4 packet ≡ true → is_ip4 (by_found found_here).packet ≡ true
      still ip4 = ap (λ n. eqb n 0x800) (found_lasts found_here EthType refl) ∙ ip4

      by : (ip4 : Bool) → is_ip4 packet ≡ ip4 → (b : Bool)
          → To (end_of (cond b (cond ip4 (by_found found_here) first) first) (is_ip4 (cond b (cond ip4 (by_found found_here) first) first).packet))
          (cond ip4 (cond (b && is_reply found_here) (Onward (back state.conns packet found_here) state) (hidden_by router.id (source_rule net router.id packet) packet state)) (Onward packet state))
      by true is true =
          subst (λ c. To (end_of (by_found found_here) c) (cond (is_reply found_here) (Onward (back state.conns packet found_here) state) (hidden_by router.id (source_rule net router.id packet) packet state)))
          (sym (still is)) (found_comes found_here)
      by true is false =
          subst (λ c. To (end_of first c) (hidden_by router.id (source_rule net router.id packet) packet state)) (sym is)
          (hidden_comes first refl (λ field lasting. refl) formed itself)
      by false is true = subst (λ c. To (end_of first c) (Onward packet state)) (sym is) (first, refl, as_it_is)
      by false is false = subst (λ c. To (end_of first c) (Onward packet state)) (sym is) (first, refl, as_it_is)
