-- What becomes of the addresses of a packet that a router passes on: by its stages, as the router has it.
use Rattle.std.proofs.Common.{◌≡◌, ℕ, ◌<◌, ◌^◌, eqb, Bool, true, false, cond, sym, ap, refl, subst, ◌∙◌}
use Rattle.std.specs.Prelude.{Option, Some, None}
use Rattle.std.specs.Option.{option_map_or}
use Rattle.std.specs.List.{Contains}
use Rattle.nv_base.specs.declared.field.Field.TheVariants.{Outport, EthType, CtState}
use Rattle.pkt_core.specs.declared.tuple.Tuple.{Tuple}
use Rattle.pkt_core.specs.Packet.{Values, IsPacket, value}
use Rattle.pkt_core.specs.Prerequisite.{is_ip4}
use Rattle.ct_core.specs.declared.look.Look.{Look}
use Rattle.ct_core.specs.declared.look.Look.TheVariants.{Invalid, New, Found}
use Rattle.ct_core.specs.declared.zone.Zone.TheVariants.{Dnat}
use Rattle.ct_core.specs.Look.{flags_of, look}
use Rattle.ct_core.specs.State.{State}
use Rattle.ct_core.specs.Translation.{forth}
use Rattle.nb_records.specs.declared.router.Router.{Router}
use Rattle.nb_model.specs.Network.{Network}
use Rattle.nb_model.specs.Sound.{IsSound}
use Rattle.nb_router.specs.Vocabulary.{dnats}
use Rattle.sb_model.specs.declared.stage.Stage.TheVariants.{LrInIpRouting}
use Rattle.net_router.specs.Translation.{Changed, bound_if, dnatted, new_tuple, redirected, unsnatted}
use Rattle.net_router.specs.Translation.Changed.{Onward}
use Rattle.tr_pipe.specs.Machine.{StageEnd}
use Rattle.tr_pipe.specs.Tracking.{Flight, marked_by, seen, with_packet}
use Rattle.tr_pipe.specs.Translating.{changed_by, tracked_by}
use Rattle.lr_nat_laws.specs.Steps.{IsFlagged, changed_to, redirected_by}
use Rattle.tr_router.specs.Parts.{IsState, IsUnseen}
use Rattle.tr_router.proofs.Alike.{StandsFor}
use Rattle.tr_router.proofs.Changed.{BothChange, IsLeftOf, KeepsRest, bound_if_left, both_bound_if, both_unsnatted, new_tuple_is, same_new_tuple, unsnatted_left}
use Rattle.tr_router.proofs.Comes.{Comes, IsReached, Lasting, changed_comes, lasting_on, marked_lasts, rest_lasts}
use Rattle.tr_router.proofs.Networks.{router_number_fits}
use Rattle.tr_router.proofs.Translated.{both_marked, marked_flags, marked_is, of_forth, same_look}

module _ (net : Network) (sound : IsSound net) (router : Router) (among : Contains net.routers router) (own packet : Values) (state : State) (formed : IsPacket own) (unseen : IsUnseen own)
    (are : IsState state) (ip4 : is_ip4 own ≡ true) (it : StandsFor (value own Outport) own packet) where
  numbered : router.id.0 < 2 ^ 32
  numbered = router_number_fits net sound router among

  -- ---- a reply to an external address

  abbrev pub coming_back : Values
  coming_back = unsnatted net router.id state.conns own

  left_back : IsLeftOf own (Onward coming_back state)
  left_back = unsnatted_left net sound router.id numbered own state formed are

  pub back_is : IsPacket coming_back
  back_is = left_back.0

  back_lasts : Lasting own coming_back
  back_lasts = rest_lasts own coming_back left_back.2

  abbrev pub for_router : Values
  for_router = unsnatted net router.id state.conns packet

  back_stands : StandsFor (value own Outport) coming_back for_router
  back_stands = both_unsnatted (value own Outport) own packet it net router.id state.conns

  back_ip4 : is_ip4 coming_back ≡ true
  back_ip4 = ap (λ n. eqb n 0x800) (back_lasts EthType refl) ∙ ip4

  -- ---- a packet of a connection

  abbrev pub first : Flight
  first = record { packet = coming_back; look = None; state = state }

  abbrev pub second : Flight
  second = cond (dnats net router.id) (tracked_by forth (Dnat router.id) first) first

  -- with what was found
  abbrev by_found : Look → Flight
  by_found found = changed_by forth found first

  abbrev found_here : Look
  found_here = look state.conns (Dnat router.id) coming_back

  tracked_is : tracked_by forth (Dnat router.id) first ≡ by_found found_here
  tracked_is = ap (λ (b : Bool). cond b (by_found found_here) first) back_ip4

  module _ (found : Look) where
    abbrev marked : Values
    marked = marked_by found coming_back

    found_formed : IsPacket (by_found found).packet
    found_formed = of_forth.formed state.conns marked found are.conns (marked_is found coming_back back_is)

    found_lasts : Lasting own (by_found found).packet
    found_lasts =
        lasting_on own coming_back (by_found found).packet back_lasts
        (lasting_on coming_back marked (by_found found).packet (marked_lasts found coming_back back_is)
        (rest_lasts marked (by_found found).packet (λ field kept. of_forth.leaves state.conns marked found field (marked_is found coming_back back_is).count kept)))

    found_flagged : IsFlagged (by_found found)
    found_flagged = of_forth.leaves state.conns marked found CtState (marked_is found coming_back back_is).count refl ∙ marked_flags found coming_back back_is.count

    marked_stands : StandsFor (value own Outport) marked for_router
    marked_stands = both_marked (value own Outport) coming_back for_router back_stands found

    -- it goes on
    goes_on : IsReached own (value own Outport) (by_found found) (forth state.conns for_router found) state
    goes_on = record {
      stands = of_forth.both state.conns (value own Outport) marked for_router found marked_stands;
      formed = found_formed;
      are = are;
      state_is = refl;
      lasting = found_lasts;
    }

  -- a packet of the second stage
  abbrev IsGood : Flight → Type 0
  IsGood flight = IsPacket flight.packet × IsFlagged flight × Lasting own flight.packet

  second_good : IsGood second
  second_good = by (dnats net router.id)
    where
      unflagged : IsFlagged first
      unflagged = left_back.2 CtState refl ∙ unseen

      by : (b : Bool) → IsGood (cond b (tracked_by forth (Dnat router.id) first) first)
      by true = subst IsGood (sym tracked_is) (found_formed found_here, found_flagged found_here, found_lasts found_here)
      by false = (back_is, unflagged, back_lasts)

  pub second_is : IsPacket second.packet
  second_is = second_good.0

  pub second_flagged : IsFlagged second
  second_flagged = second_good.1

  pub second_ip4 : is_ip4 second.packet ≡ true
  second_ip4 = ap (λ n. eqb n 0x800) (second_good.2 EthType refl) ∙ ip4

  -- ---- a packet that begins one

  abbrev To : StageEnd → Changed → Type 0
  To end changed = Comes own LrInIpRouting state end changed

  new_comes : To (redirected_by net router.id (by_found New) (Some New)) (redirected net router.id for_router state New)
  new_comes =
      subst (λ (t : Option Tuple). To (changed_to LrInIpRouting (by_found New) (bound_if (Dnat router.id) t new_one state)) (bound_if (Dnat router.id) (new_tuple net router.id for_router) for_router state))
      (sym (same_new_tuple (value own Outport) new_one for_router (marked_stands New) net router.id))
      (changed_comes own LrInIpRouting state (by_found New) new_one for_router refl (found_lasts New)
      (bound_if (Dnat router.id) (new_tuple net router.id for_router) new_one state) (bound_if (Dnat router.id) (new_tuple net router.id for_router) for_router state)
      (both_bound_if (value own Outport) new_one for_router (marked_stands New) (Dnat router.id) (new_tuple net router.id for_router) state)
      (bound_if_left (Dnat router.id) numbered new_one state (found_formed New) are (new_tuple net router.id for_router)
      (λ t is. new_tuple_is net sound router.id new_one (found_formed New) t (same_new_tuple (value own Outport) new_one for_router (marked_stands New) net router.id ∙ is))))
    where
      new_one : Values
      new_one = marked_by New coming_back

  found_comes : (found : Look) → To (redirected_by net router.id (by_found found) (Some found)) (redirected net router.id for_router state found)
  found_comes New = new_comes
  found_comes Invalid = (by_found Invalid, refl, goes_on Invalid)
  found_comes (Found at side related blocked) = (by_found (Found at side related blocked), refl, goes_on (Found at side related blocked))

  -- what comes to routing is what the router routes
  pub arriving_comes : To (redirected_by net router.id second second.look) (dnatted net router.id for_router state)
  arriving_comes = by (dnats net router.id)
    where
      tracked_comes : To (redirected_by net router.id (by_found found_here) (Some found_here)) (redirected net router.id for_router state (look state.conns (Dnat router.id) for_router))
      tracked_comes =
          subst (λ (found : Look). To (redirected_by net router.id (by_found found_here) (Some found_here)) (redirected net router.id for_router state found))
          (same_look (value own Outport) coming_back for_router back_stands state.conns (Dnat router.id)) (found_comes found_here)

      by : (b : Bool)
          → To (redirected_by net router.id (cond b (tracked_by forth (Dnat router.id) first) first) (cond b (tracked_by forth (Dnat router.id) first) first).look)
          (cond b (redirected net router.id for_router state (look state.conns (Dnat router.id) for_router)) (Onward for_router state))
      by true = subst (λ (flight : Flight). To (redirected_by net router.id flight flight.look) (redirected net router.id for_router state (look state.conns (Dnat router.id) for_router))) (sym tracked_is) tracked_comes
      by false = (first, refl, record { stands = back_stands; formed = back_is; are = are; state_is = refl; lasting = back_lasts })
