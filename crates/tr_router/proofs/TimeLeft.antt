-- Each packet that comes to routing has two hops or more to live.
use Rattle.std.proofs.Common.{◌≡◌, ℕ, zero, suc, ◌≤◌, Bool, true, false, cond, eqb, nat_lt, sym, ap, refl, subst, ◌∙◌}
use Rattle.std.specs.Prelude.{Option, Some, None}
use Rattle.std.specs.List.{Contains}
use Rattle.std.proofs.lemmas.Bool.{false≢true, ltb-false}
use Rattle.nv_base.specs.Ip4.{address}
use Rattle.nv_base.specs.declared.field.Field.TheVariants.{Inport, Outport, EthDst, EthType, IpTtl, Ip4Src, Ip4Dst, Reg0, Reg6}
use Rattle.nv_base.specs.declared.ip4.Ip4.{Ip4}
use Rattle.nv_base.specs.declared.object.ObjId.{ObjId}
use Rattle.pkt_core.specs.Packet.{Values, IsPacket, value}
use Rattle.pkt_core.specs.Prerequisite.{is_ip4}
use Rattle.ct_core.specs.State.{State}
use Rattle.nb_records.specs.declared.router.Router.{Router}
use Rattle.nb_records.specs.declared.router.RouterPort.{RouterPort}
use Rattle.nb_model.specs.Network.{Network}
use Rattle.nb_model.specs.Sound.{IsSound}
use Rattle.sb_model.specs.declared.stage.Stage.{Stage}
use Rattle.sb_model.specs.declared.stage.Stage.TheVariants.{LrInAdmission, LrInLearnNeighbor, LrInIpInput, LrInUnsnat, LrInDefrag, LrInDnat, LrInIpRouting, LrInArpResolve, LrInArpRequest}
use Rattle.net_meaning.specs.Walk.{Passed}
use Rattle.net_meaning.specs.Walk.Passed.{GoesOn, Drops, Makes}
use Rattle.net_meaning.specs.Walk.Target.{OnePort, Ports, Late}
use Rattle.net_meaning.specs.declared.answer.Answer.TheVariants as answer
use Rattle.net_meaning.specs.declared.cause.Cause.TheVariants.{Admission}
use Rattle.net_router.specs.Input.{is_admitted, taken_in}
use Rattle.net_router.specs.Routing.{Hop, hop_for}
use Rattle.net_router.specs.Translation.{Changed, dnatted, unsnatted}
use Rattle.net_router.specs.Translation.Changed.{Onward, Stopped}
use Rattle.tr_stage.specs.Machine.{Flows}
use Rattle.tr_stage.specs.declared.outcome.Outcome.{Outcome}
use Rattle.tr_stage.specs.declared.outcome.Outcome.TheVariants as outcomes
use Rattle.tr_pipe.specs.Machine.{StageEnd, run_from, step}
use Rattle.tr_pipe.specs.Machine.StageEnd.{On, Ends}
use Rattle.tr_pipe.specs.Tracking.{Flight, coming, with_packet}
use Rattle.ls_laws.proofs.Packets.{fits_with, set_value}
use Rattle.lr_laws.specs.Steps.{IsOnRouter, IsPortOf, admitted, asked, asking, flows_at, going_back, resolved, sent_by, taken, taken_or_passed}
use Rattle.lr_laws.proofs.Admission.{admits}
use Rattle.lr_laws.proofs.Learning.{learns}
use Rattle.lr_laws.proofs.Requests.{asks}
use Rattle.lr_laws.proofs.Resolution.{resolves}
use Rattle.lr_laws.proofs.RoutedPackets.{routes}
use Rattle.lr_laws.proofs.TakenIn.{takes_in}
use Rattle.lr_nat_laws.specs.Steps.{redirected_by}
use Rattle.lr_nat_laws.proofs.Defragging.{defrags}
use Rattle.lr_nat_laws.proofs.Redirecting.{redirects_new}
use Rattle.lr_nat_laws.proofs.Unsnatting.{unsnats}
use Rattle.tr_router.specs.Parts.{HasTimeLeft, IsState, IsUnseen, after_steps}
use Rattle.tr_router.proofs.Alike.{StandsFor, leaving_as, same_ip4}
use Rattle.tr_router.proofs.Comes.{Comes}
use Rattle.tr_router.proofs.Hops.{IsHop, hop_is}
use Rattle.tr_router.proofs.Ingress as ingress
use Rattle.tr_router.proofs.Macs.{mac_for_fits}
use Rattle.tr_router.proofs.Networks.{on_router, router_there}
use Rattle.tr_router.proofs.Routed as routed
use Rattle.tr_router.proofs.Taken.{TakenAs, passed_on_is, taken_as}

abbrev is_routing : Stage → Bool
is_routing LrInIpRouting = true
is_routing _ = false

-- the stage at which a packet is
abbrev at_routing : StageEnd → Bool
at_routing (On stage flight) = is_routing stage
at_routing (Ends outcome state) = false

module _ (flows : Flows) where
  -- a packet that comes to routing from here on has time left
  abbrev IsLeft : StageEnd → Type 0
  IsLeft end = (count : ℕ) (flight : Flight) → after_steps flows count end ≡ On LrInIpRouting flight → 2 ≤ value flight.packet IpTtl

  -- none comes there after the end of its run
  over : (outcome : Option Outcome) (state : State) → IsLeft (Ends outcome state)
  over outcome state zero flight is = absurd (false≢true (ap at_routing is))
  over outcome state (suc count) flight is = absurd (false≢true (ap at_routing is))

  -- from another stage it comes there by a step
  further : (stage : Stage) (flight : Flight) (end : StageEnd) → is_routing stage ≡ false → step flows stage flight ≡ end → IsLeft end → IsLeft (On stage flight)
  further stage flight end other is rest zero there comes = absurd (false≢true (sym other ∙ ap at_routing comes))
  further stage flight end other is rest (suc count) there comes = rest count there (sym (ap (after_steps flows count) is) ∙ comes)

  -- and from routing, with time left, it does not come back
  routing : (flight : Flight) (end : StageEnd) → 2 ≤ value flight.packet IpTtl → step flows LrInIpRouting flight ≡ end → IsLeft end → IsLeft (On LrInIpRouting flight)
  routing flight end has is rest zero there comes = let same : flight ≡ there = cc in subst (λ (f : Flight). 2 ≤ value f.packet IpTtl) same has
  routing flight end has is rest (suc count) there comes = rest count there (sym (ap (after_steps flows count) is) ∙ comes)

  -- what is not passed on comes to an end
  taken_left : (passed : Passed) (state : State) → IsLeft (taken passed state)
  taken_left (Drops cause) state = over (Some (outcomes.Drop cause)) state
  taken_left (GoesOn (OnePort port) packet) state = over (Some (outcomes.Leave packet 0)) state
  taken_left (GoesOn (Late port) packet) state = over _ state
  taken_left (GoesOn (Ports ports) packet) state = over None state
  taken_left (Makes why port packet) state = over _ state

module _ (net : Network) (sound : IsSound net) (router : Router) (among : Contains net.routers router) (port : RouterPort) (its : IsPortOf net router port) (packet : Values) (state : State) (formed : IsPacket packet)
    (unseen : IsUnseen packet) (are : IsState state) (came : value packet Inport ≡ port.id.0) where
  abbrev flows : Flows
  flows = flows_at net router.id

  abbrev Left : StageEnd → Type 0
  Left = IsLeft flows

  on : (k : Values) → IsPacket k → IsOnRouter net router k
  on k is = on_router net sound router among k is

  -- the packet that is admitted, and the state after what it tells of a neighbour
  abbrev own : Values
  own = ingress.own net sound router among port its packet state formed unseen are came

  own_is : IsPacket own
  own_is = ingress.own_is net sound router among port its packet state formed unseen are came

  came_own : value own Inport ≡ port.id.0
  came_own = ingress.came_own net sound router among port its packet state formed unseen are came

  stands : StandsFor (value own Outport) own packet
  stands = ingress.stands net sound router among port its packet state formed unseen are came

  back : StandsFor port.id.0 (going_back port own) packet
  back = ingress.back net sound router among port its packet state formed unseen are came

  abbrev later : State
  later = ingress.later net sound router among port its packet state formed unseen are came

  are_later : IsState later
  are_later = ingress.are_later net sound router among port its packet state formed unseen are came

  abbrev flight : State → Flight
  flight after = record { packet = own; look = None; state = after }

  -- ---- routing, and what follows

  module _ (at : Flight) (is : IsPacket at.packet) (are_there : IsState at.state) (came_at : value at.packet Inport ≡ port.id.0) (it : Values) (stands_there : StandsFor (value at.packet Outport) at.packet it) where
    module _ (hop : Hop) (of : IsHop net router.id hop) where
      abbrev sent : Values
      sent = routed.sent net sound router among port its at is are_there came_at it stands_there hop of

      sent_is : IsPacket sent
      sent_is = routed.sent_is net sound router among port its at is are_there came_at it stands_there hop of

      abbrev sent_flight : Flight
      sent_flight = with_packet at sent

      asked_left : (known : Flight) → Left (asked known)
      asked_left known = by (eqb (value known.packet EthDst) 0)
        where
          by : (b : Bool) → Left (cond b (Ends (Some (outcomes.Made (asking known.packet) 0 answer.Arp)) known.state) (Ends (Some (outcomes.Leave known.packet 0)) known.state))
          by true = over flows _ known.state
          by false = over flows _ known.state

      resolved_left : Left (On LrInArpResolve sent_flight)
      resolved_left =
          further flows LrInArpResolve sent_flight (On LrInArpRequest known) refl
          (resolves net router sent_flight (on sent sent_is) hop.port (of.port, of.of_router) (routed.sent_at net sound router among port its at is are_there came_at it stands_there hop of Outport))
          (further flows LrInArpRequest known (asked known) refl (asks net router known (on known.packet (fits_with sent EthDst _ sent_is (mac_for_fits net sound at.state are_there hop.port (address (value sent Reg0)))))) (asked_left known))
        where
          known : Flight
          known = resolved net hop.port sent_flight

    routed_left : is_ip4 at.packet ≡ true → 2 ≤ value at.packet IpTtl → Left (On LrInIpRouting at)
    routed_left ip4 has = routing flows at (sent_by (hop_for net router.id src dst) at) has (routes net router at (on at.packet is) ip4) (by (hop_for net router.id src dst) refl)
      where
        src : Ip4
        src = address (value at.packet Ip4Src)

        dst : Ip4
        dst = address (value at.packet Ip4Dst)

        by : (found : Option Hop) → hop_for net router.id src dst ≡ found → Left (sent_by found at)
        by None none = over flows _ at.state
        by (Some hop) found = resolved_left hop (hop_is net sound router.id src dst (is.fits Ip4Dst) hop found)

  -- ---- the stages that change addresses

  module _ (ip4 : is_ip4 own ≡ true) (has : 2 ≤ value own IpTtl) where
    abbrev first : Flight
    first = ingress.first net sound router among port its packet state formed unseen are came ip4

    abbrev second : Flight
    second = ingress.second net sound router among port its packet state formed unseen are came ip4

    come_left : (of_rows : StageEnd) (of_router : Changed) → Comes own LrInIpRouting later of_rows of_router → Left of_rows
    come_left of_rows (Onward p after) at =
        let reached = at.2 in
        subst Left (sym at.1)
        (routed_left at.0 reached.formed reached.are (reached.lasting Inport refl ∙ came_own) p (leaving_as (value own Outport) at.0.packet p reached.stands)
        (ap (λ n. eqb n 0x800) (reached.lasting EthType refl) ∙ ip4) (subst (λ n. 2 ≤ n) (sym (reached.lasting IpTtl refl)) has))
    come_left of_rows (Stopped cause) is = subst Left (sym is) (over flows (Some (outcomes.Drop cause)) later)

    changed_left : Left (On LrInUnsnat (flight later))
    changed_left =
        further flows LrInUnsnat (flight later) (On LrInDefrag first) refl (unsnats net router (flight later) (on own own_is) ip4)
        (further flows LrInDefrag first (On LrInDnat second) refl (defrags net router first (on first.packet (ingress.first_is net sound router among port its packet state formed unseen are came ip4)))
        (further flows LrInDnat second (redirected_by net router.id second second.look) refl
        (redirects_new net router second (on second.packet (ingress.second_is net sound router among port its packet state formed unseen are came ip4))
        (ingress.second_ip4 net sound router among port its packet state formed unseen are came ip4) (ingress.second_flagged net sound router among port its packet state formed unseen are came ip4))
        (come_left (redirected_by net router.id second second.look) (dnatted net router.id (unsnatted net router.id later.conns packet) later) (ingress.comes net sound router among port its packet state formed unseen are came ip4))))

  -- ---- from the first stage on

  passed_left : taken_in net port packet ≡ None → Left (On LrInUnsnat (flight later))
  passed_left none =
      let passed = passed_on_is net port later (run_from flows 125) (going_back port own) packet back none in
      changed_left (same_ip4 (value own Outport) own packet stands ∙ passed.0) (subst (λ n. 2 ≤ n) (sym (stands.same IpTtl refl)) (ltb-false (value packet IpTtl) 2 passed.1))

  input_left : Left (On LrInIpInput (flight later))
  input_left =
      further flows LrInIpInput (flight later) (taken_or_passed (taken_in net port (going_back port own)) (flight later)) refl
      (takes_in net router (flight later) (on own own_is) port its came_own (set_value packet Reg6 port.mac formed.count))
      (by (taken_in net port (going_back port own)) (taken_in net port packet) refl
      (taken_as net port later (run_from flows 125) (going_back port own) packet back))
    where
      by : (of_rows of_router : Option Passed) → taken_in net port packet ≡ of_router → TakenAs net port later (run_from flows 125) of_rows of_router → Left (taken_or_passed of_rows (flight later))
      by None None is both = passed_left is
      by (Some passed) of_router is both = taken_left flows passed later
      by None (Some other) is both = absurd both

  learn_left : Left (On LrInLearnNeighbor (flight state))
  learn_left =
      further flows LrInLearnNeighbor (flight state) (On LrInIpInput (flight later)) refl
      (learns net router (flight state) (on own own_is) port its came_own ∙ ap (λ after. On LrInIpInput (flight after)) (ingress.learns_same net sound router among port its packet state formed unseen are came)) input_left

  pub all_left : Left (On LrInAdmission (coming packet state))
  all_left = further flows LrInAdmission (coming packet state) (admitted port (coming packet state)) refl (admits net router (coming packet state) (on packet formed) port its came) (by (is_admitted port packet))
    where
      by : (b : Bool) → Left (cond b (On LrInLearnNeighbor (flight state)) (Ends (Some (outcomes.Drop Admission)) state))
      by true = learn_left
      by false = over flows _ state

pub has_time_left : (net : Network) → IsSound net → HasTimeLeft net
has_time_left net sound port packet state there formed unseen are came count flight comes =
    let of = router_there net sound port there in
    all_left net sound of.0 of.1 port (there, of.2) packet state formed unseen are came count flight
    (subst (λ (d : ObjId). after_steps (flows_at net d) count (On LrInAdmission (coming packet state)) ≡ On LrInIpRouting flight) of.2 comes)
