-- The ingress of a router does what the router does with a packet that arrives.
use Rattle.std.proofs.Common.{◌≡◌, ℕ, eqb, Bool, true, false, cond, [], ◌∷◌, sym, ap, refl, subst, ◌∙◌}
use Rattle.std.proofs.lemmas.Bool.{false≢true}
use Rattle.std.specs.Prelude.{Option, Some, None}
use Rattle.std.specs.List.{Contains}
use Rattle.nv_base.specs.declared.field.Field.{Field}
use Rattle.nv_base.specs.declared.field.Field.TheVariants.{Inport, Outport, EthType, ArpSpa, ArpSha, Reg6, CtState}
use Rattle.nv_base.specs.declared.object.ObjId.{ObjId}
use Rattle.pkt_core.specs.Packet.{Values, IsPacket, value, with_value}
use Rattle.pkt_core.specs.Prerequisite.{is_ip4}
use Rattle.ct_core.specs.State.{State}
use Rattle.nb_records.specs.declared.router.Router.{Router}
use Rattle.nb_records.specs.declared.router.RouterPort.{RouterPort}
use Rattle.nb_model.specs.Network.{Network}
use Rattle.nb_model.specs.Sound.{IsSound}
use Rattle.sb_model.specs.Stage.{all_stages, stage_at}
use Rattle.sb_model.specs.declared.stage.Pipeline.TheVariants.{Ingress}
use Rattle.sb_model.specs.declared.stage.Stage.TheVariants.{LrInAdmission, LrInLearnNeighbor, LrInIpInput, LrInUnsnat, LrInDefrag, LrInDnat, LrInIpRouting}
use Rattle.net_meaning.specs.Switches.{Did}
use Rattle.net_meaning.specs.Walk.{Passed}
use Rattle.net_meaning.specs.Walk.Passed.{Drops}
use Rattle.net_meaning.specs.declared.cause.Cause.TheVariants.{Admission}
use Rattle.net_router.specs.Input.{after_learning, is_admitted, taken_in}
use Rattle.net_router.specs.Routers.{arriving_at, did, redirected_on, routed, taken_by, then_on, unless_taken}
use Rattle.net_router.specs.Translation.{Changed, dnatted, unsnatted}
use Rattle.net_router.specs.Translation.Changed.{Onward, Stopped}
use Rattle.tr_stage.specs.Machine.{Flows}
use Rattle.tr_stage.specs.declared.outcome.Outcome.TheVariants as outcomes
use Rattle.tr_pipe.specs.Machine.{PipelineRun, StageEnd, go_on, run_from, run_pipeline}
use Rattle.tr_pipe.specs.Machine.StageEnd.{On, Ends}
use Rattle.tr_pipe.specs.Tracking.{Flight, coming}
use Rattle.tr_pipe.proofs.Steps.{pipeline_begins}
use Rattle.ls_laws.proofs.Packets.{fits_with, other_value, set_value}
use Rattle.lr_laws.specs.Steps.{IsOnRouter, IsPortOf, admitted, flows_at, going_back, taken_or_passed}
use Rattle.lr_laws.proofs.Admission.{admits}
use Rattle.lr_laws.proofs.Changes.{number_after}
use Rattle.lr_laws.proofs.Learning.{learns}
use Rattle.lr_laws.proofs.TakenIn.{takes_in}
use Rattle.lr_nat_laws.specs.Steps.{IsFlagged, redirected_by}
use Rattle.lr_nat_laws.proofs.Defragging.{defrags}
use Rattle.lr_nat_laws.proofs.Redirecting.{redirects_new}
use Rattle.lr_nat_laws.proofs.Unsnatting.{unsnats}
use Rattle.tr_router.specs.Parts.{Arrives, DoArrive, DoesPart, IsState, IsUnseen}
use Rattle.tr_router.proofs.Alike.{StandsFor, both_given, goes_on as goes_along, leaving_as, same_ip4}
use Rattle.tr_router.proofs.Arriving as arriving
use Rattle.tr_router.proofs.Comes.{Comes}
use Rattle.tr_router.proofs.Formed.{learning_state}
use Rattle.tr_router.proofs.Networks.{mac_fits, number_fits, of_router, on_router, router_there}
use Rattle.tr_router.proofs.Routed.{routed_is}
use Rattle.tr_router.proofs.Runs.{after_step}
use Rattle.tr_router.proofs.Taken.{TakenAs, passed_on_is, taken_as}

module _ (net : Network) (sound : IsSound net) (router : Router) (among : Contains net.routers router) (port : RouterPort) (its : IsPortOf net router port) (packet : Values) (state : State) (formed : IsPacket packet)
    (unseen : IsUnseen packet) (are : IsState state) (came : value packet Inport ≡ port.id.0) where
  abbrev flows : Flows
  flows = flows_at net router.id

  abbrev does : PipelineRun → Did → Type 0
  does = DoesPart Arrives

  on : (k : Values) → IsPacket k → IsOnRouter net router k
  on k is = on_router net sound router among k is

  -- ---- the packet that is admitted

  abbrev pub own : Values
  own = with_value packet Reg6 port.mac

  pub own_is : IsPacket own
  own_is = fits_with packet Reg6 port.mac formed (mac_fits net sound port its.0)

  -- but for working fields it is the packet that arrived
  itself : StandsFor (value packet Outport) packet packet
  itself = record { long_own = formed.count; long = formed.count; same = λ field going. refl; leaves = refl }

  pub stands : StandsFor (value own Outport) own packet
  stands = both_given (value packet Outport) packet packet itself ((Reg6, port.mac) ∷ []) [] by (value own Outport) (sym (other_value packet Reg6 Outport port.mac refl))
    where
      by : (field : Field) → goes_along field ≡ true → (old : ℕ) → number_after ((Reg6, port.mac) ∷ []) field old ≡ number_after [] field old
      by Reg6 going old = absurd (false≢true going)
      by _ going old = refl

  -- and so it is where it is to go back by the port
  pub back : StandsFor port.id.0 (going_back port own) packet
  back = both_given (value packet Outport) packet packet itself ((Reg6, port.mac) ∷ (Outport, port.id.0) ∷ []) [] by port.id.0 refl
    where
      by : (field : Field) → goes_along field ≡ true → (old : ℕ) → number_after ((Reg6, port.mac) ∷ (Outport, port.id.0) ∷ []) field old ≡ number_after [] field old
      by Reg6 going old = absurd (false≢true going)
      by Outport going old = absurd (false≢true going)
      by _ going old = refl

  same_ip : is_ip4 own ≡ is_ip4 packet
  same_ip = same_ip4 (value own Outport) own packet stands

  pub came_own : value own Inport ≡ port.id.0
  came_own = other_value packet Reg6 Inport port.mac refl ∙ came

  -- ---- what it tells of a neighbour

  abbrev pub later : State
  later = after_learning port packet state

  pub learns_same : after_learning port own state ≡ later
  learns_same = rw (stands.same EthType refl, stands.same ArpSpa refl, stands.same ArpSha refl) refl

  -- ---- the stages

  abbrev flight : State → Flight
  flight after = record { packet = own; look = None; state = after }

  pub unseen_own : IsUnseen own
  unseen_own = other_value packet Reg6 CtState port.mac refl ∙ unseen

  pub are_later : IsState later
  are_later = learning_state port packet state (number_fits net sound port its.0) formed are

  -- the packet that comes to the stages which change addresses, where it is one of IPv4
  module _ (ip4 : is_ip4 own ≡ true) where
    abbrev pub first : Flight
    first = arriving.first net sound router among own packet later own_is unseen_own are_later ip4 stands

    pub first_is : IsPacket first.packet
    first_is = arriving.back_is net sound router among own packet later own_is unseen_own are_later ip4 stands

    abbrev pub second : Flight
    second = arriving.second net sound router among own packet later own_is unseen_own are_later ip4 stands

    pub second_is : IsPacket second.packet
    second_is = arriving.second_is net sound router among own packet later own_is unseen_own are_later ip4 stands

    pub second_ip4 : is_ip4 second.packet ≡ true
    second_ip4 = arriving.second_ip4 net sound router among own packet later own_is unseen_own are_later ip4 stands

    pub second_flagged : IsFlagged second
    second_flagged = arriving.second_flagged net sound router among own packet later own_is unseen_own are_later ip4 stands

    pub comes : Comes own LrInIpRouting later (redirected_by net router.id second second.look) (dnatted net router.id (unsnatted net router.id later.conns packet) later)
    comes = arriving.arriving_comes net sound router among own packet later own_is unseen_own are_later ip4 stands

    -- by these stages it comes to routing as the router has it
    on_router_is : does (run_from flows 125 LrInUnsnat (flight later)) (then_on (dnatted net router.id (unsnatted net router.id later.conns packet) later) later (routed net port))
    on_router_is =
        let end = then_on (dnatted net router.id (unsnatted net router.id later.conns packet) later) later (routed net port) in
        after_step Arrives flows end 124 LrInUnsnat (flight later) (On LrInDefrag first) (unsnats net router (flight later) (on own own_is) ip4)
        (after_step Arrives flows end 123 LrInDefrag first (On LrInDnat second) (defrags net router first (on first.packet first_is))
        (after_step Arrives flows end 122 LrInDnat second (redirected_by net router.id second second.look) (redirects_new net router second (on second.packet second_is) second_ip4 second_flagged)
        (by (redirected_by net router.id second second.look) (dnatted net router.id (unsnatted net router.id later.conns packet) later) comes)))
      where
        by : (of_rows : StageEnd) (of_router : Changed) → Comes own LrInIpRouting later of_rows of_router → does (go_on (run_from flows 122) of_rows) (then_on of_router later (routed net port))
        by of_rows (Onward p after) at =
            let reached = at.2 in
            subst (λ (e : StageEnd). does (go_on (run_from flows 122) e) (routed net port p after)) (sym at.1)
            (subst (λ (s : State). does (run_from flows 122 LrInIpRouting at.0) (routed net port p s)) reached.state_is
            (routed_is net sound router among port its at.0 reached.formed reached.are (reached.lasting Inport refl ∙ came_own) p
            (leaving_as (value own Outport) at.0.packet p reached.stands) (ap (λ n. eqb n 0x800) (reached.lasting EthType refl) ∙ ip4)))
        by of_rows (Stopped cause) is = subst (λ (e : StageEnd). does (go_on (run_from flows 122) e) (did (Drops cause) later)) (sym is) (record { passes = refl; leaves = refl })

  on_its_way : taken_in net port packet ≡ None → does (run_from flows 125 LrInUnsnat (flight later)) (redirected_on net port (unsnatted net port.router later.conns packet) later)
  on_its_way none =
      let passed = passed_on_is net port later (run_from flows 125) (going_back port own) packet back none in
      subst (λ (d : ObjId). does (run_from flows 125 LrInUnsnat (flight later)) (then_on (dnatted net d (unsnatted net d later.conns packet) later) later (routed net port))) (sym its.1)
      (on_router_is (same_ip ∙ passed.0))

  input_is : does (run_from flows 126 LrInIpInput (flight later)) (taken_by net port packet later)
  input_is =
      after_step Arrives flows (taken_by net port packet later) 125 LrInIpInput (flight later) (taken_or_passed (taken_in net port (going_back port own)) (flight later))
      (takes_in net router (flight later) (on own own_is) port its came_own (set_value packet Reg6 port.mac formed.count))
      (by (taken_in net port (going_back port own)) (taken_in net port packet) refl (taken_as net port later (run_from flows 125) (going_back port own) packet back))
    where
      by : (of_rows of_router : Option Passed) → taken_in net port packet ≡ of_router → TakenAs net port later (run_from flows 125) of_rows of_router
          → does (go_on (run_from flows 125) (taken_or_passed of_rows (flight later))) (unless_taken net port of_router packet later)
      by None None is both = on_its_way is
      by (Some passed) (Some other) is both = both
      by None (Some other) is both = absurd both
      by (Some passed) None is both = absurd both

  learn_is : does (run_from flows 127 LrInLearnNeighbor (flight state)) (taken_by net port packet later)
  learn_is =
      after_step Arrives flows (taken_by net port packet later) 126 LrInLearnNeighbor (flight state) (On LrInIpInput (flight (after_learning port own state))) (learns net router (flight state) (on own own_is) port its came_own)
      (subst (λ after. does (run_from flows 126 LrInIpInput (flight after)) (taken_by net port packet later)) (sym learns_same) input_is)

  begins : run_pipeline flows Ingress 0 packet state ≡ run_from flows 128 LrInAdmission (coming packet state)
  unfolding stage_at all_stages
  begins = pipeline_begins flows Ingress 0 packet state LrInAdmission (ap (λ kind. stage_at kind Ingress 0) (of_router net sound router among))

  pub ingress_is : does (run_pipeline flows Ingress 0 packet state) (arriving_at net port packet state)
  ingress_is =
      subst (λ run. does run (arriving_at net port packet state)) (sym begins)
      (after_step Arrives flows (arriving_at net port packet state) 127 LrInAdmission (coming packet state) (admitted port (coming packet state)) (admits net router (coming packet state) (on packet formed) port its came)
      (by (is_admitted port packet)))
    where
      by : (b : Bool) → does (go_on (run_from flows 127) (cond b (On LrInLearnNeighbor (flight state)) (Ends (Some (outcomes.Drop Admission)) state))) (cond b (taken_by net port packet later) (did (Drops Admission) state))
      by true = learn_is
      by false = record { passes = refl; leaves = refl }

module _ (net : Network) (sound : IsSound net) where
  pub do_arrive : DoArrive net
  do_arrive port packet state there formed unseen are came =
      let of = router_there net sound port there in
      subst (λ (d : ObjId). DoesPart Arrives (run_pipeline (flows_at net d) Ingress 0 packet state) (arriving_at net port packet state)) (sym of.2)
      (ingress_is net sound of.0 of.1 port (there, of.2) packet state formed unseen are came)
