-- The egress of a router does what the router does with a packet that leaves.
use Rattle.std.proofs.Common.{◌≡◌, ℕ, suc, Bool, true, false, cond, sym, ap, refl, subst, ◌∙◌}
use Rattle.std.specs.Prelude.{Some}
use Rattle.std.specs.List.{Contains}
use Rattle.nv_base.specs.declared.field.Field.TheVariants.{Outport, FlagsLoopback}
use Rattle.nv_base.specs.declared.object.ObjId.{ObjId}
use Rattle.pkt_core.specs.Packet.{Values, IsPacket, value}
use Rattle.pkt_core.specs.Prerequisite.{is_ip4}
use Rattle.ct_core.specs.State.{State}
use Rattle.nb_records.specs.declared.router.Router.{Router}
use Rattle.nb_records.specs.declared.router.RouterPort.{RouterPort}
use Rattle.nb_model.specs.Network.{Network}
use Rattle.nb_model.specs.Sound.{IsSound}
use Rattle.sb_model.specs.Stage.{all_stages, stage_at}
use Rattle.sb_model.specs.declared.stage.Pipeline.TheVariants.{Egress}
use Rattle.sb_model.specs.declared.stage.Stage.TheVariants.{LrOutUndnat, LrOutSnat, LrOutDelivery}
use Rattle.net_meaning.specs.Switches.{Did}
use Rattle.net_meaning.specs.Walk.Passed.{GoesOn, Drops}
use Rattle.net_meaning.specs.Walk.Target.{OnePort}
use Rattle.net_meaning.specs.declared.cause.Cause.TheVariants.{Delivery}
use Rattle.net_router.specs.Routers.{did, leaving_by, leaving_late, then_on}
use Rattle.net_router.specs.Translation.{Changed, changed_out}
use Rattle.net_router.specs.Translation.Changed.{Onward, Stopped}
use Rattle.tr_stage.specs.Machine.{Flows}
use Rattle.tr_stage.specs.declared.outcome.Outcome.TheVariants as outcomes
use Rattle.tr_pipe.specs.Machine.{PipelineRun, StageEnd, go_on, run_from, run_pipeline}
use Rattle.tr_pipe.specs.Machine.StageEnd.{On, Ends}
use Rattle.tr_pipe.specs.Tracking.{Flight, coming}
use Rattle.tr_pipe.proofs.Steps.{pipeline_begins}
use Rattle.lr_laws.specs.Steps.{IsOnRouter, IsPortOf, delivered, flows_at, late}
use Rattle.lr_laws.proofs.Delivery.{delivers}
use Rattle.lr_nat_laws.proofs.Defragging.{undnats}
use Rattle.lr_nat_laws.proofs.Hiding.{hides}
use Rattle.tr_router.specs.Parts.{Carries, DoLeave, DoLeaveLate, DoesPart, IsState, IsUnseen, Leaves}
use Rattle.tr_router.proofs.Alike.{both_carry}
use Rattle.tr_router.proofs.Changed.{IsLeftOf, changed_out_left}
use Rattle.tr_router.proofs.Comes.{Comes}
use Rattle.tr_router.proofs.Leaving as leaving
use Rattle.tr_router.proofs.Networks.{of_router, on_router, router_number_fits, router_there}
use Rattle.tr_router.proofs.Runs.{after_step}

module _ (net : Network) (sound : IsSound net) (router : Router) (among : Contains net.routers router) (port : RouterPort) (its : IsPortOf net router port) where
  abbrev flows : Flows
  flows = flows_at net router.id

  abbrev does : PipelineRun → Did → Type 0
  does = DoesPart Leaves

  on : (k : Values) → IsPacket k → IsOnRouter net router k
  on k is = on_router net sound router among k is

  -- the last step, of a packet that carries what the router's does
  module _ (flight : Flight) (packet : Values) (formed : IsPacket flight.packet) (carries : Carries port.id flight.packet packet) where
    pub delivered_is : (budget : ℕ) → does (run_from flows (suc budget) LrOutDelivery flight) (leaving_late port packet flight.state)
    delivered_is budget =
        after_step Leaves flows (leaving_late port packet flight.state) budget LrOutDelivery flight (delivered port flight)
        (delivers net router flight (on flight.packet formed) port its carries.by_port) (by port.enabled)
      where
        by : (b : Bool)
            → does (go_on (run_from flows budget) (cond b (Ends (Some (outcomes.Deliver flight.packet)) flight.state) (Ends (Some (outcomes.Drop Delivery)) flight.state)))
            (did (cond b (GoesOn (OnePort port.id) packet) (Drops Delivery)) flight.state)
        by true = record { passes = (flight.packet, refl, carries); leaves = refl }
        by false = record { passes = refl; leaves = refl }

  module _ (packet : Values) (state : State) (formed : IsPacket packet) (to : value packet Outport ≡ port.id.0) where
    abbrev flight : Flight
    flight = coming packet state

    begins_late : run_pipeline flows Egress late packet state ≡ run_from flows 128 LrOutDelivery flight
    unfolding stage_at all_stages
    begins_late = pipeline_begins flows Egress late packet state LrOutDelivery (ap (λ kind. stage_at kind Egress late) (of_router net sound router among))

    pub late_is : does (run_pipeline flows Egress late packet state) (leaving_late port packet state)
    late_is = subst (λ run. does run (leaving_late port packet state)) (sym begins_late) (delivered_is flight packet formed (record { by_port = to; alike = refl }) 127)

    begins : run_pipeline flows Egress 0 packet state ≡ run_from flows 128 LrOutUndnat flight
    unfolding stage_at all_stages
    begins = pipeline_begins flows Egress 0 packet state LrOutUndnat (ap (λ kind. stage_at kind Egress 0) (of_router net sound router among))

    module _ (unseen : IsUnseen packet) (are : IsState state) where
      abbrev second : Flight
      second = leaving.second net sound router among packet state formed unseen are

      second_is : IsPacket second.packet
      second_is = leaving.second_is net sound router among packet state formed unseen are

      -- by the stages that change addresses it comes to delivery as the router has it
      by_comes : (of_rows : StageEnd) (of_router : Changed) → Comes packet LrOutDelivery state of_rows of_router → IsLeftOf packet of_router → does (go_on (run_from flows 126) of_rows) (then_on of_router state (leaving_late port))
      by_comes of_rows (Onward p after) at left =
          let reached = at.2 in
          subst (λ (e : StageEnd). does (go_on (run_from flows 126) e) (leaving_late port p after)) (sym at.1)
          (subst (λ (s : State). does (run_from flows 126 LrOutDelivery at.0) (leaving_late port p s)) reached.state_is
          (delivered_is at.0 p reached.formed (both_carry (value packet Outport) at.0.packet p reached.stands port.id to (reached.lasting FlagsLoopback refl ∙ sym (left.2 FlagsLoopback refl))) 125))
      by_comes of_rows (Stopped cause) is left = subst (λ (e : StageEnd). does (go_on (run_from flows 126) e) (did (Drops cause) state)) (sym is) (record { passes = refl; leaves = refl })

      on_router_is : does (run_from flows 128 LrOutUndnat flight) (then_on (changed_out net router.id packet state) state (leaving_late port))
      on_router_is =
          let end = then_on (changed_out net router.id packet state) state (leaving_late port) in
          after_step Leaves flows end 127 LrOutUndnat flight (On LrOutSnat second) (undnats net router flight (on packet formed))
          (after_step Leaves flows end 126 LrOutSnat second (leaving.end_of net sound router among packet state formed unseen are second (is_ip4 second.packet))
          (hides net router second (on second.packet second_is) (leaving.second_flagged net sound router among packet state formed unseen are))
          (by_comes (leaving.end_of net sound router among packet state formed unseen are second (is_ip4 second.packet)) (changed_out net router.id packet state)
          (leaving.leaving_comes net sound router among packet state formed unseen are)
          (changed_out_left net sound router.id (router_number_fits net sound router among) packet state formed are)))

      pub egress_is : does (run_pipeline flows Egress 0 packet state) (leaving_by net port packet state)
      egress_is =
          subst (λ run. does run (leaving_by net port packet state)) (sym begins)
          (subst (λ (d : ObjId). does (run_from flows 128 LrOutUndnat flight) (then_on (changed_out net d packet state) state (leaving_late port))) (sym its.1) on_router_is)

module _ (net : Network) (sound : IsSound net) where
  pub do_leave : DoLeave net
  do_leave port packet state there formed unseen are to =
      let of = router_there net sound port there in
      subst (λ (d : ObjId). DoesPart Leaves (run_pipeline (flows_at net d) Egress 0 packet state) (leaving_by net port packet state)) (sym of.2)
      (egress_is net sound of.0 of.1 port (there, of.2) packet state formed to unseen are)

  pub do_leave_late : DoLeaveLate net
  do_leave_late port packet state there formed to =
      let of = router_there net sound port there in
      subst (λ (d : ObjId). DoesPart Leaves (run_pipeline (flows_at net d) Egress late packet state) (leaving_late port packet state)) (sym of.2)
      (late_is net sound of.0 of.1 port (there, of.2) packet state formed to)
