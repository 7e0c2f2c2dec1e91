-- On rows that the machine runs each packet comes to an outcome.
use Rattle.std.proofs.Common.{◌≡◌, ◌≢◌, ℕ, zero, suc, ◌+◌, ◌-◌, ◌<◌, Bool, true, false, cond, List, [], ◌∷◌, Option, Some, None, refl, sym, subst, arith}
use Rattle.std.specs.Prelude.{not, is_some}
use Rattle.std.specs.Bool.{IsTrue}
use Rattle.std.specs.Option.{IsSome}
use Rattle.std.proofs.lemmas.Bool.{false≢true, and_parts}
use Rattle.std.proofs.lemmas.List.Elements.{All-contains}
use Rattle.nv_base.specs.declared.ip4.Ip4.{Ip4}
use Rattle.nv_base.specs.declared.object.ObjId.{ObjId}
use Rattle.pkt_core.specs.Packet.{Values}
use Rattle.pkt_core.specs.Prerequisite.{is_ip4}
use Rattle.pkt_core.specs.Tuple.{tuple, with_tuple}
use Rattle.pkt_core.specs.declared.tuple.Tuple.{Tuple}
use Rattle.ct_core.specs.Changes.{recorded}
use Rattle.ct_core.specs.Look.{look}
use Rattle.ct_core.specs.State.{State, with_conns}
use Rattle.ct_core.specs.Translation.{begun_as, followed, forth, snat_port, with_source}
use Rattle.ct_core.specs.declared.entry.Entry.{Entry}
use Rattle.ct_core.specs.declared.look.Look.{Look}
use Rattle.ct_core.specs.declared.look.Look.TheVariants.{Invalid, New, Found}
use Rattle.ct_core.specs.declared.zone.Zone.{Zone}
use Rattle.ct_core.specs.declared.zone.Zone.TheVariants.{Dnat, Snat}
use Rattle.expr_core.specs.Lookup.{Lookup}
use Rattle.act_core.specs.WellFormed.{is_well_formed}
use Rattle.act_core.specs.declared.action.Action.{Action}
use Rattle.act_core.specs.declared.action.Action.TheVariants as action
use Rattle.act_core.specs.declared.step.Step.{Step}
use Rattle.act_core.specs.declared.step.Step.TheVariants.{CtNext, CtLb, CtLbTo, CtCommit, CtSnat, CtSnatTo, CtDnat, CtDnatTo, PutArp, GetArp}
use Rattle.sb_model.specs.declared.stage.Pipeline.{Pipeline}
use Rattle.sb_model.specs.declared.stage.Stage.{Stage}
use Rattle.sb_model.specs.declared.row.Row.{Row}
use Rattle.sb_model.specs.Stage.{is_last, stage_table, stage_place, stage_at, next_stage, pipeline_of, is_same_kind}
use Rattle.sb_model.proofs.Stages.{next_goes_up, place_below}
use Rattle.tr_stage.specs.Machine as packets
use Rattle.tr_stage.specs.Machine.{Flows, acting, kind_of}
use Rattle.tr_stage.specs.Runnable as runs
use Rattle.tr_stage.proofs.Found.{IsFound, IsFound-from_select, select_some}
use Rattle.tr_stage.proofs.Runs as leads
use Rattle.tr_stage.proofs.Runs.{changes, actions_lead, same_kinds, at_is_of_kind}
use Rattle.tr_pipe.specs.Machine.{StageEnd, after, acted, bound, bound_if, done, effect, ended, go_on, hidden, hidden_by, kept, on_to, run_actions, run_from, run_pipeline, step, where_room, with_port}
use Rattle.tr_pipe.specs.Machine.StageEnd.{On, Ends}
use Rattle.tr_pipe.specs.Runnable.{is_change, may_be_last, are_run, IsRunnable}
use Rattle.tr_pipe.specs.Learning.{resolved, with_sender}
use Rattle.tr_pipe.specs.Tracking.{Flight, coming, committed, tracked, with_packet, zone_of}
use Rattle.tr_pipe.specs.Translating.{balanced_to, redirected_to, tracked_by, unhidden, way_of, zone_at}
use Rattle.tr_pipe.proofs.Plain.{last_run, plain_actions}
use Rattle.tr_pipe.proofs.Steps.{pipeline_begins}

-- a step that leads to the next stage, or to an outcome
abbrev pub LeadsOn : Stage → StageEnd → Type 0
LeadsOn stage (On later flight) = next_stage stage ≡ Some later
LeadsOn stage (Ends (Some outcome) state) = Unit {0}
LeadsOn stage (Ends None state) = ⊥

module _ (net : Lookup) (dp : ObjId) (stage : Stage) where
  -- what leads any packet on leads on with connections
  lifted : (flight : Flight) (end : packets.StageEnd) → leads.LeadsOn stage end → LeadsOn stage (ended flight end)
  lifted flight (packets.StageEnd.On later packet) on = on
  lifted flight (packets.StageEnd.Ends (Some outcome)) on = on
  lifted flight (packets.StageEnd.Ends None) on = absurd on

  -- after a change the others lead on
  change_leads : (step : Step) (flight : Flight) (others : Flight → StageEnd) → is_change net step ≡ true → ((later : Flight) → LeadsOn stage (others later)) → LeadsOn stage (after (effect net dp stage step flight) others)
  change_leads (CtCommit blocked) flight others is rest = by (committed (zone_of (pipeline_of stage) flight.packet) blocked flight.packet flight.state flight.look)
    where
      by : (left : Option State) → LeadsOn stage (after (kept flight left) others)
      by (Some state) = rest (record flight { state = state })
      by None = tt
  change_leads PutArp flight others is rest = rest (record flight { state = with_sender flight.packet flight.state })
  change_leads GetArp flight others is rest = rest (with_packet flight (resolved flight.state.nbrs flight.packet))
  change_leads CtNext flight others is rest = absurd (false≢true is)
  change_leads CtLb flight others is rest = absurd (false≢true is)
  change_leads (CtLbTo targets) flight others is rest = absurd (false≢true is)
  change_leads CtSnat flight others is rest = absurd (false≢true is)
  change_leads (CtSnatTo external) flight others is rest = absurd (false≢true is)
  change_leads CtDnat flight others is rest = absurd (false≢true is)
  change_leads (CtDnatTo addr) flight others is rest = absurd (false≢true is)
  change_leads step flight others is rest =
      let change = changes net stage step flight.packet is in
      subst (λ (e : packets.Effect). LeadsOn stage (after (done flight e) others)) (sym change.1) (rest (with_packet flight change.0))

  -- on to the next stage
  next_leads : (flight : Flight) (next : Option Stage) → next_stage stage ≡ next → not (not (is_some next)) ≡ true → LeadsOn stage (on_to next flight)
  next_leads flight (Some later) is may = is
  next_leads flight None is may = absurd (false≢true may)

  -- a last action that asks for no connection
  plain_leads : (last : Action) (flight : Flight) → runs.may_be_last net stage last ≡ true → LeadsOn stage (run_actions net dp stage (last ∷ []) flight)
  plain_leads last flight may =
      subst (LeadsOn stage) (sym (plain_actions net dp stage (last ∷ []) flight (last_run net stage last may))) (lifted flight (packets.run_actions net stage (last ∷ []) flight.packet) (actions_lead net stage (last ∷ []) flight.packet (last_run net stage last may)))

  -- a packet that begins a connection, and one whose source may change
  room_leads : (flight : Flight) (left : Option (List Entry)) → not (is_last stage) ≡ true → LeadsOn stage (where_room (next_stage stage) flight left)
  room_leads flight (Some conns) may = next_leads (record flight { state = with_conns conns flight.state }) (next_stage stage) refl may
  room_leads flight None may = tt

  bound_leads : (zone : Zone) (t : Tuple) (flight : Flight) → not (is_last stage) ≡ true → LeadsOn stage (bound (next_stage stage) zone t flight)
  bound_leads zone t flight may = room_leads (with_packet flight (with_tuple flight.packet t)) (recorded (begun_as zone t flight.packet) flight.state.conns) may

  target_leads : (zone : Zone) (t : Option Tuple) (flight : Flight) → not (is_last stage) ≡ true → LeadsOn stage (bound_if (next_stage stage) zone t flight)
  target_leads zone (Some t) flight may = bound_leads zone t flight may
  target_leads zone None flight may = next_leads flight (next_stage stage) refl may

  hidden_leads : (zone : Zone) (external : Ip4) (flight : Flight) → not (is_last stage) ≡ true → LeadsOn stage (hidden (next_stage stage) zone external flight)
  hidden_leads zone external flight may = by (is_ip4 flight.packet)
    where
      by_port : (port : Option ℕ) → LeadsOn stage (with_port (next_stage stage) zone external port flight)
      by_port (Some port) = bound_leads zone (with_source external port (tuple flight.packet)) flight may
      by_port None = tt

      by_look : (found : Look) → LeadsOn stage (hidden_by (next_stage stage) zone external flight found)
      by_look New = by_port (snat_port flight.state.conns zone (tuple flight.packet) external)
      by_look Invalid = next_leads (with_packet flight flight.packet) (next_stage stage) refl may
      by_look (Found place side related blocked) = next_leads (with_packet flight (forth flight.state.conns flight.packet (Found place side related blocked))) (next_stage stage) refl may

      by : (ip : Bool) → LeadsOn stage (cond ip (hidden_by (next_stage stage) zone external flight (look flight.state.conns zone flight.packet)) (on_to (next_stage stage) flight))
      by true = by_look (look flight.state.conns zone flight.packet)
      by false = next_leads flight (next_stage stage) refl may

  last_leads : (last : Action) (flight : Flight) → may_be_last net stage last ≡ true → LeadsOn stage (run_actions net dp stage (last ∷ []) flight)
  last_leads (action.Step CtNext) flight may = next_leads (tracked (zone_of (pipeline_of stage) flight.packet) flight) (next_stage stage) refl may
  last_leads (action.Step CtLb) flight may = next_leads (tracked_by followed (zone_at dp stage flight.packet) flight) (next_stage stage) refl may
  last_leads (action.Step (CtLbTo targets)) flight may = target_leads (zone_at dp stage flight.packet) (balanced_to targets flight.packet) flight may
  last_leads (action.Step CtSnat) flight may = next_leads (unhidden (Snat dp) flight) (next_stage stage) refl may
  last_leads (action.Step (CtSnatTo external)) flight may = hidden_leads (Snat dp) external flight may
  last_leads (action.Step CtDnat) flight may = next_leads (tracked_by (way_of (pipeline_of stage)) (Dnat dp) flight) (next_stage stage) refl may
  last_leads (action.Step (CtDnatTo addr)) flight may = bound_leads (Dnat dp) (redirected_to addr flight.packet) flight may
  last_leads (action.Step step) flight may = plain_leads (action.Step step) flight may
  last_leads (action.TcpReset block) flight may = plain_leads (action.TcpReset block) flight may
  last_leads (action.Icmp4 block) flight may = plain_leads (action.Icmp4 block) flight may
  last_leads (action.Reject block) flight may = plain_leads (action.Reject block) flight may
  last_leads (action.Arp block) flight may = plain_leads (action.Arp block) flight may

  -- so the actions that the machine runs lead on
  run_leads : (actions : List Action) (flight : Flight) → are_run net stage actions ≡ true → LeadsOn stage (run_actions net dp stage actions flight)
  run_leads [] flight run = absurd (false≢true run)
  run_leads (action.Step step ∷ []) flight run = last_leads (action.Step step) flight run
  run_leads (action.TcpReset block ∷ []) flight run = last_leads (action.TcpReset block) flight run
  run_leads (action.Icmp4 block ∷ []) flight run = last_leads (action.Icmp4 block) flight run
  run_leads (action.Reject block ∷ []) flight run = last_leads (action.Reject block) flight run
  run_leads (action.Arp block ∷ []) flight run = last_leads (action.Arp block) flight run
  run_leads (action.Step step ∷ other ∷ others) flight run =
      let parts = and_parts (is_change net step) (are_run net stage (other ∷ others)) run in
      change_leads step flight (run_actions net dp stage (other ∷ others)) parts.0 (λ later. run_leads (other ∷ others) later parts.1)
  run_leads (action.TcpReset block ∷ other ∷ others) flight run = absurd (false≢true run)
  run_leads (action.Icmp4 block ∷ other ∷ others) flight run = absurd (false≢true run)
  run_leads (action.Reject block ∷ other ∷ others) flight run = absurd (false≢true run)
  run_leads (action.Arp block ∷ other ∷ others) flight run = absurd (false≢true run)

-- how many places there are from the stage on
abbrev places_left : Stage → ℕ
places_left stage = 32 - stage_place stage

module _ (flows : Flows) (sound : IsRunnable flows) where
  -- the datapath has the stage
  abbrev HasStage : Stage → Type 0
  HasStage stage = IsTrue (is_same_kind (stage_table stage).kind (kind_of flows))

  next_up : (stage later : Stage) → HasStage stage → next_stage stage ≡ Some later → HasStage later × (stage_place later ≡ stage_place stage + 1)
  next_up stage later has there =
      let up = next_goes_up stage later there in
      (same_kinds (stage_table stage).kind (stage_table later).kind (kind_of flows) up.0 has, up.1)

  -- what is asked of each row holds of the one that acts
  module _ (stage : Stage) (packet : Values) (row : Row) (is : acting flows stage packet ≡ Some row) where
    of_row : IsFound flows.rows flows.dp stage row
    of_row = IsFound-from_select flows stage packet row is

    pub acting_formed : IsTrue (is_well_formed row.actions)
    acting_formed = All-contains (λ (r : Row). r.dp ≡ flows.dp → IsTrue (is_well_formed r.actions)) flows.rows row sound.formed of_row.among of_row.of_dp

    pub acting_run : IsTrue (are_run flows.net stage row.actions)
    acting_run =
        let run = All-contains (λ (r : Row). r.dp ≡ flows.dp → IsTrue (are_run flows.net r.stage r.actions)) flows.rows row sound.run of_row.among of_row.of_dp in
        subst (λ s. IsTrue (are_run flows.net s row.actions)) of_row.of_stage run

  -- each step on these rows leads on
  step_leads : (stage : Stage) (flight : Flight) → HasStage stage → LeadsOn stage (step flows stage flight)
  unfolding step
  step_leads stage flight has = by (acting flows stage flight.packet) refl
    where
      by : (found : Option Row) → acting flows stage flight.packet ≡ found → LeadsOn stage (acted flows.net flows.dp stage flight found)
      by None none = absurd (select_some flows stage flight.packet (sound.takes_each stage has) none)
      by (Some row) is = run_leads flows.net flows.dp stage row.actions flight (acting_run stage flight.packet row is)

  -- so does a run, with a step for each stage that is still to come
  never_stuck : (budget : ℕ) (stage : Stage) (flight : Flight) → HasStage stage → places_left stage < budget → (run_from flows budget stage flight).outcome ≢ None
  unfolding run_from
  never_stuck zero stage flight has enough = absurd (omega arith)
  never_stuck (suc budget) stage flight has enough = by (step flows stage flight) (step_leads stage flight has) (λ later changed of_it fewer. never_stuck budget later changed of_it (omega (arith, fewer, enough)))
    where
      by : (ending : StageEnd) → LeadsOn stage ending → ((later : Stage) (changed : Flight) → HasStage later → suc (places_left later) ≡ places_left stage → (run_from flows budget later changed).outcome ≢ None)
          → (go_on (run_from flows budget) ending).outcome ≢ None
      by (On later changed) there rest =
          let up = next_up stage later has there in
          let below = place_below later in
          rest later changed up.0 (omega (arith, up.1, below))
      by (Ends (Some outcome) state) leads rest = λ e. cc
      by (Ends None state) leads rest = absurd leads

  enough_steps : (stage : Stage) → places_left stage < 128
  enough_steps stage = omega arith

  -- so no pipeline is stuck
  pub pipeline_never_stuck : (pipeline : Pipeline) (table : ℕ) (packet : Values) (state : State) → IsSome (stage_at (kind_of flows) pipeline table) → (run_pipeline flows pipeline table packet state).outcome ≢ None
  pipeline_never_stuck pipeline table packet state some = by (stage_at (kind_of flows) pipeline table) refl some
    where
      by : (found : Option Stage) → stage_at (kind_of flows) pipeline table ≡ found → IsSome found → (run_pipeline flows pipeline table packet state).outcome ≢ None
      by (Some stage) is some =
          rw (pipeline_begins flows pipeline table packet state stage is) (never_stuck 128 stage (coming packet state) (at_is_of_kind (kind_of flows) pipeline table stage is) (enough_steps stage))
      by None is some = absurd (false≢true some)
