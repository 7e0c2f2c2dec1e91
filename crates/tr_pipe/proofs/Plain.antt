-- Rows that ask for no connection do with a packet what they do with any, and leave the state.
use Rattle.std.proofs.Common.{◌≡◌, ℕ, zero, suc, true, List, [], ◌∷◌, get_or, Option, Some, None, ap, refl, ◌∙◌, ◌⊎◌, inl, inr}
use Rattle.std.proofs.lemmas.Bool.{false≢true, and_from, and_parts}
use Rattle.pkt_core.specs.Packet.{Values}
use Rattle.ct_core.specs.State.{State}
use Rattle.nv_base.specs.declared.object.ObjId.{ObjId}
use Rattle.expr_core.specs.Lookup.{Lookup}
use Rattle.act_core.specs.declared.action.Action.{Action}
use Rattle.act_core.specs.declared.action.Action.TheVariants as action
use Rattle.act_core.specs.declared.step.Step.{Step}
use Rattle.act_core.specs.declared.step.Step.TheVariants.{CtNext, CtLb, CtLbTo, CtCommit, CtSnat, CtSnatTo, CtDnat, CtDnatTo, PutArp, GetArp}
use Rattle.sb_model.specs.Stage.{stage_at}
use Rattle.sb_model.specs.declared.row.Row.{Row}
use Rattle.sb_model.specs.declared.stage.Pipeline.{Pipeline}
use Rattle.sb_model.specs.declared.stage.Stage.{Stage}
use Rattle.tr_stage.specs.Machine as packets
use Rattle.tr_stage.specs.Machine.{Flows, acting, hit_at, kind_of, step_budget}
use Rattle.tr_stage.specs.Runnable as runs
use Rattle.tr_stage.proofs.PacketRuns as steps
use Rattle.tr_stage.proofs.PacketRuns.{IsRunnable}
use Rattle.tr_stage.proofs.Runs.{acting_run}
use Rattle.tr_pipe.specs.Machine.{StageEnd, PipelineRun, after, acted, after_hits, done, effect, ended, go_on, on_to, run_actions, run_from, run_pipeline, step}
use Rattle.tr_pipe.specs.Runnable as pipes
use Rattle.tr_pipe.specs.Runnable.{is_change, may_be_last, are_run}
use Rattle.tr_pipe.specs.Tracking.{Flight, coming, with_packet}

-- the others follow alike
pub after_done : (flight : Flight) (e : packets.Effect) (f : Flight → StageEnd) (g : Values → packets.StageEnd) → ((packet : Values) → f (with_packet flight packet) ≡ ended flight (g packet))
    → after (done flight e) f ≡ ended flight (packets.after e g)
after_done flight (packets.Effect.Changed packet) f g alike = alike packet
after_done flight (packets.Effect.Done end) f g alike = refl

module _ (net : Lookup) (dp : ObjId) (stage : Stage) where
  -- an action that is run on packets asks for no connection
  pub plain_effect : (step : Step) (flight : Flight) → (runs.is_change net step ≡ true) ⊎ (runs.may_end stage step ≡ true) → effect net dp stage step flight ≡ done flight (packets.effect net stage step flight.packet)
  plain_effect CtNext flight (inl is) = absurd (false≢true is)
  plain_effect CtNext flight (inr is) = absurd (false≢true is)
  plain_effect (CtCommit blocked) flight (inl is) = absurd (false≢true is)
  plain_effect (CtCommit blocked) flight (inr is) = absurd (false≢true is)
  plain_effect PutArp flight (inl is) = absurd (false≢true is)
  plain_effect PutArp flight (inr is) = absurd (false≢true is)
  plain_effect GetArp flight (inl is) = absurd (false≢true is)
  plain_effect GetArp flight (inr is) = absurd (false≢true is)
  plain_effect CtLb flight (inl is) = absurd (false≢true is)
  plain_effect CtLb flight (inr is) = absurd (false≢true is)
  plain_effect (CtLbTo targets) flight (inl is) = absurd (false≢true is)
  plain_effect (CtLbTo targets) flight (inr is) = absurd (false≢true is)
  plain_effect CtSnat flight (inl is) = absurd (false≢true is)
  plain_effect CtSnat flight (inr is) = absurd (false≢true is)
  plain_effect (CtSnatTo external) flight (inl is) = absurd (false≢true is)
  plain_effect (CtSnatTo external) flight (inr is) = absurd (false≢true is)
  plain_effect CtDnat flight (inl is) = absurd (false≢true is)
  plain_effect CtDnat flight (inr is) = absurd (false≢true is)
  plain_effect (CtDnatTo addr) flight (inl is) = absurd (false≢true is)
  plain_effect (CtDnatTo addr) flight (inr is) = absurd (false≢true is)
  plain_effect _ flight is = refl

  pub plain_actions : (actions : List Action) (flight : Flight) → steps.are_run net stage actions ≡ true → run_actions net dp stage actions flight ≡ ended flight (packets.run_actions net stage actions flight.packet)
  plain_actions [] flight run = refl
  plain_actions (action.Step step ∷ []) flight run =
      ap (λ e. after e (run_actions net dp stage [])) (plain_effect step flight (inr run))
      ∙ after_done flight (packets.effect net stage step flight.packet) (run_actions net dp stage []) (packets.run_actions net stage []) (λ packet. refl)
  plain_actions (action.Step step ∷ other ∷ others) flight run =
      let parts = and_parts (runs.is_change net step) (steps.are_run net stage (other ∷ others)) run in
      ap (λ e. after e (run_actions net dp stage (other ∷ others))) (plain_effect step flight (inl parts.0))
      ∙ after_done flight (packets.effect net stage step flight.packet) (run_actions net dp stage (other ∷ others)) (packets.run_actions net stage (other ∷ others))
      (λ packet. plain_actions (other ∷ others) (with_packet flight packet) parts.1)
  plain_actions (action.TcpReset block ∷ []) flight run = refl
  plain_actions (action.Icmp4 block ∷ []) flight run = refl
  plain_actions (action.Reject block ∷ []) flight run = refl
  plain_actions (action.Arp block ∷ []) flight run = refl
  plain_actions (action.TcpReset block ∷ other ∷ others) flight run = absurd (false≢true run)
  plain_actions (action.Icmp4 block ∷ other ∷ others) flight run = absurd (false≢true run)
  plain_actions (action.Reject block ∷ other ∷ others) flight run = absurd (false≢true run)
  plain_actions (action.Arp block ∷ other ∷ others) flight run = absurd (false≢true run)

module _ (net : Lookup) (stage : Stage) where
  -- what is run on packets is run with connections
  still_change : (step : Step) → runs.is_change net step ≡ true → is_change net step ≡ true
  still_change (CtCommit blocked) is = refl
  still_change PutArp is = refl
  still_change GetArp is = refl
  still_change _ is = is

  -- one action that may be the last is a list that is run
  pub last_run : (last : Action) → runs.may_be_last net stage last ≡ true → steps.are_run net stage (last ∷ []) ≡ true
  last_run (action.Step step) may = may
  last_run (action.TcpReset block) may = may
  last_run (action.Icmp4 block) may = may
  last_run (action.Reject block) may = may
  last_run (action.Arp block) may = may

  still_last : (last : Action) → runs.may_be_last net stage last ≡ true → may_be_last net stage last ≡ true
  still_last (action.Step CtNext) is = absurd (false≢true is)
  still_last (action.Step CtLb) is = absurd (false≢true is)
  still_last (action.Step (CtLbTo targets)) is = absurd (false≢true is)
  still_last (action.Step CtSnat) is = absurd (false≢true is)
  still_last (action.Step (CtSnatTo external)) is = absurd (false≢true is)
  still_last (action.Step CtDnat) is = absurd (false≢true is)
  still_last (action.Step (CtDnatTo addr)) is = absurd (false≢true is)
  still_last (action.Step _) is = is
  still_last (action.TcpReset block) is = is
  still_last (action.Icmp4 block) is = is
  still_last (action.Reject block) is = is
  still_last (action.Arp block) is = is

  still_run : (actions : List Action) → steps.are_run net stage actions ≡ true → are_run net stage actions ≡ true
  still_run [] run = run
  still_run (action.Step step ∷ []) run = still_last (action.Step step) run
  still_run (action.TcpReset block ∷ []) run = run
  still_run (action.Icmp4 block ∷ []) run = run
  still_run (action.Reject block ∷ []) run = run
  still_run (action.Arp block ∷ []) run = run
  still_run (action.Step step ∷ other ∷ others) run =
      let parts = and_parts (runs.is_change net step) (steps.are_run net stage (other ∷ others)) run in
      and_from (is_change net step) (are_run net stage (other ∷ others)) (still_change step parts.0) (still_run (other ∷ others) parts.1)
  still_run (action.TcpReset block ∷ other ∷ others) run = absurd (false≢true run)
  still_run (action.Icmp4 block ∷ other ∷ others) run = absurd (false≢true run)
  still_run (action.Reject block ∷ other ∷ others) run = absurd (false≢true run)
  still_run (action.Arp block ∷ other ∷ others) run = absurd (false≢true run)

pub still_runs : (flows : Flows) → IsRunnable flows → pipes.IsRunnable flows
still_runs flows sound = record {
  takes_each = sound.takes_each;
  formed = sound.formed;
  run = λ k d lt of_dp. still_run flows.net (get_or flows.rows k d).stage (get_or flows.rows k d).actions (sound.run k d lt of_dp);
}

-- the run of a packet, with a state that it leaves as it was
abbrev pub leaving : State → steps.PipelineRun → PipelineRun
leaving state run = record { hits = run.hits; outcome = run.outcome; state = state }

module _ (flows : Flows) (sound : IsRunnable flows) where
  plain_step : (stage : Stage) (flight : Flight) → step flows stage flight ≡ ended flight (packets.step flows stage flight.packet)
  unfolding step packets.step
  plain_step stage flight = by (acting flows stage flight.packet) refl
    where
      by : (found : Option Row) → acting flows stage flight.packet ≡ found → acted flows.net flows.dp stage flight found ≡ ended flight (packets.acted flows.net stage flight.packet found)
      by None none = refl
      by (Some row) is = plain_actions flows.net flows.dp stage row.actions flight (acting_run flows sound stage flight.packet row is)

  plain_run : (budget : ℕ) (stage : Stage) (flight : Flight) → run_from flows budget stage flight ≡ leaving flight.state (steps.run_from flows budget stage flight.packet)
  unfolding run_from steps.run_from
  plain_run zero stage flight = refl
  plain_run (suc budget) stage flight =
      ap (λ e. after_hits (hit_at flows stage flight.packet) (go_on (run_from flows budget) e)) (plain_step stage flight) ∙ by (packets.step flows stage flight.packet) (λ later packet. plain_run budget later (with_packet flight packet))
    where
      by : (e : packets.StageEnd) → ((later : Stage) (packet : Values) → run_from flows budget later (with_packet flight packet) ≡ leaving flight.state (steps.run_from flows budget later packet))
          → after_hits (hit_at flows stage flight.packet) (go_on (run_from flows budget) (ended flight e)) ≡ leaving flight.state (steps.after_hits (hit_at flows stage flight.packet) (steps.go_on (steps.run_from flows budget) e))
      by (packets.StageEnd.On later packet) rest = ap (after_hits (hit_at flows stage flight.packet)) (rest later packet)
      by (packets.StageEnd.Ends outcome) rest = refl

  -- so is a pipeline's run
  pub plain_pipeline : (pipeline : Pipeline) (table : ℕ) (packet : Values) (state : State) → run_pipeline flows pipeline table packet state ≡ leaving state (steps.run_pipeline flows pipeline table packet)
  unfolding run_pipeline steps.run_pipeline
  plain_pipeline pipeline table packet state = by (stage_at (kind_of flows) pipeline table)
    where
      by : (found : Option Stage) → go_on (run_from flows step_budget) (on_to found (coming packet state)) ≡ leaving state (steps.go_on (steps.run_from flows step_budget) (packets.on_to found packet))
      by (Some stage) = plain_run step_budget stage (coming packet state)
      by None = refl
