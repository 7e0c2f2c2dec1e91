-- How far a run has come, for the loop that takes the steps.
use Rattle.std.proofs.Common.{◌≡◌, ◌≢◌, ℕ, suc, List, ◌++◌, ◌-◌, ◌<◌, ◌≤◌, Option, Some, None, append_assoc, append-nil, sym, ap, subst, arith, ◌∙◌}
use Rattle.ct_core.specs.State.{State}
use Rattle.sb_model.specs.declared.stage.Stage.{Stage}
use Rattle.sb_model.specs.declared.row.Row.{Row}
use Rattle.tr_stage.specs.declared.outcome.Hit.{Hit}
use Rattle.tr_stage.specs.declared.outcome.Outcome.{Outcome}
use Rattle.tr_stage.specs.Machine.{Flows, acting, hit_of}
use Rattle.tr_pipe.specs.Machine.StageEnd.{Ends}
use Rattle.tr_pipe.specs.Machine.{PipelineRun, StageEnd, after_hits, go_on, over, run_actions, run_from}
use Rattle.tr_pipe.specs.Tracking.{Flight}
use Rattle.tr_pipe.proofs.Steps.{run-none, run-spent, run-step}

-- of the whole run, whose hits follow the old ones, the rest is still to come after the hits that are there now
pub record IsProgress (old now : List Hit) (whole rest : PipelineRun) : Type 0 where
  pub joined : now ++ rest.hits ≡ old ++ whole.hits
  pub same_end : rest.outcome ≡ whole.outcome
  pub same_state : rest.state ≡ whole.state

module _ (old now : List Hit) (whole rest : PipelineRun) (on : IsProgress old now whole rest) (hits : List Hit) where
  -- some hits further
  pub progress-more : (items : List Hit) → items ≡ now ++ hits → (later : PipelineRun) → rest ≡ after_hits hits later → IsProgress old items whole later
  progress-more items more later is = record {
    joined = ap (λ there. there ++ later.hits) more ∙ append_assoc now hits later.hits ∙ ap (λ (w : PipelineRun). now ++ w.hits) (sym is) ∙ on.joined;
    same_end = ap (λ (w : PipelineRun). w.outcome) (sym is) ∙ on.same_end;
    same_state = ap (λ (w : PipelineRun). w.state) (sym is) ∙ on.same_state;
  }

module _ (flows : Flows) (budget : ℕ) (stage : Stage) (flight : Flight) (old now : List Hit) (whole : PipelineRun) (on : IsProgress old now whole (run_from flows budget stage flight)) where
  -- with some budget left there is a step
  pub progress-step : 0 < budget → IsProgress old now whole (run_from flows (suc (budget - 1)) stage flight)
  progress-step some =
      let more : budget ≡ suc (budget - 1) = omega arith in
      subst (λ n. IsProgress old now whole (run_from flows n stage flight)) more on

  -- with none left there is no step
  pub progress-spent : budget ≤ 0 → whole.outcome ≡ None
  progress-spent none =
      let spent : budget ≡ 0 = omega arith in
      sym on.same_end ∙ ap (λ n. (run_from flows n stage flight).outcome) spent ∙ ap (λ (w : PipelineRun). w.outcome) (run-spent flows stage flight)

  module _ (some : 0 < budget) where
    -- a run that has an outcome has a row that acts at each step
    pub row_there : whole.outcome ≢ None → acting flows stage flight.packet ≡ None → ⊥
    row_there runs none = runs (sym (progress-step some).same_end ∙ run-none flows (budget - 1) stage flight none)

    module _ (row : Row) (ending : StageEnd) (items : List Hit) (is : acting flows stage flight.packet ≡ Some row) (ends : run_actions flows.net flows.dp stage row.actions flight ≡ ending)
        (more : items ≡ now ++ hit_of flows.dp stage (Some row)) where
      -- a step that is taken
      pub step_taken : IsProgress old items whole (go_on (run_from flows (budget - 1)) ending)
      step_taken =
          progress-more old now whole (run_from flows (suc (budget - 1)) stage flight) (progress-step some) (hit_of flows.dp stage (Some row)) items more (go_on (run_from flows (budget - 1)) ending)
          (run-step flows (budget - 1) stage flight row ending is ends)

-- what a run that is over has come to
pub record IsOver (old items : List Hit) (whole : PipelineRun) (outcome : Option Outcome) (state : State) : Type 0 where
  pub hits : items ≡ old ++ whole.hits
  pub outcome_is : whole.outcome ≡ outcome
  pub state_is : whole.state ≡ state

pub progress-done : (old items : List Hit) (whole : PipelineRun) (outcome : Option Outcome) (state : State) → IsProgress old items whole (over outcome state) → IsOver old items whole outcome state
progress-done old items whole outcome state on = record {
  hits = sym (append-nil items) ∙ on.joined;
  outcome_is = sym on.same_end;
  state_is = sym on.same_state;
}

-- a step after which the run is over
pub run_ends : (flows : Flows) (budget : ℕ) (stage : Stage) (flight : Flight) (old now : List Hit) (whole : PipelineRun) → IsProgress old now whole (run_from flows budget stage flight) → 0 < budget
    → (row : Row) (outcome : Option Outcome) (state : State) (items : List Hit) → acting flows stage flight.packet ≡ Some row → run_actions flows.net flows.dp stage row.actions flight ≡ Ends outcome state
    → items ≡ now ++ hit_of flows.dp stage (Some row) → IsOver old items whole outcome state
run_ends flows budget stage flight old now whole on some row outcome state items is ends more =
    progress-done old items whole outcome state (step_taken flows budget stage flight old now whole on some row (Ends outcome state) items is ends more)
