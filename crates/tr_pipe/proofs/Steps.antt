-- What the run of a packet is at a stage, by the row that acts there.
use Rattle.std.proofs.Common.{◌≡◌, ℕ, zero, suc, Some, None, ap, refl}
use Rattle.pkt_core.specs.Packet.{Values}
use Rattle.ct_core.specs.State.{State}
use Rattle.sb_model.specs.declared.stage.Stage.{Stage}
use Rattle.sb_model.specs.declared.stage.Pipeline.{Pipeline}
use Rattle.sb_model.specs.declared.row.Row.{Row}
use Rattle.sb_model.specs.Stage.{stage_at}
use Rattle.tr_stage.specs.Machine.{Flows, acting, hit_at, hit_of, kind_of, step_budget}
use Rattle.tr_pipe.specs.Machine.{StageEnd, after_hits, go_on, on_to, over, run_actions, run_from, run_pipeline, step}
use Rattle.tr_pipe.specs.Tracking.{Flight, coming}

-- a pipeline's run is the run from its first stage on
pub pipeline_begins : (flows : Flows) (pipeline : Pipeline) (table : ℕ) (packet : Values) (state : State) (stage : Stage) → stage_at (kind_of flows) pipeline table ≡ Some stage
    → run_pipeline flows pipeline table packet state ≡ run_from flows step_budget stage (coming packet state)
unfolding run_pipeline
pipeline_begins flows pipeline table packet state stage is = ap (λ found. go_on (run_from flows step_budget) (on_to found (coming packet state))) is

-- with no budget there is no step
pub run-spent : (flows : Flows) (stage : Stage) (flight : Flight) → run_from flows zero stage flight ≡ over None flight.state
unfolding run_from
run-spent flows stage flight = refl

-- what a step makes of the rest of a run
pub run-step : (flows : Flows) (budget : ℕ) (stage : Stage) (flight : Flight) (row : Row) (ending : StageEnd) → acting flows stage flight.packet ≡ Some row
    → run_actions flows.net flows.dp stage row.actions flight ≡ ending
    → run_from flows (suc budget) stage flight ≡ after_hits (hit_of flows.dp stage (Some row)) (go_on (run_from flows budget) ending)
unfolding run_from step hit_at
run-step flows budget stage flight row ending is ends = rw (is, ends) refl

-- where no row acts there is no outcome
pub run-none : (flows : Flows) (budget : ℕ) (stage : Stage) (flight : Flight) → acting flows stage flight.packet ≡ None → (run_from flows (suc budget) stage flight).outcome ≡ None
unfolding run_from step hit_at
run-none flows budget stage flight none = rw none refl
