-- The run of a packet through one pipeline of a datapath, a step for each stage, where no connection is asked for.
use Rattle.std.proofs.Common.{◌≡◌, ℕ, zero, suc, Bool, false, List, [], ◌∷◌, ◌++◌, ap}
use Rattle.std.specs.Prelude.{◌&&◌, IsTrue, All, Option, Some, None}
use Rattle.pkt_core.specs.Packet.{Values}
use Rattle.sb_model.specs.declared.stage.Stage.{Stage}
use Rattle.sb_model.specs.declared.stage.Pipeline.{Pipeline}
use Rattle.expr_core.specs.Lookup.{Lookup}
use Rattle.act_core.specs.WellFormed.{is_well_formed}
use Rattle.act_core.specs.declared.action.Action.{Action}
use Rattle.act_core.specs.declared.action.Action.TheVariants as action
use Rattle.sb_model.specs.Stage.{is_same_kind, stage_at, stage_table}
use Rattle.tr_stage.specs.declared.outcome.Hit.{Hit}
use Rattle.tr_stage.specs.declared.outcome.Outcome.{Outcome}
use Rattle.tr_stage.specs.Machine.{Flows, StageEnd, hit_at, kind_of, on_to, step, step_budget}
use Rattle.tr_stage.specs.Machine.StageEnd.{On, Ends}
use Rattle.tr_stage.specs.Runnable.{TakesEach, is_change, may_be_last}

-- a packet's run through a pipeline: the hits, in order, and the outcome, if there is one
pub record PipelineRun : Type 0 where
  pub hits : List Hit
  pub outcome : Option Outcome

-- a run that begins with these hits
abbrev pub after_hits : List Hit → PipelineRun → PipelineRun
after_hits hits rest = record { hits = hits ++ rest.hits; outcome = rest.outcome }

-- how a run goes on after a step; `run_at` gives the run from a stage on
abbrev pub go_on : (Stage → Values → PipelineRun) → StageEnd → PipelineRun
go_on run_at (On stage packet) = run_at stage packet
go_on run_at (Ends outcome) = record { hits = []; outcome = outcome }

-- the run from a stage on, in at most this many steps
unfoldable pub run_from : Flows → ℕ → Stage → Values → PipelineRun
run_from flows zero stage packet = record { hits = []; outcome = None }
run_from flows (suc budget) stage packet = after_hits (hit_at flows stage packet) (go_on (run_from flows budget) (step flows stage packet))

-- the run of a packet through a pipeline of the datapath, from this table on
unfoldable pub run_pipeline : Flows → Pipeline → ℕ → Values → PipelineRun
run_pipeline flows pipeline table packet = go_on (run_from flows step_budget) (on_to (stage_at (kind_of flows) pipeline table) packet)

-- a pipeline's run is the run from its first stage on
pub pipeline_begins : (flows : Flows) (pipeline : Pipeline) (table : ℕ) (packet : Values) (stage : Stage) → stage_at (kind_of flows) pipeline table ≡ Some stage
    → run_pipeline flows pipeline table packet ≡ run_from flows step_budget stage packet
unfolding run_pipeline
pipeline_begins flows pipeline table packet stage is = ap (λ found. go_on (run_from flows step_budget) (on_to found packet)) is

-- assignments and exchanges, and then a last action
abbrev pub are_run : Lookup → Stage → List Action → Bool
are_run net stage [] = false
are_run net stage (last ∷ []) = may_be_last net stage last
are_run net stage (action.Step step ∷ others) = is_change net step && are_run net stage others
are_run net stage (_ ∷ others) = false

-- rows in which each packet comes to the end of a pipeline of the datapath: each stage takes each packet, and the actions are
-- well-formed assignments and exchanges before a last action
pub record IsRunnable (flows : Flows) : Type 0 where
  pub takes_each : (stage : Stage) → IsTrue (is_same_kind (stage_table stage).kind (kind_of flows)) → TakesEach flows stage
  pub formed : All (λ row. row.dp ≡ flows.dp → IsTrue (is_well_formed row.actions)) flows.rows
  pub run : All (λ row. row.dp ≡ flows.dp → IsTrue (are_run flows.net row.stage row.actions)) flows.rows
