-- Runs of a router's pipelines that do a part, step by step.
use Rattle.std.proofs.Common.{◌≡◌, ℕ, suc, sym, ap, subst, ◌∙◌}
use Rattle.std.specs.Prelude.{Option}
use Rattle.sb_model.specs.declared.stage.Stage.{Stage}
use Rattle.net_meaning.specs.Switches.{Did}
use Rattle.net_meaning.specs.Walk.{Passed}
use Rattle.tr_stage.specs.Machine.{Flows}
use Rattle.tr_stage.specs.declared.outcome.Outcome.{Outcome}
use Rattle.tr_pipe.specs.Machine.{StageEnd, go_on, run_from, step}
use Rattle.tr_pipe.specs.Tracking.{Flight}
use Rattle.tr_router.specs.Parts.{DoesPart}

module _ (ends : Option Outcome → Passed → Type 0) (flows : Flows) (did : Did) where
  -- the run from a stage on does a part where it does so after the step
  pub after_step : (budget : ℕ) (stage : Stage) (flight : Flight) (end : StageEnd) → step flows stage flight ≡ end → DoesPart ends (go_on (run_from flows budget) end) did → DoesPart ends (run_from flows (suc budget) stage flight) did
  unfolding run_from
  after_step budget stage flight end is rest = record {
    passes = subst (λ e. ends (go_on (run_from flows budget) e).outcome did.passed) (sym is) rest.passes;
    leaves = ap (λ e. (go_on (run_from flows budget) e).state) is ∙ rest.leaves;
  }
