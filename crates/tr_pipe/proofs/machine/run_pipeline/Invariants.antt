use Rattle.std.specs.Prelude.{◌≡◌}
use Rattle.tr_stage.specs.Machine.{flows_of}
use Rattle.tr_pipe.specs.Machine.{run_from, run_pipeline}
use Rattle.tr_pipe.specs.inner.Moving.{in_flight}
use Rattle.tr_pipe.proofs.Progress.{IsProgress}
use Rattle.tr_pipe.proofs.machine.run_pipeline.Given as goal

abbrev pub invariant-loop-budget : goal.invariant-loop-budget
invariant-loop-budget g l =
    IsProgress l.fn.hits.items l.hits.items
    (run_pipeline (flows_of l.fn.rows (g.E.Env.lookup l.fn.env) l.fn.dp) l.fn.pipeline l.fn.table l.fn.packet l.fn.work.state)
    (run_from (flows_of l.fn.rows (g.E.Env.lookup l.fn.env) l.fn.dp) l.budget l.stage (in_flight l.moving l.work.state))
    × (l.work.back ≡ l.fn.work.back)

abbrev pub decreases-loop-budget : goal.decreases-loop-budget
decreases-loop-budget g l = l.budget
