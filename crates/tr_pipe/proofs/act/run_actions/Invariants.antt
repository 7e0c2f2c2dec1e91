use Rattle.std.specs.Prelude.{◌≡◌, IsTrue, length}
use Rattle.act_core.specs.WellFormed.{is_well_formed}
use Rattle.tr_pipe.specs.Machine.{run_actions}
use Rattle.tr_pipe.specs.Runnable.{are_run}
use Rattle.tr_pipe.specs.inner.Moving.{in_flight}
use Rattle.tr_pipe.proofs.act.run_actions.Given as goal

-- what is left of the actions does the rest
abbrev pub invariant-loop-first : goal.invariant-loop-first
invariant-loop-first g l =
    (run_actions (g.E.Env.lookup l.fn.env) l.fn.dp l.fn.stage l.fn.actions (in_flight l.fn.moving l.fn.work.state) ≡ run_actions (g.E.Env.lookup l.fn.env) l.fn.dp l.fn.stage l.rest (in_flight l.moving l.work.state))
    × IsTrue (is_well_formed l.rest) × IsTrue (are_run (g.E.Env.lookup l.fn.env) l.fn.stage l.rest) × (l.work.back ≡ l.fn.work.back)

abbrev pub decreases-loop-first : goal.decreases-loop-first
decreases-loop-first g l = length l.rest
