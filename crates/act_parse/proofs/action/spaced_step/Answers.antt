use Rattle.act_parse.proofs.Loops.{stuck_after}
use Rattle.act_parse.proofs.action.spaced_step.Goals as goal

pub returns-in_err-step-clause-reads : goal.returns-in_err-step-clause-reads
returns-in_err-step-clause-reads c = stuck_after c.from_residual.result _ _ _ c.from_residual.ensures.1 c.in_err-step.ensures.reads

pub returns-in_err-rest-clause-reads : goal.returns-in_err-rest-clause-reads
returns-in_err-rest-clause-reads c =
    rw (c.in_ok-step.ensures.reads) (stuck_after c.from_residual-in_err-rest.result _ _ _ c.from_residual-in_err-rest.ensures.1 c.in_err-rest.ensures.reads)
