use Rattle.act_parse.proofs.Loops.{stuck_after}
use Rattle.act_parse.proofs.step.backends.Goals as goal

pub returns-in_err-rest-clause-reads : goal.returns-in_err-rest-clause-reads
returns-in_err-rest-clause-reads c = stuck_after c.from_residual.result _ _ _ c.from_residual.ensures.1 c.in_err-rest.ensures.reads

pub returns-in_err-targets-clause-reads : goal.returns-in_err-targets-clause-reads
returns-in_err-targets-clause-reads c =
    rw (c.in_ok-rest.ensures.reads) (stuck_after c.from_residual-in_err-targets.result _ _ _ c.from_residual-in_err-targets.ensures.1 c.in_err-targets.ensures.reads)
