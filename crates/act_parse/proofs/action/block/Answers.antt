use Rattle.std.proofs.Common.{refl}
use Rattle.act_parse.proofs.Loops.{stuck_after}
use Rattle.act_parse.proofs.action.block.Goals as goal

pub returns-in_err-rest-clause-reads : goal.returns-in_err-rest-clause-reads
returns-in_err-rest-clause-reads c = stuck_after c.from_residual.result _ _ _ c.from_residual.ensures.1 c.in_err-rest.ensures.reads

pub returns-in_err-steps-clause-reads : goal.returns-in_err-steps-clause-reads
returns-in_err-steps-clause-reads c =
    rw (c.in_ok-rest.ensures.reads) (stuck_after c.from_residual-in_err-steps.result _ _ _ c.from_residual-in_err-steps.ensures.1 c.in_err-steps.ensures.reads)

pub returns-clause-reads : goal.returns-clause-reads
returns-clause-reads c = rw (c.in_ok-rest.ensures.reads, c.in_ok-steps.ensures.reads, c.in_ok-rest-2.ensures.reads) refl
