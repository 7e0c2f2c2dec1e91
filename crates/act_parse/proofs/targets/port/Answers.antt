use Rattle.act_parse.proofs.Loops.{stuck_after}
use Rattle.act_parse.proofs.targets.port.Goals as goal

pub returns-in_err-rest-clause-reads : goal.returns-in_err-rest-clause-reads
returns-in_err-rest-clause-reads c =
    rw (c.if-has_port.true) (stuck_after c.from_residual.result _ _ _ c.from_residual.ensures.1 c.in_err-rest.ensures.reads)

pub returns-in_err-port-clause-reads : goal.returns-in_err-port-clause-reads
returns-in_err-port-clause-reads c =
    rw (c.if-has_port.true, c.in_ok-rest.ensures.reads) (stuck_after c.from_residual-in_err-port.result _ _ _ c.from_residual-in_err-port.ensures.1 c.in_err-port.ensures.reads)
