use Rattle.tr_router.proofs.Egress.{do_leave, do_leave_late}
use Rattle.tr_router.proofs.Ingress.{do_arrive}
use Rattle.tr_router.proofs.laws.pipelines_of_routers_do_their_parts.Goals as goal

pub returns-clause-arrive : goal.returns-clause-arrive
returns-clause-arrive c = do_arrive

pub returns-clause-leave : goal.returns-clause-leave
returns-clause-leave c = do_leave

pub returns-clause-late : goal.returns-clause-late
returns-clause-late c = do_leave_late
