use Rattle.tr_router.proofs.Ends.{runnable}
use Rattle.tr_router.proofs.laws.rows_of_routers_are_runnable.Goals as goal

pub returns : goal.returns
returns c = runnable
