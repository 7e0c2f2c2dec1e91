use Rattle.nd_router.proofs.All.{on_each}
use Rattle.nd_router.proofs.laws.rows_of_routers_are_those_on_each.Goals as goal

pub returns : goal.returns
returns c = on_each
