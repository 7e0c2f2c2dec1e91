use Rattle.tr_router.proofs.Ends as routers
use Rattle.tr_walk.proofs.Ends.{runnable, switch_runs}
use Rattle.tr_walk.proofs.laws.rows_of_networks_are_runnable.Goals as goal

pub returns-clause-switches : goal.returns-clause-switches
returns-clause-switches c net sound switch there = switch_runs net sound switch there ((runnable net sound).switches switch there)

pub returns-clause-routers : goal.returns-clause-routers
returns-clause-routers c net sound router there = routers.runnable net sound router there

pub returns-clause-walks : goal.returns-clause-walks
returns-clause-walks c = runnable
