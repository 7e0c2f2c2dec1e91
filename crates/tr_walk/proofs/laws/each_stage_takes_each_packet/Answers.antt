use Rattle.tr_router.proofs.Ends.{router_takes_each}
use Rattle.tr_walk.proofs.Ends.{switch_takes_each}
use Rattle.tr_walk.proofs.laws.each_stage_takes_each_packet.Goals as goal

pub returns-clause-switches : goal.returns-clause-switches
returns-clause-switches c = switch_takes_each

pub returns-clause-routers : goal.returns-clause-routers
returns-clause-routers c = router_takes_each
