use Rattle.net_router.proofs.SwitchesAlone.{switches_alone}
use Rattle.net_router.proofs.laws.networks_without_routers_do_what_their_switches_do.Goals as goal

pub returns : goal.returns
returns c = switches_alone
