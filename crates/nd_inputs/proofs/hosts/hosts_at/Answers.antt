use Rattle.nd_inputs.proofs.Sound.{ports_rise}
use Rattle.nd_inputs.proofs.hosts.hosts_at.Goals as goal

pub peer_router_port-requires-clause-rise : goal.peer_router_port-requires-clause-rise
peer_router_port-requires-clause-rise c = ports_rise c.args.records.now c.requires.sound
