use Rattle.std.proofs.Common.{◌≡◌, drop}
use Rattle.nv_reply.specs.inner.StruckObjects.{struck_router_ports}
use Rattle.nv_reply.proofs.strike.strike_router_ports.Given as goal

-- the ports that are left are struck out of this state as all were of the first
abbrev pub invariant-loop-port : goal.invariant-loop-port
invariant-loop-port l = struck_router_ports (drop l.port-index l.ports) l.state ≡ struck_router_ports l.ports l.initial.state
