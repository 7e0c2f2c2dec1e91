use Rattle.std.proofs.Common.{◌≡◌, drop}
use Rattle.nv_reply.specs.inner.StruckObjects.{struck_routers}
use Rattle.nv_reply.proofs.strike.strike_routers.Given as goal

-- the routers that are left are struck out of this state as all were of the first
abbrev pub invariant-loop-router : goal.invariant-loop-router
invariant-loop-router l = struck_routers (drop l.router-index l.routers) l.state ≡ struck_routers l.routers l.initial.state
