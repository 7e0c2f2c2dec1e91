use Rattle.std.proofs.Common.{◌≡◌, map, take}
use Rattle.net_rows.specs.LoadBalancers.{target_of}
use Rattle.net_rows.proofs.vip.targets_of.Given as goal

-- the targets are those of the backends so far
abbrev pub invariant-loop-backend : goal.invariant-loop-backend
invariant-loop-backend l = l.targets ≡ map target_of (take l.backend-index l.backends)
