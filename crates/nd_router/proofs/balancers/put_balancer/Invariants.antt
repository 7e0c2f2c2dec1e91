use Rattle.std.proofs.Common.{◌≡◌, ◌++◌, take}
use Rattle.std.specs.List.{flat_map}
use Rattle.nd_router.specs.inner.Made.{vip_rows}
use Rattle.nd_router.proofs.balancers.put_balancer.Given as goal

-- the rows of the VIPs so far are after what was there
abbrev pub invariant-loop-vip : goal.invariant-loop-vip
invariant-loop-vip l = l.rows ≡ l.initial.rows ++ flat_map (vip_rows l.router l.lb) (take l.vip-index l.vip-items)
