use Rattle.std.proofs.Common.{◌≡◌, ◌++◌, take}
use Rattle.std.specs.List.{flat_map}
use Rattle.nd_full.specs.inner.Made.{vip_unit}
use Rattle.nd_full.proofs.balancers.add_rows_of_balancer.Given as goal

-- the rows of the VIPs so far come after the others
abbrev pub invariant-loop-vip : goal.invariant-loop-vip
invariant-loop-vip l = l.made ≡ l.initial.made ++ flat_map (vip_unit l.switch l.lb) (take l.vip-index l.vip-items)
