use Rattle.std.proofs.Common.{◌≡◌, ◌++◌, map, take}
use Rattle.nd_router.proofs.externals.add_each.Given as goal

-- the addresses of the VIPs so far are after what was there
abbrev pub invariant-loop-vip : goal.invariant-loop-vip
invariant-loop-vip l = l.addrs.items ≡ l.initial.addrs.items ++ map (λ vip. vip.at.addr) (take l.vip-index l.vips)
