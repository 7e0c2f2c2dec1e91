use Rattle.std.proofs.Common.{◌≡◌, max, length, drop}
use Rattle.nb_model.specs.Amounts.{greatest}
use Rattle.nb_limits.proofs.balancer_limits.most_backends.Given as goal

-- the most so far, with those that are left
abbrev pub invariant-loop-vip : goal.invariant-loop-vip
invariant-loop-vip l = max l.most (greatest (λ vip. length vip.backends) (drop l.vip-index l.lb.vips)) ≡ greatest (λ vip. length vip.backends) l.lb.vips
