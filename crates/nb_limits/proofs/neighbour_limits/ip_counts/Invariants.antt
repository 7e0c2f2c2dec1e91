use Rattle.std.proofs.Common.{drop}
use Rattle.nb_model.specs.Amounts.{total, ip_count}
use Rattle.nb_limits.proofs.Sums.{IsSumSoFar}
use Rattle.nb_limits.proofs.neighbour_limits.ip_counts.Given as goal

-- the sum so far, of those addresses that have been looked at
abbrev pub invariant-loop-addr : goal.invariant-loop-addr
invariant-loop-addr l = IsSumSoFar ip_count l.bound l.sum (drop l.addr-index l.addresses) (total ip_count l.addresses)
