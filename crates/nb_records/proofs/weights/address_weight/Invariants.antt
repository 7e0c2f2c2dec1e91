use Rattle.std.proofs.Common.{◌≡◌, ◌-◌, ◌^◌, take, map, sum, min}
use Rattle.nb_records.specs.Tags.{address_count}
use Rattle.nb_records.proofs.weights.address_weight.Given as goal

abbrev pub invariant-loop-addr : goal.invariant-loop-addr
invariant-loop-addr l = l.total ≡ min (sum (map address_count (take l.addr-index l.addresses))) (2 ^ 64 - 1)
