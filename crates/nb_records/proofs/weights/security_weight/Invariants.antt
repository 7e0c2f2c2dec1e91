use Rattle.std.proofs.Common.{◌≡◌, ◌-◌, ◌^◌, take, map, sum, min}
use Rattle.nb_records.specs.Tags.{guard_count}
use Rattle.nb_records.proofs.weights.security_weight.Given as goal

abbrev pub invariant-loop-guard : goal.invariant-loop-guard
invariant-loop-guard l = l.total ≡ min (sum (map guard_count (take l.guard-index l.security))) (2 ^ 64 - 1)
