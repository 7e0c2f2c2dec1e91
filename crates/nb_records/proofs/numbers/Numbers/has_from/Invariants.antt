use Rattle.std.proofs.Common.{◌≡◌, ◌-◌, length, drop}
use Rattle.std.specs.List.{list_any}
use Rattle.nb_records.specs.Longer.{same_number}
use Rattle.nb_records.proofs.numbers.Numbers.has_from.Given as goal

-- it is not among those that were looked at
abbrev pub invariant-loop-at : goal.invariant-loop-at
invariant-loop-at l = list_any (same_number l.number) (drop l.fn.at l.self) ≡ list_any (same_number l.number) (drop l.at l.self)

abbrev pub decreases-loop-at : goal.decreases-loop-at
decreases-loop-at l = length l.self - l.at
