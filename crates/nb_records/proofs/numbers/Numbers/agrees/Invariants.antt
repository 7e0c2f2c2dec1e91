use Rattle.std.proofs.Common.{◌≡◌, ◌≤◌, ◌-◌, true, take, drop}
use Rattle.std.specs.Cmp.Lexicographic.{pointwise}
use Rattle.nb_records.specs.Longer.{same_number}
use Rattle.nb_records.proofs.numbers.Numbers.agrees.Given as goal

abbrev pub invariant-loop-done : goal.invariant-loop-done
invariant-loop-done l = record {
  within : l.done ≤ l.count;
  so_far : pointwise same_number (take l.done (drop l.at l.self)) (take l.done (drop l.place l.other)) ≡ true;
}

abbrev pub decreases-loop-done : goal.decreases-loop-done
decreases-loop-done l = l.count - l.done
