use Rattle.std.proofs.Common.{◌≡◌, take}
use Rattle.std.specs.List.{list_any}
use Rattle.nb_records.specs.Longer.{same_number}
use Rattle.nb_records.proofs.numbers.places.is_in_run.Given as goal

abbrev pub invariant-loop-other : goal.invariant-loop-other
invariant-loop-other l = l.is_found ≡ list_any (same_number l.number) (take l.other-index l.run)
