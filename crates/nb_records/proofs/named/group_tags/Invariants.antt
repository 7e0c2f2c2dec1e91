use Rattle.std.proofs.Common.{◌≡◌, take}
use Rattle.nb_records.specs.Tags.{named_tags}
use Rattle.nb_records.proofs.named.group_tags.Given as goal

abbrev pub invariant-loop-at : goal.invariant-loop-at
invariant-loop-at l = l.tags ≡ named_tags l.name (take l.at l.ports)
