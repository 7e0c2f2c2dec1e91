use Rattle.std.proofs.Common.{◌≡◌, take}
use Rattle.nb_records.specs.Tags.{named_tags}
use Rattle.nb_records.proofs.named.named_tags.Given as goal

abbrev pub invariant-loop-object : goal.invariant-loop-object
invariant-loop-object l = l.tags ≡ named_tags l.name (take l.object-index l.listed)
