use Rattle.std.proofs.lemmas.List.Sorted.{Contains-permutation}
use Rattle.sb_rows.proofs.filled.Filled.of.Goals as goal

pub invariant_of-result : goal.invariant_of-result
invariant_of-result c = c.sort_unstable.ensures.sorted

pub returns : goal.returns
returns c x there = Contains-permutation _ _ x c.sort_unstable.ensures.permutation there
