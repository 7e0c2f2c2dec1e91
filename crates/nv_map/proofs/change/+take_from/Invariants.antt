use Rattle.std.proofs.Common.{length}
use Rattle.nv_map.specs.Node.{tree_entries}
use Rattle.nv_map.proofs.change.+take_from.Given as goal

abbrev pub decreases-take_from : goal.decreases-take_from
decreases-take_from g l = length (tree_entries l.tree)
