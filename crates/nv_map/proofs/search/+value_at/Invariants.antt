use Rattle.std.proofs.Common.{length}
use Rattle.nv_map.specs.Node.{tree_entries}
use Rattle.nv_map.proofs.search.+value_at.Given as goal

abbrev pub decreases-value_at : goal.decreases-value_at
decreases-value_at g l = length (tree_entries l.tree.now)
