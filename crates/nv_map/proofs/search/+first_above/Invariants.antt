use Rattle.std.proofs.Common.{length}
use Rattle.nv_map.specs.Node.{tree_entries}
use Rattle.nv_map.proofs.search.+first_above.Given as goal

abbrev pub decreases-first_above : goal.decreases-first_above
decreases-first_above g l = length (tree_entries l.tree.now)
