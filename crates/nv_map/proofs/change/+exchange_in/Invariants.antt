use Rattle.std.proofs.Common.{length}
use Rattle.nv_map.specs.Node.{tree_entries}
use Rattle.nv_map.proofs.change.+exchange_in.Given as goal

abbrev pub decreases-exchange_in : goal.decreases-exchange_in
decreases-exchange_in g l = length (tree_entries l.tree.now)
