use Rattle.std.proofs.Common.{length}
use Rattle.nv_map.specs.Node.{tree_entries}
use Rattle.nv_map.proofs.change.+put_into.Given as goal

abbrev pub decreases-put_into : goal.decreases-put_into
decreases-put_into g l = length (tree_entries l.tree)
