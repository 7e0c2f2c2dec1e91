use Rattle.std.proofs.Common.{◌≡◌, take}
use Rattle.nv_base.proofs.kept.ItemsKept.copy.Given as goal

abbrev pub invariant-loop-item : goal.invariant-loop-item
invariant-loop-item g l = l.copied ≡ take l.item-index l.item-items
