use Rattle.std.proofs.Common.{◌≡◌, [], ◌++◌, drop}
use Rattle.nv_base.specs.Growth.{GrowsAtEnd}
use Rattle.expr_core.specs.Text.{items_text}
use Rattle.expr_core.proofs.text.right.put_items.Given as goal

-- with the text of the items that are left, what is there is the whole
abbrev pub invariant-loop-item : goal.invariant-loop-item
invariant-loop-item l = record {
  grown : GrowsAtEnd l.fn.out.items l.out.items;
  whole : l.out.items ++ items_text l.front (drop l.item-index l.items) ≡ l.fn.out.items ++ items_text [] l.items;
}
