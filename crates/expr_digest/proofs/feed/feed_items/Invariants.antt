use Rattle.expr_digest.proofs.Left.{ItemsLeft}
use Rattle.expr_digest.proofs.feed.feed_items.Given as goal

abbrev pub invariant-loop-item : goal.invariant-loop-item
invariant-loop-item l = ItemsLeft l.fn.state l.state l.items l.item-index
