use Rattle.std.proofs.Common.{◌∙◌, ap}
use Rattle.std.specs.Ordering.{is_gt}
use Rattle.sb_rows.proofs.Order.{after_by_text, greater_is_after, less_is_not_after}
use Rattle.sb_rows.proofs.by_text.Rooms.is_after.Goals as goal

pub returns-in-Less : goal.returns-in-Less
returns-in-Less c = less_is_not_after _ _ c.in-Less.ensures

pub returns-in-Greater : goal.returns-in-Greater
returns-in-Greater c = greater_is_after _ _ c.in-Greater.ensures

pub returns-in_ok-order-in-Equal : goal.returns-in_ok-order-in-Equal
returns-in_ok-order-in-Equal c =
    let order = rw (c.row.ensures, c.row-in-Equal.ensures) at c.in_ok-order-in-Equal.ensures in
    c.is_gt.ensures ∙ ap is_gt order ∙ after_by_text _ _ c.in-Equal.ensures
