use Rattle.std.proofs.Common.{◌∙◌, refl}
use Rattle.sb_rows.proofs.Apart.{told_by}
use Rattle.sb_rows.proofs.by_text.Rooms.match_order.Goals as goal

pub returns-then-are_apart : goal.returns-then-are_apart
returns-then-are_apart c =
    let apart = rw (c.in_ok-write.ensures.one, c.in_ok-write.ensures.other) at (c.if-are_apart.ensures refl) in
    let order = rw (c.in_ok-write.ensures.one, c.in_ok-write.ensures.other) at c.order.ensures in
    order ∙ told_by _ _ _ _ c.in-Some.ensures apart
