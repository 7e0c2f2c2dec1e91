use Rattle.std.proofs.Common.{◌∙◌}
use Rattle.sb_rows.proofs.Place.{put_row_at}
use Rattle.sb_rows.proofs.by_text.put_in_place.Goals as goal

pub returns-in_ok-insert-in-Ok-clause-ok : goal.returns-in_ok-insert-in-Ok-clause-ok
returns-in_ok-insert-in-Ok-clause-ok c =
    let point = rw c.deref.ensures.value at c.in-Ok.ensures.point in
    let bound = rw c.deref.ensures.value at c.in-Ok.ensures.bound in
    c.in_ok-insert-in-Ok.ensures.items ∙ put_row_at c.args.row c.args.rows.now.items c.in-Ok.at bound point
