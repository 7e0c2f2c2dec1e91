use Rattle.std.proofs.Common.{Some, refl, sym, ap, ◌∙◌}
use Rattle.std.proofs.lemmas.Option.{slice_get_past, slice_get_read}
use Rattle.sb_rows.proofs.row_list.RowList.get.Goals as goal

pub returns-in-Some : goal.returns-in-Some
returns-in-Some c =
    let found = rw (c.deref.ensures.value, c.self.view_is) at c.in-Some.ensures.lookup in
    ap Some c.row.ensures ∙ sym (slice_get_read _ _ _ _ refl found.3.0 found.1)

pub returns-in-None : goal.returns-in-None
returns-in-None c =
    let past = rw (c.deref.ensures.value, c.self.view_is) at c.in-None.ensures.lookup in
    sym (slice_get_past _ _ past.3)
