use Rattle.std.proofs.Common.{◌∙◌, subst, refl, Some}
use Rattle.sb_rows.specs.inner.Index.{IsCovered}
use Rattle.sb_rows.proofs.PlacedPut.{added, covers_kept, covers_none, covers_put, covers_some, rows_are_put, table_alike, table_put, table_with}
use Rattle.sb_rows.proofs.table.put_at.Goals as goal
use Rattle.sb_rows.proofs.table.put_at.Goals.{in-Some+else-is_err, in_default}

pub returns-then-is_err-clause-table : goal.returns-then-is_err-clause-table
returns-then-is_err-clause-table c =
    table_with c.args.rows.now.entries c.args.index.now (Some c.add.new.self) c.requires.table (covers_some c.args.rows.now.entries (Some c.add.new.self) c.add.new.self refl (covers_kept c.args.rows.now.entries c.in-Some.kept c.add.new.self (c.requires.table.covered c.in-Some.kept c.in-Some.is) c.add.ensures.kept))

pub returns-in_err-insert-clause-table : goal.returns-in_err-insert-clause-table
returns-in_err-insert-clause-table c =
    table_alike c.args.rows.now.entries c.insert.new.self.entries c.match-index.index c.in_err-insert.ensures.err
    (table_with c.args.rows.now.entries c.args.index.now c.match-index.index c.requires.table
    (elim c.match-index.branch [
      | in-Some+else-is_err w ↦ covers_some c.args.rows.now.entries c.match-index.index w.add.new.self w.index-is
          (covers_kept c.args.rows.now.entries w.in-Some.kept w.add.new.self (c.requires.table.covered w.in-Some.kept w.in-Some.is) w.add.ensures.kept)
      | in_default w ↦ covers_none c.args.rows.now.entries c.match-index.index (w.index-is ∙ w.in_default.is)
    ]))

pub returns-clause-table : goal.returns-clause-table
returns-clause-table c =
    let e = c.in_ok-insert.ensures in
    table_put c.args.rows.now c.insert.new.self c.args.place c.args.row e.was_ordered e.ordered e.updates e.entries c.requires.goes c.match-index.index c.requires.table.placed c.requires.table.ordered
    (elim c.match-index.branch [
      | in-Some+else-is_err w ↦ covers_some c.insert.new.self.entries c.match-index.index w.add.new.self w.index-is
          (covers_put c.args.rows.now c.insert.new.self c.args.place c.args.row e.was_ordered e.ordered e.updates e.entries c.requires.goes w.add.new.self
          (subst (λ r. IsCovered r c.args.place w.add.new.self) w.row.ensures (added w.add.result _ w.is_err.result w.is_err.ensures.value w.if-is_err.false w.add.ensures.added))
          (covers_kept c.args.rows.now.entries w.in-Some.kept w.add.new.self (c.requires.table.covered w.in-Some.kept w.in-Some.is) w.add.ensures.kept))
      | in_default w ↦ covers_none c.insert.new.self.entries c.match-index.index (w.index-is ∙ w.in_default.is)
    ])

pub returns-clause-ok : goal.returns-clause-ok
returns-clause-ok c =
    let e = c.in_ok-insert.ensures in
    rows_are_put c.args.rows.now c.insert.new.self c.args.place c.args.row e.was_ordered e.ordered e.updates e.entries c.requires.goes
