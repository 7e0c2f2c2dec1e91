use Rattle.std.proofs.Common.{List, Some, refl, subst}
use Rattle.sb_model.specs.declared.row.Row.{Row}
use Rattle.sb_rows.specs.Row.{IsWithout}
use Rattle.sb_rows.specs.inner.Store.{rows_of_places}
use Rattle.sb_rows.proofs.PlacedPut.{covers_none, covers_some, covers_struck, rows_without, table_taken}
use Rattle.sb_rows.proofs.table.Table.take.Goals as goal
use Rattle.sb_rows.proofs.table.Table.take.Goals.{in-Some-index, in_default-index}

pub invariant_of-self : goal.invariant_of-self
invariant_of-self c =
    let old = c.self.inside.rows in
    let new = c.remove.new.self in
    let is = c.self.invariant in
    let e = c.remove.ensures in
    elim c.match-self.branch [
      | in-Some-index w ↦ rw w.self-inside-is
          (table_taken old new c.in-Some.place c.args.row.now c.in-Some.ensures.there is.placed.rise e.ordered e.updates e.entries (Some w.strike.new.self) is.placed is.ordered
          (covers_some new.entries (Some w.strike.new.self) w.strike.new.self refl
          (covers_struck old new c.in-Some.place c.args.row.now c.in-Some.ensures.there is.placed.rise e.ordered e.updates e.entries w.in-Some-index.index w.strike.new.self (is.covered w.in-Some-index.index w.in-Some-index.is) w.strike.ensures)))
      | in_default-index w ↦ rw w.self-inside-is
          (table_taken old new c.in-Some.place c.args.row.now c.in-Some.ensures.there is.placed.rise e.ordered e.updates e.entries c.self.inside.index is.placed is.ordered
          (covers_none new.entries c.self.inside.index w.in_default-index.is))
    ]

pub returns-clause-taken : goal.returns-clause-taken
returns-clause-taken c =
    let old = c.self.inside.rows in
    let new = c.remove.new.self in
    let e = c.remove.ensures in
    let without = subst (λ (xs : List Row). IsWithout c.args.row.now xs (rows_of_places new.entries)) c.self.view_is (rows_without old new c.in-Some.place c.args.row.now c.in-Some.ensures.there c.self.invariant.placed.rise e.ordered e.updates e.entries) in
    elim c.match-self.branch [
      | in-Some-index w ↦ rw w.self-inside-is without
      | in_default-index w ↦ rw w.self-inside-is without
    ]
