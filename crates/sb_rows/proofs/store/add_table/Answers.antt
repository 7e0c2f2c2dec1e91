use Rattle.std.proofs.Common.{◌≡◌, List, subst, sym, ◌∙◌, ap, ◌++◌, ◌∷◌, []}
use Rattle.sb_model.specs.declared.row.Row.{Row}
use Rattle.sb_rows.specs.inner.Store.{AreTables, flat}
use Rattle.sb_rows.proofs.Made.{below_last, flat_last, tables_last}
use Rattle.sb_rows.proofs.store.add_table.Goals as goal

pub of-requires-clause-key : goal.of-requires-clause-key
of-requires-clause-key c = (c.args.key, c.requires.keyed)

made : (c : goal.In_ok-push) → c.push.new.self.items ≡ c.args.tables.now.items ++ (c.args.key, c.args.rows.items) ∷ []
made c = c.in_ok-push.ensures.items ∙ ap (λ (rows : List Row). c.args.tables.now.items ++ (c.args.key, rows) ∷ []) c.in_ok-of.ensures

pub returns-clause-tables : goal.returns-clause-tables
returns-clause-tables c = subst AreTables (sym (made c)) (tables_last c.args.key c.args.rows.items c.args.tables.now.items c.requires.tables c.requires.above c.requires.keyed)

pub returns-clause-rows : goal.returns-clause-rows
returns-clause-rows c = ap flat (made c) ∙ flat_last c.args.key c.args.rows.items c.args.tables.now.items

pub returns-clause-below : goal.returns-clause-below
returns-clause-below c next lt = rw (made c) (below_last c.args.key next c.args.rows.items c.args.tables.now.items lt c.requires.above)
