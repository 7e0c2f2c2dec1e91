use Rattle.std.proofs.Common.{◌≡◌}
use Rattle.std.specs.List.{find}
use Rattle.sb_model.specs.declared.row.Row.{Row}
use Rattle.expr_eval.specs.MatchMeaning.{holds}
use Rattle.sb_rows.specs.inner.Store.{rows_of_places}
use Rattle.sb_rows.proofs.table.first_of.Given as goal

-- a search of the rows that are left finds what a search of all does
abbrev pub invariant-loop-stored : goal.invariant-loop-stored
invariant-loop-stored g l =
    find (λ (r : Row). holds (g.E.Env.lookup l.env) l.packet r.matching) l.stored-iterator
    ≡ find (λ (r : Row). holds (g.E.Env.lookup l.env) l.packet r.matching) (rows_of_places l.rows.entries)
