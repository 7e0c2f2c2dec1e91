use Rattle.std.proofs.Common.{◌≡◌, ◌++◌, map, Bor}
use Rattle.sb_model.specs.declared.row.Row.{Row}
use Rattle.sb_rows.proofs.table.Table.put_last.Given as goal

-- the rows that are left still go after those of the list
abbrev pub invariant-loop-stored : goal.invariant-loop-stored
invariant-loop-stored l =
    map (λ (r : Bor Row). r.now) l.list.items ++ l.stored-iterator ≡ map (λ (r : Bor Row). r.now) l.initial.list.items ++ l.self
