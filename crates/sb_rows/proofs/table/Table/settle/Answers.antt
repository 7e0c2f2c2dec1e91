use Rattle.std.proofs.Common.{Some, refl}
use Rattle.sb_rows.proofs.PlacedPut.{covers_folded, covers_some, table_with}
use Rattle.sb_rows.proofs.table.Table.settle.Goals as goal
use Rattle.sb_rows.proofs.table.Table.settle.Goals.{in-Some, in_default}

pub invariant_of-self : goal.invariant_of-self
invariant_of-self c =
    let rows = c.self.inside.rows.entries in
    let is = c.self.invariant in
    elim c.match-self.branch [
      | in-Some w ↦ rw w.self-inside-is
          (table_with rows c.self.inside.index (Some w.fold.new.self) is
          (covers_some rows (Some w.fold.new.self) w.fold.new.self refl
          (covers_folded rows w.in-Some.index w.fold.new.self (is.covered w.in-Some.index w.in-Some.is) w.fold.ensures)))
      | in_default w ↦ rw w.self-inside-is is
    ]
