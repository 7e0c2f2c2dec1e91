use Rattle.std.proofs.Common.{sym, subst, arith}
use Rattle.sb_rows.specs.Row.{AreRows, IsWithout}
use Rattle.sb_rows.specs.inner.Store.{flat}
use Rattle.sb_rows.proofs.Made.{without_are_rows, without_is_shorter}
use Rattle.sb_rows.proofs.rows.Rows.take.Goals as goal

pub invariant_of-self-2 : goal.invariant_of-self-2
invariant_of-self-2 c =
    let taken : IsWithout c.args.row.now (flat c.self.inside.tables.entries) (flat c.take_from.new.tables.entries) = c.if-not-take_from.ensures.taken in
    record {
      tables = c.drop_empty.ensures.tables;
      rows = subst AreRows (sym c.drop_empty.ensures.rows) (without_are_rows c.args.row.now (flat c.self.inside.tables.entries) (flat c.take_from.new.tables.entries) taken c.self.invariant.rows);
      counted = rw c.drop_empty.ensures.rows (omega (arith, without_is_shorter c.args.row.now (flat c.self.inside.tables.entries) (flat c.take_from.new.tables.entries) taken, c.self.invariant.counted));
    }
