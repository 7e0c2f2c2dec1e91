use Rattle.std.proofs.Common.{◌≡◌, sym, subst, arith}
use Rattle.sb_rows.specs.Row.{AreRows, put_row}
use Rattle.sb_rows.specs.inner.Store.{flat}
use Rattle.sb_rows.proofs.Distinct.{put_keeps_rows}
use Rattle.sb_rows.proofs.Made.{put_is_longer}
use Rattle.sb_rows.proofs.rows.Rows.put_stored.Goals as goal

pub invariant_of-self-2 : goal.invariant_of-self-2
invariant_of-self-2 c =
    let there : flat c.put_in.new.tables.entries ≡ put_row c.args.row (flat c.self.inside.tables.entries) = c.in_ok-put_in.ensures.ok in
    record {
      tables = c.in_ok-put_in.ensures.tables;
      rows = subst AreRows (sym there) (put_keeps_rows c.args.row (flat c.self.inside.tables.entries) (rw (← c.self.view_is) at c.requires.absent) c.requires.typed c.self.invariant.rows);
      counted = rw there (omega (arith, put_is_longer c.args.row (flat c.self.inside.tables.entries), c.in-Some.ensures, c.self.invariant.counted));
    }
