use Rattle.std.proofs.Common.{subst, sym, ◌∙◌, arith}
use Rattle.sb_rows.specs.Row.{AreRows}
use Rattle.sb_rows.specs.inner.Store.{flat}
use Rattle.sb_rows.proofs.Made.{nothing_by_length}
use Rattle.sb_rows.proofs.Without.{left_out, none_left_out}
use Rattle.sb_rows.proofs.rows.Rows.leave_out.Goals as goal

pub returns-then-self-gt0 : goal.returns-then-self-gt0
returns-then-self-gt0 c =
    left_out c.args.row.now c.args.self.now c.take.new.self c.take.result (subst AreRows c.self.view_is c.self.invariant.rows) c.take.ensures.there c.take.ensures.taken c.take.ensures.kept

pub returns-else-self-gt0 : goal.returns-else-self-gt0
returns-else-self-gt0 c =
    none_left_out c.args.row.now c.args.self.now (sym c.self.view_is ∙ nothing_by_length (flat c.self.inside.tables.entries) (omega (arith, c.self.invariant.counted)))
