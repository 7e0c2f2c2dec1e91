use Rattle.std.proofs.Common.{◌≡◌, List, None, sym, ap, subst, ◌∙◌}
use Rattle.std.specs.Prelude.{find}
use Rattle.expr_eval.specs.MatchMeaning.{holds}
use Rattle.std.specs.Option.{option_copied}
use Rattle.sb_model.specs.declared.row.Row.{Row}
use Rattle.sb_rows.specs.Match.{select}
use Rattle.sb_rows.proofs.Flat.{select_flat, select_nothing}
use Rattle.sb_rows.proofs.rows.Rows.select.Goals as goal

pub returns-in_err-get : goal.returns-in_err-get
returns-in_err-get g c =
    ap option_copied c.from_residual.ensures
    ∙ sym (subst (λ (rows : List Row). select c.args.dp c.args.stage (g.E.Env.lookup c.args.env.now) c.args.packet.now rows ≡ None) c.self.view_is
    (select_nothing c.args.dp c.args.stage (g.E.Env.lookup c.args.env.now) c.args.packet.now c.self.inside.tables.entries c.self.invariant.tables (sym (rw c.table_key.ensures at c.in_err-get.ensures.value))))

pub returns : goal.returns
returns g c =
    c.first.ensures
    ∙ sym (subst (λ (rows : List Row). select c.args.dp c.args.stage (g.E.Env.lookup c.args.env.now) c.args.packet.now rows ≡ find (λ r. holds (g.E.Env.lookup c.args.env.now) c.args.packet.now r.matching) c.in_ok-get.field-0.now) c.self.view_is
    (select_flat c.args.dp c.args.stage (g.E.Env.lookup c.args.env.now) c.args.packet.now c.self.inside.tables.entries c.in_ok-get.field-0.now c.self.invariant.tables (sym (rw c.table_key.ensures at c.in_ok-get.ensures.value))))
