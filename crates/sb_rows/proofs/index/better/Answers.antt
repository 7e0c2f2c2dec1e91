use Rattle.std.proofs.Common.{ap, sym, ◌∙◌}
use Rattle.std.specs.Option.{option_copied}
use Rattle.sb_rows.proofs.IndexFirst.{row_found, tried_in_none, tried_in_vain}
use Rattle.sb_rows.proofs.index.better.Goals as goal

pub returns-in-Some-clause-taker : goal.returns-in-Some-clause-taker
returns-in-Some-clause-taker g c =
    rw c.row.ensures (row_found c.args.rows.now c.args.place c.in-Some.stored.now c.requires.placed.rise (sym c.in-Some.ensures), sym c.takes.ensures ∙ c.if-takes.true)

pub returns-in_default-clause-tried : goal.returns-in_default-clause-tried
returns-in_default-clause-tried g c =
    tried_in_vain c.args.rows.now (g.E.Env.lookup c.args.env.now) c.args.packet.now c.args.best c.args.place c.in-Some.stored.now c.requires.placed.rise (sym c.in-Some.ensures) (sym c.takes.ensures ∙ c.if-takes.false)

pub returns-in_default-2-clause-tried : goal.returns-in_default-2-clause-tried
returns-in_default-2-clause-tried g c =
    tried_in_none c.args.rows.now (g.E.Env.lookup c.args.env.now) c.args.packet.now c.args.best c.args.place c.requires.placed.rise (sym c.stored_at.ensures ∙ ap option_copied c.in_default.is)
