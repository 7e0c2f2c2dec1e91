use Rattle.std.proofs.Common.{[], ◌∷◌, ◌++◌, ap, ◌∙◌}
use Rattle.net_rows.specs.Unit.{row_of}
use Rattle.lr_in.proofs.port_in.put_admitting_rules.Goals as goal

pub returns : goal.returns
returns c =
    rw c.if-not-input.false
    (c.in_ok-put.ensures.ok ∙ ap (λ r. c.args.rows.now ++ row_of c.args.unit r ∷ []) c.in_ok-admitting_rule.ensures)
