use Rattle.sb_rows.proofs.Asked.{comparison_adds}
use Rattle.sb_rows.proofs.asks.Asks.with_comparison.Goals as goal

pub returns-in-Whole-Eq-clause-adds : goal.returns-in-Whole-Eq-clause-adds
returns-in-Whole-Eq-clause-adds c =
    rw (c.in-Whole-Eq.is-0, c.in-Whole-Eq.is-1) (comparison_adds c.args.field c.args.right.now c.args.self c.with_right.result c.with_right.ensures.adds)
