use Rattle.sb_rows.proofs.PlacedParts.{last_between, none_between, back_more, back_all}
use Rattle.sb_rows.proofs.table.place_of_last.Goals as goal

pub returns-in-Some-clause-last : goal.returns-in-Some-clause-last
returns-in-Some-clause-last c =
    last_between c.args.rows.now c.args.low c.args.high c.range.result c.range.ensures.ordered (c.range.ensures.in_range tt) _ _ (back_more _ _ _ (c.in-Some.place, c.in-Some.field-0-1) c.in-Some.is c.next_back.ensures.steps)

pub returns-in-None-clause-none : goal.returns-in-None-clause-none
returns-in-None-clause-none c =
    λ _. none_between c.args.rows.now c.args.low c.args.high c.range.result c.range.ensures.ordered (c.range.ensures.in_range tt) (back_all _ _ _ c.in-None.is c.next_back.ensures.steps)
