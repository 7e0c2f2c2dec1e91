use Rattle.std.specs.Map.Iter.{deref_pair}
use Rattle.std.proofs.lemmas.Map.Iter.{rest_more, rest_all}
use Rattle.sb_rows.proofs.PlacedParts.{first_between, none_between}
use Rattle.sb_rows.proofs.table.place_of_first.Goals as goal

pub returns-in-Some-clause-first : goal.returns-in-Some-clause-first
returns-in-Some-clause-first c =
    first_between c.args.rows.now c.args.low c.args.high c.range.result c.range.ensures.ordered (c.range.ensures.in_range tt) _ _ (rest_more deref_pair _ _ _ (c.in-Some.place, c.in-Some.field-0-1) c.in-Some.is c.next.ensures.steps)

pub returns-in-None-clause-none : goal.returns-in-None-clause-none
returns-in-None-clause-none c =
    λ _. none_between c.args.rows.now c.args.low c.args.high c.range.result c.range.ensures.ordered (c.range.ensures.in_range tt) (rest_all deref_pair _ _ _ c.in-None.is c.next.ensures.steps)
