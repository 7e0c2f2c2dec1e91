use Rattle.std.proofs.Common.{ap, sym, ◌∙◌}
use Rattle.std.specs.Map.Iter.{deref_pair}
use Rattle.std.proofs.lemmas.Bool.{false≢true}
use Rattle.std.proofs.lemmas.Map.Iter.{rest_more, rest_all}
use Rattle.sb_rows.specs.inner.Store.{first_place}
use Rattle.sb_rows.proofs.PlacedRank.{in_rank, still_there, found_there, nowhere}
use Rattle.sb_rows.proofs.table.place_in_rank.Goals as goal

pub loop-place-init : goal.loop-place-init
loop-place-init c =
    in_rank c.args.rows.now.entries c.into_iter-place-iterator.result c.args.row.now c.first_place-first.result c.requires (c.first_place-first.ensures ∙ ap first_place c.rank_key.ensures.key)
    (c.into_iter-place-iterator.ensures.into_iter_gives ∙ c.range-place-items.ensures.between tt)

pub returns-then-is_same-clause-there : goal.returns-then-is_same-clause-there
returns-then-is_same-clause-there c =
    found_there c.args.rows.now.entries c.loop-place.place-iterator c.next.new.self c.args.row.now c.in-Some.stored.now c.in-Some.place.now
    (rest_more deref_pair _ _ _ (c.in-Some.place, c.in-Some.stored) c.in-Some.is c.next.ensures.steps) (sym c.row.ensures ∙ c.is_same.ensures.0 c.if-is_same.true) c.loop-place.invariant

pub loop-place-preserved : goal.loop-place-preserved
loop-place-preserved c =
    still_there c.args.rows.now.entries c.loop-place.place-iterator c.next.new.self c.args.row.now (c.in-Some.place.now, c.in-Some.stored.now)
    (rest_more deref_pair _ _ _ (c.in-Some.place, c.in-Some.stored) c.in-Some.is c.next.ensures.steps)
    (λ same. false≢true (sym c.if-is_same.false ∙ c.is_same.ensures.1 (c.row.ensures ∙ same))) c.loop-place.invariant

pub returns-clause-absent : goal.returns-clause-absent
returns-clause-absent c =
    λ _. nowhere c.args.rows.now.entries c.loop-place.place-iterator c.args.row.now (rest_all deref_pair _ _ _ c.in-None.is c.next.ensures.steps) c.loop-place.invariant
