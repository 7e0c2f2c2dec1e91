use Rattle.std.proofs.Common.{ℕ, List, [], ◌∷◌, ◌++◌, map, sym, subst, ◌∙◌}
use Rattle.std.specs.Map.Iter.{deref_pair}
use Rattle.std.proofs.lemmas.List.{map-append}
use Rattle.std.proofs.lemmas.Map.Iter.{iter_end}
use Rattle.sb_model.specs.declared.row.Row.{Row}
use Rattle.sb_rows.specs.inner.Told.{AreTold}
use Rattle.sb_rows.proofs.ToldRows.{told_next}
use Rattle.sb_rows.proofs.index.told_of.Goals as goal

pub loop-place-preserved : goal.loop-place-preserved
loop-place-preserved c =
    rw c.in_ok-push.ensures.items
    (subst (λ (l : List (ℕ × Row)). AreTold (c.loop-place.told.items ++ record { place = c.in-Some.place.now; asks = c.of-asks.result } ∷ []) l) (sym (map-append deref_pair c.loop-place.yielded ((c.in-Some.place, c.in-Some.stored) ∷ [])))
    (told_next c.loop-place.told.items (map deref_pair c.loop-place.yielded) c.in-Some.place.now c.in-Some.stored.now c.of-asks.result (record { asked = λ net packet takes. c.of-asks.ensures.asked net packet (rw c.row.ensures takes); told = rw c.row.ensures at c.of-asks.ensures.told }) c.loop-place.invariant))

pub returns : goal.returns
returns c =
    let end = iter_end deref_pair c.args.rows.now.entries c.loop-place.yielded c.into_iter-place-iterator.result c.loop-place.place-iterator c.next.new.self c.next.result
    (c.into_iter-place-iterator.ensures.into_iter_gives ∙ c.iter-place-items.ensures.rest) c.loop-place.yielded_by c.in-None.is c.next.ensures.steps in
    subst (λ (l : List (ℕ × Row)). AreTold c.loop-place.told.items l) end.0 c.loop-place.invariant
