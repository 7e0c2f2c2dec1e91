use Rattle.std.proofs.Common.{◌≡◌, ℕ, List, [], ◌∷◌, ◌++◌, map, ap, sym, subst, ◌∙◌, append_assoc}
use Rattle.std.specs.Prelude.{Contains}
use Rattle.std.specs.Map.Iter.{deref}
use Rattle.std.proofs.lemmas.List.{append-nil, map-append}
use Rattle.std.proofs.lemmas.List.Elements.{Contains-append_left, Contains-append_right}
use Rattle.std.proofs.lemmas.List.Sorted.{Contains-permutation}
use Rattle.std.proofs.lemmas.Map.Iter.{iter_end}
use Rattle.sb_rows.proofs.Probed.{from_either}
use Rattle.sb_rows.proofs.filled.Filled.with.Goals as goal

pub invariant_of-result : goal.invariant_of-result
invariant_of-result c = c.in_ok-sort.ensures.sorted

pub loop-place-init : goal.loop-place-init
loop-place-init c =
    c.in_ok-extend_from_slice.ensures.items ∙ ap (λ (l : List (ℕ × ℕ)). l ++ c.deref.result.now) c.in_ok-places.ensures.items ∙ c.deref.ensures.value ∙ c.self.view_is ∙ sym (append-nil c.args.self.now)

pub loop-place-preserved : goal.loop-place-preserved
loop-place-preserved c =
    let last = c.in-Some.place.now ∷ [] in
    c.in_ok-push.ensures.items ∙ ap (λ (l : List (ℕ × ℕ)). l ++ last) c.loop-place.invariant ∙ append_assoc c.args.self.now (map deref c.loop-place.yielded) last
    ∙ ap (λ (l : List (ℕ × ℕ)). c.args.self.now ++ l) (sym (map-append deref c.loop-place.yielded (c.in-Some.place ∷ [])))

pub returns : goal.returns
returns c x held =
    let first = c.args.self.now in
    let keys = c.args.more.now.keys in
    let end = iter_end deref keys c.loop-place.yielded c.into_iter-place-iterator.result c.loop-place.place-iterator c.next.new.self c.next.result
    (c.into_iter-place-iterator.ensures.into_iter_gives ∙ c.iter-place-items.ensures.rest) c.loop-place.yielded_by c.in-None.is c.next.ensures.steps in
    let all : c.loop-place.places.items ≡ first ++ keys = c.loop-place.invariant ∙ ap (λ (l : List (ℕ × ℕ)). first ++ l) end.0 in
    let there = from_either held (Contains-append_left first keys x) (Contains-append_right first keys x) in
    Contains-permutation c.loop-place.places.items c.sort.new.self.items x c.in_ok-sort.ensures.permutation (subst (λ (l : List (ℕ × ℕ)). Contains l x) (sym all) there)
