use Rattle.std.proofs.Common.{◌≡◌, ◌+◌, ◌++◌, ◌∷◌, [], ℕ, Some, List, map, ap, sym, subst, ◌∙◌, arith}
use Rattle.std.specs.Map.Iter.{deref}
use Rattle.std.specs.Borrow.{Bor}
use Rattle.std.specs.Prelude.{Contains, Option}
use Rattle.sb_model.specs.declared.row.Row.{Row}
use Rattle.std.proofs.lemmas.Bool.{false≢true}
use Rattle.std.proofs.lemmas.List.{map-append}
use Rattle.std.proofs.lemmas.Map.Iter.{iter_end, rest_more, rest_so_far}
use Rattle.sb_rows.specs.inner.Index.{IsNoBetter}
use Rattle.sb_rows.specs.inner.Store.{first_place}
use Rattle.sb_rows.proofs.IndexOthers.{among_from_place, keys_from_place, seen_from_place, seen_or_here}
use Rattle.sb_rows.proofs.PlacedRank.{within_rank}
use Rattle.sb_rows.proofs.Probed.{from_either}
use Rattle.sb_rows.proofs.index.Index.place_in_more.Goals as goal
use Rattle.sb_rows.proofs.index.Index.place_in_more.Goals.{then-there-bucket-via-then-there-bucket, then-there-bucket-via-else-there-bucket+then-end-place}

pub loop-there-preserved : goal.loop-there-preserved
loop-there-preserved c p seen there =
    from_either (seen_or_here (map deref c.loop-there.yielded) c.in-Some.field-0.now c.args.bucket p
    (subst (λ (l : List (ℕ × ℕ)). Contains l (c.args.bucket, p)) (map-append deref c.loop-there.yielded (c.in-Some.field-0 ∷ [])) seen))
    (λ before. c.loop-there.invariant p before there)
    (λ is. false≢true (sym c.if-is_at.false ∙ c.is_at.ensures.1 (subst (λ (q : ℕ). Contains c.args.rows.now.entries (q, c.args.row.now)) (sym is) there)))

pub returns-in-None-clause-absent : goal.returns-in-None-clause-absent
returns-in-None-clause-absent c none p held there =
    let first = c.first_place-first.result in
    let own = within_rank c.args.rows.now.entries p c.args.row.now first c.requires (c.first_place-first.ensures ∙ ap first_place c.rank_key.ensures.key) there in
    let end = iter_end deref c.range-there-items.result c.loop-there.yielded c.into_iter-there-iterator.result c.loop-there.there-iterator c.next.new.self c.next.result
    c.into_iter-there-iterator.ensures.into_iter_gives c.loop-there.yielded_by c.in-None.is c.next.ensures.steps in
    let from : c.range-there-items.result ≡ keys_from_place c.args.bucket first c.args.self.now.more.keys = c.range-there-items.ensures.between tt in
    let all : map deref c.loop-there.yielded ≡ keys_from_place c.args.bucket first c.args.self.now.more.keys = end.0 ∙ from in
    c.loop-there.invariant p (subst (λ (l : List (ℕ × ℕ)). Contains l (c.args.bucket, p)) (sym all) (among_from_place c.args.self.now.more.keys c.args.bucket first p own.0 held)) there

pub returns-then-there-bucket-clause-absent : goal.returns-then-there-bucket-clause-absent
returns-then-there-bucket-clause-absent c none p held there =
    let first = c.first_place-first.result in
    let end : Option (ℕ × Bor Row) = Some (first + 604462909807314587353088, c.args.row) in
    let own = within_rank c.args.rows.now.entries p c.args.row.now first c.requires (c.first_place-first.ensures ∙ ap first_place c.rank_key.ensures.key) there in
    let ends : c.in-Some.field-0.now.0 ≡ c.args.bucket → IsNoBetter end c.in-Some.field-0.now.1 = λ same.
    elim c.then-there-bucket.branch [
      | then-there-bucket-via-then-there-bucket w ↦ absurd (w.if-there-bucket.true same)
      | then-there-bucket-via-else-there-bucket+then-end-place w ↦ w.if-end-place.true
    ] in
    let split = sym c.into_iter-there-iterator.ensures.into_iter_gives ∙ rest_so_far deref c.loop-there.yielded c.into_iter-there-iterator.result c.loop-there.there-iterator c.loop-there.yielded_by in
    let here = rest_more deref c.loop-there.there-iterator c.next.new.self c.next.result c.in-Some.field-0 c.in-Some.is c.next.ensures.steps in
    let from : c.range-there-items.result ≡ keys_from_place c.args.bucket first c.args.self.now.more.keys = c.range-there-items.ensures.between tt in
    from_either
    (seen_from_place c.args.self.now.more.keys c.range-there-items.result (map deref c.loop-there.yielded) c.next.new.self c.in-Some.field-0.now c.args.bucket first p end
    c.range-there-items.ensures.ordered from (subst (λ (l : List (ℕ × ℕ)). c.range-there-items.result ≡ map deref c.loop-there.yielded ++ l) here split) ends own.0 held)
    (λ seen. c.loop-there.invariant p seen there)
    (λ past. omega (arith, past, own.1))
