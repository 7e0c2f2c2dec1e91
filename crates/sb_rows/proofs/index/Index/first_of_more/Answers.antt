use Rattle.std.proofs.Common.{◌≡◌, ℕ, true, false, List, [], ◌∷◌, ◌++◌, Contains, map, sym, subst, ◌∙◌}
use Rattle.std.specs.Map.Iter.{deref}
use Rattle.std.proofs.lemmas.List.{map-append}
use Rattle.std.proofs.lemmas.Map.Iter.{iter_end, rest_more, rest_so_far}
use Rattle.sb_rows.specs.inner.Index.{IsNoBetter}
use Rattle.sb_rows.proofs.IndexOthers.{among_from, keys_from, seen_or_here, seen_or_no_better}
use Rattle.sb_rows.proofs.Probed.{from_either}
use Rattle.sb_rows.proofs.index.Index.first_of_more.Goals as goal
use Rattle.sb_rows.proofs.index.Index.first_of_more.Goals.{then-there-bucket-via-then-there-bucket, then-there-bucket-via-else-there-bucket+then-not-is_before}

pub loop-there-preserved : goal.loop-there-preserved
loop-there-preserved g c =
    let found = c.better-first.ensures in
    let so_far = c.loop-there.invariant in
    record {
      taker = found.taker;
      kept = λ p none. found.kept p (so_far.kept p none);
      tried = λ p there row among takes.
          from_either (seen_or_here (map deref c.loop-there.yielded) c.in-Some.field-0.now c.args.bucket p
          (subst (λ (l : List (ℕ × ℕ)). Contains l (c.args.bucket, p)) (map-append deref c.loop-there.yielded (c.in-Some.field-0 ∷ [])) there))
          (λ seen. found.kept p (so_far.tried p seen row among takes))
          (λ is. subst (λ (q : ℕ). IsNoBetter c.better-first.result q) is (found.tried row (subst (λ (q : ℕ). Contains c.args.rows.now.entries (q, row)) (sym is) among) takes));
    }

pub returns-in-None-clause-tried : goal.returns-in-None-clause-tried
returns-in-None-clause-tried g c p there =
    let end = iter_end deref c.range-there-items.result c.loop-there.yielded c.into_iter-there-iterator.result c.loop-there.there-iterator c.next.new.self c.next.result
    c.into_iter-there-iterator.ensures.into_iter_gives c.loop-there.yielded_by c.in-None.is c.next.ensures.steps in
    let from : c.range-there-items.result ≡ keys_from c.args.bucket c.args.self.now.more.keys = c.range-there-items.ensures.between tt in
    let all : map deref c.loop-there.yielded ≡ keys_from c.args.bucket c.args.self.now.more.keys = end.0 ∙ from in
    c.loop-there.invariant.tried p
    (subst (λ (l : List (ℕ × ℕ)). Contains l (c.args.bucket, p)) (sym all) (among_from c.args.self.now.more.keys c.args.bucket p there))

pub returns-then-there-bucket-clause-tried : goal.returns-then-there-bucket-clause-tried
returns-then-there-bucket-clause-tried g c p there row among takes =
    let ends : c.in-Some.field-0.now.0 ≡ c.args.bucket → IsNoBetter c.loop-there.first c.in-Some.field-0.now.1 = λ same.
    elim c.then-there-bucket.branch [
      | then-there-bucket-via-then-there-bucket w ↦ absurd (w.if-there-bucket.true same)
      | then-there-bucket-via-else-there-bucket+then-not-is_before w ↦ w.is_before.ensures.1 (λ before. let wrong : true ≡ false = sym before ∙ w.if-not-is_before.true in absurd (cc))
    ] in
    let split = sym c.into_iter-there-iterator.ensures.into_iter_gives ∙ rest_so_far deref c.loop-there.yielded c.into_iter-there-iterator.result c.loop-there.there-iterator c.loop-there.yielded_by in
    let here = rest_more deref c.loop-there.there-iterator c.next.new.self c.next.result c.in-Some.field-0 c.in-Some.is c.next.ensures.steps in
    let from : c.range-there-items.result ≡ keys_from c.args.bucket c.args.self.now.more.keys = c.range-there-items.ensures.between tt in
    from_either
    (seen_or_no_better c.args.self.now.more.keys c.range-there-items.result (map deref c.loop-there.yielded) c.next.new.self c.in-Some.field-0.now c.args.bucket p c.loop-there.first
    c.range-there-items.ensures.ordered from (subst (λ (l : List (ℕ × ℕ)). c.range-there-items.result ≡ map deref c.loop-there.yielded ++ l) here split) ends there)
    (λ seen. c.loop-there.invariant.tried p seen row among takes)
    (λ none. none)
