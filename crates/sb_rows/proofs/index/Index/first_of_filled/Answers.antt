use Rattle.std.proofs.Common.{◌≡◌, ℕ, true, false, get_or, ltb, Bool, ap, sym, subst, refl, ◌∙◌, arith}
use Rattle.std.specs.Prelude.{Contains}
use Rattle.std.proofs.lemmas.Bool.{ltb-true, ltb-false}
use Rattle.std.proofs.lemmas.List.{get_or_default}
use Rattle.sb_rows.specs.inner.Index.{IsNoBetter}
use Rattle.sb_rows.proofs.InOrder.{rest_no_better}
use Rattle.sb_rows.proofs.index.Index.first_of_filled.Goals as goal
use Rattle.sb_rows.proofs.index.Index.first_of_filled.Goals.{then-there-bucket-via-then-there-bucket, then-there-bucket-via-else-there-bucket+then-not-is_before}

pub loop-there-preserved : goal.loop-there-preserved
loop-there-preserved g c =
    let found = c.better-first.ensures in
    let so_far = c.loop-there.invariant in
    let items = c.from_bucket-there-items.result.now in
    let at = c.loop-there.there-index in
    record {
      taker = found.taker;
      kept = λ p none. found.kept p (so_far.kept p none);
      tried = λ k p lt is row among takes.
          let by : (b : Bool) → ltb k at ≡ b → IsNoBetter c.better-first.result p = λ b told. elim b as (λ b. ltb k at ≡ b → IsNoBetter c.better-first.result p) [
            | true ↦ λ earlier. found.kept p (so_far.tried k p (ltb-true k at earlier) is row among takes)
            | false ↦ λ later.
                let here : k ≡ at = omega (arith, ltb-false k at later, lt) in
                let same : (get_or items at (0, 0)).1 ≡ p = ap (λ (x : ℕ × ℕ). x.1) (get_or_default items at (0, 0) (c.args.bucket, p) c.loop-there-test.true ∙ ap (λ n. get_or items n (c.args.bucket, p)) (sym here) ∙ is) in
                subst (λ (q : ℕ). IsNoBetter c.better-first.result q) same (found.tried row (subst (λ (q : ℕ). Contains c.args.rows.now.entries (q, row)) (sym same) among) takes)
          ] told in
          by (ltb k at) refl;
    }

pub returns-after-loop-there-clause-tried : goal.returns-after-loop-there-clause-tried
returns-after-loop-there-clause-tried g c p there row among takes =
    let it = c.from_bucket-there-items.ensures.all p there in
    c.loop-there.invariant.tried it.0 p (omega (arith, it.1, c.loop-there-test.false)) it.2 row among takes

pub returns-then-there-bucket-clause-tried : goal.returns-then-there-bucket-clause-tried
returns-then-there-bucket-clause-tried g c p there row among takes =
    let items = c.from_bucket-there-items.result.now in
    let at = c.loop-there.there-index in
    let ends : (get_or items at (0, 0)).0 ≡ c.args.bucket → IsNoBetter c.loop-there.first (get_or items at (0, 0)).1 = λ same.
    elim c.then-there-bucket.branch [
      | then-there-bucket-via-then-there-bucket w ↦ absurd (w.if-there-bucket.true same)
      | then-there-bucket-via-else-there-bucket+then-not-is_before w ↦ w.is_before.ensures.1 (λ before. let wrong : true ≡ false = sym before ∙ w.if-not-is_before.true in absurd (cc))
    ] in
    let it = c.from_bucket-there-items.ensures.all p there in
    let by : (b : Bool) → ltb it.0 at ≡ b → IsNoBetter c.loop-there.first p = λ b told. elim b as (λ b. ltb it.0 at ≡ b → IsNoBetter c.loop-there.first p) [
      | true ↦ λ earlier. c.loop-there.invariant.tried it.0 p (ltb-true it.0 at earlier) it.2 row among takes
      | false ↦ λ later. rest_no_better items c.args.bucket p at it.0 (0, 0) c.loop-there.first c.from_bucket-there-items.ensures.rise
          (c.from_bucket-there-items.ensures.from at (0, 0) c.loop-there-test.true) ends (ltb-false it.0 at later) it.1 it.2
    ] told in
    by (ltb it.0 at) refl
