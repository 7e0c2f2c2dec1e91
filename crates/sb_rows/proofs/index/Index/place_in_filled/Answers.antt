use Rattle.std.proofs.Common.{◌≡◌, ◌+◌, Some, ℕ, true, false, get_or, ltb, Bool, ap, sym, subst, refl, ◌∙◌, arith}
use Rattle.std.specs.Borrow.{Bor}
use Rattle.std.specs.Prelude.{Contains, Option}
use Rattle.sb_model.specs.declared.row.Row.{Row}
use Rattle.std.proofs.lemmas.Bool.{false≢true, ltb-true, ltb-false}
use Rattle.std.proofs.lemmas.List.{get_or_default}
use Rattle.sb_rows.specs.inner.Index.{IsNoBetter}
use Rattle.sb_rows.specs.inner.Store.{first_place}
use Rattle.sb_rows.proofs.InOrder.{rest_no_better}
use Rattle.sb_rows.proofs.PlacedRank.{within_rank}
use Rattle.sb_rows.proofs.index.Index.place_in_filled.Goals as goal
use Rattle.sb_rows.proofs.index.Index.place_in_filled.Goals.{then-there-bucket-via-then-there-bucket, then-there-bucket-via-else-there-bucket+then-end-place}

pub loop-there-preserved : goal.loop-there-preserved
loop-there-preserved c k p lt is there =
    let items = c.from_place-there-items.result.now in
    let at = c.loop-there.there-index in
    let by : (b : Bool) → ltb k at ≡ b → ⊥ = λ b told. elim b as (λ b. ltb k at ≡ b → ⊥) [
      | true ↦ λ earlier. c.loop-there.invariant k p (ltb-true k at earlier) is there
      | false ↦ λ later.
          let here : k ≡ at = omega (arith, ltb-false k at later, lt) in
          let same : (get_or items at (0, 0)).1 ≡ p = ap (λ (x : ℕ × ℕ). x.1) (get_or_default items at (0, 0) (c.args.bucket, p) c.loop-there-test.true ∙ ap (λ n. get_or items n (c.args.bucket, p)) (sym here) ∙ is) in
          false≢true (sym c.if-is_at.false ∙ c.is_at.ensures.1 (subst (λ (q : ℕ). Contains c.args.rows.now.entries (q, c.args.row.now)) (sym same) there))
    ] told in
    by (ltb k at) refl

pub returns-after-loop-there-clause-absent : goal.returns-after-loop-there-clause-absent
returns-after-loop-there-clause-absent c none p held there =
    let own = within_rank c.args.rows.now.entries p c.args.row.now c.first_place-first.result c.requires (c.first_place-first.ensures ∙ ap first_place c.rank_key.ensures.key) there in
    let it = c.from_place-there-items.ensures.all p own.0 held in
    c.loop-there.invariant it.0 p (omega (arith, it.1, c.loop-there-test.false)) it.2 there

pub returns-then-there-bucket-clause-absent : goal.returns-then-there-bucket-clause-absent
returns-then-there-bucket-clause-absent c none p held there =
    let items = c.from_place-there-items.result.now in
    let at = c.loop-there.there-index in
    let first = c.first_place-first.result in
    let end : Option (ℕ × Bor Row) = Some (first + 604462909807314587353088, c.args.row) in
    let own = within_rank c.args.rows.now.entries p c.args.row.now first c.requires (c.first_place-first.ensures ∙ ap first_place c.rank_key.ensures.key) there in
    let ends : (get_or items at (0, 0)).0 ≡ c.args.bucket → IsNoBetter end (get_or items at (0, 0)).1 = λ same.
    elim c.then-there-bucket.branch [
      | then-there-bucket-via-then-there-bucket w ↦ absurd (w.if-there-bucket.true same)
      | then-there-bucket-via-else-there-bucket+then-end-place w ↦ w.if-end-place.true
    ] in
    let it = c.from_place-there-items.ensures.all p own.0 held in
    let by : (b : Bool) → ltb it.0 at ≡ b → ⊥ = λ b told. elim b as (λ b. ltb it.0 at ≡ b → ⊥) [
      | true ↦ λ earlier. c.loop-there.invariant it.0 p (ltb-true it.0 at earlier) it.2 there
      | false ↦ λ later.
          let past = rest_no_better items c.args.bucket p at it.0 (0, 0) end c.from_place-there-items.ensures.rise (c.from_place-there-items.ensures.from at (0, 0) c.loop-there-test.true) ends (ltb-false it.0 at later) it.1 it.2 in
          omega (arith, past, own.1)
    ] told in
    by (ltb it.0 at) refl
