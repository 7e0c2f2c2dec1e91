-- Rows of which one is taken out are rows still, and a row is found by its key.
use Rattle.std.proofs.Common.{◌≡◌, ◌≢◌, ℕ, suc, ◌+◌, ◌<◌, ◌≤◌, Bool, true, false, cond, List, ◌∷◌, ◌++◌, length, get_or, take, drop, sym, ap, refl, ◌∙◌, subst, ltb, arith}
use Rattle.std.specs.List.{remove, All, AllPairs}
use Rattle.std.proofs.lemmas.Bool.Decides.{nat_tests}
use Rattle.std.proofs.lemmas.List.{set-get_or, set_split}
use Rattle.std.proofs.lemmas.List.Edits.{length-remove, get_or-remove_below, get_or-remove_above}
use Rattle.std.proofs.lemmas.List.Sorted.{sorted_far, ranks_by}
use Rattle.sb_model.specs.declared.row.Row.{Row}
use Rattle.sb_rows.specs.Row.{IsInRowOrder, AreRows, HasTypedMatch, IsWithout}
use Rattle.sb_rows.specs.inner.Places.{IsAt}
use Rattle.sb_rows.proofs.Order.{row_cmp_total}

lt_true : (a b : ℕ) → ltb a b ≡ true → a < b
lt_true a b h = grind (arith, nat_tests)

lt_false : (a b : ℕ) → ltb a b ≡ false → b ≤ a
lt_false a b h = grind (arith, nat_tests)

module _ {X : Type 0} (xs : List X) (i : ℕ) (within : i < length xs) where
  -- where an element that is left was before
  old : ℕ → ℕ
  old k = cond (ltb k i) k (k + 1)

  old_rises : (j k : ℕ) → j < k → old j < old k
  unfolding old
  old_rises j k lt = grind (arith, nat_tests)

  old_within : (k : ℕ) → k < length (remove xs i) → old k < length xs
  unfolding old
  old_within k lt = let count = length-remove xs i within in grind (arith, nat_tests)

  at_old : (k : ℕ) (d : X) → get_or (remove xs i) k d ≡ get_or xs (old k) d
  unfolding old
  at_old k d = by (ltb k i) refl
    where
      by : (b : Bool) → ltb k i ≡ b → get_or (remove xs i) k d ≡ get_or xs (cond b k (k + 1)) d
      by true is = get_or-remove_below xs i d k (lt_true k i is) within
      by false is = get_or-remove_above xs i d k (lt_false k i is) within

  -- what holds of each two elements in their order holds where one is taken out
  AllPairs-remove : (R : X → X → Type 0) → AllPairs R xs → AllPairs R (remove xs i)
  AllPairs-remove R all j k d lt below =
      rw (at_old j d, at_old k d) (all (old j) (old k) d (old_rises j k lt) (old_within k below))

  -- and so does what holds of each
  All-remove : (P : X → Type 0) → All P xs → All P (remove xs i)
  All-remove P all k d below = rw (at_old k d) (all (old k) d (old_within k below))

-- rows in order are in order where one is taken out
pub ordered_remove : (xs : List Row) (i : ℕ) → i < length xs → IsInRowOrder xs → IsInRowOrder (remove xs i)
ordered_remove xs i within up k d le lt =
    let rises = old_rises xs i within k (k + 1) (omega arith) in
    rw (at_old xs i within k d, at_old xs i within (k + 1) d)
    (sorted_far _ (ranks_by row_cmp_total (λ (r : Row). r)) xs up (old xs i within k) (old xs i within (k + 1)) d (omega (arith, rises)) (old_within xs i within (k + 1) lt))

-- and they are rows of the table still
pub removed_are_rows : (xs left : List Row) (i : ℕ) → left ≡ remove xs i → i < length xs → AreRows xs → AreRows left
removed_are_rows xs left i is within are = subst AreRows (sym is) (record {
  ordered = ordered_remove xs i within are.ordered;
  distinct = AllPairs-remove xs i within (λ a b. a ≢ b) are.distinct;
  typed = All-remove xs i within HasTypedMatch are.typed;
})

-- and they are the rows without the one that was there
pub removed_is_without : (row : Row) (xs left : List Row) (i : ℕ) → left ≡ remove xs i → IsAt row xs i → IsWithout row xs left
removed_is_without row xs left i is (within, there) = record {
  before = take i xs;
  after = drop (suc i) xs;
  were = sym (set-get_or xs i row) ∙ set_split xs i (get_or xs i row) within ∙ ap (λ x. take i xs ++ x ∷ drop (suc i) xs) there;
  are = is;
}
