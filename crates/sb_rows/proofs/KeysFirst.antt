-- Rows that a stable sort left in the order of their keys, and that are then put one by one, are the rows that are put one by one.
use Rattle.std.proofs.Common.{◌≡◌, ◌+◌, ◌<◌, ℕ, Bool, true, false, not, ◌&&◌, cond, List, [], ◌∷◌, get_or, length, sym, ap, refl, ◌∙◌, arith}
use Rattle.std.specs.declared.cmp.Ordering.{Ordering}
use Rattle.std.specs.declared.cmp.Ordering.TheVariants.{Less, Equal, Greater}
use Rattle.std.specs.Ordering.{is_lt, is_gt, ordering_then}
use Rattle.std.specs.List.{filter}
use Rattle.std.specs.List.Sorted.{IsStable, ties}
use Rattle.std.proofs.lemmas.Bool.{false≢true}
use Rattle.sb_model.specs.declared.row.Row.{Row}
use Rattle.sb_rows.specs.Row.{key_cmp, row_cmp, IsInRowOrder, put_rows}
use Rattle.sb_rows.proofs.AllAtOnce.{put_rows_ordered}
use Rattle.sb_rows.proofs.Order.{key_from_row, lt_turned}
use Rattle.sb_rows.proofs.Stable.{put_rows_ties, sorted_is_put}

-- ---- what a stable sort by keys keeps

module _ {X : Type 0} (p q : X → Bool) (within : (x : X) → p x ≡ true → q x ≡ true) where
  -- what passes a narrower test is all among what passes a wider one
  kept_within : (xs : List X) → filter p (filter q xs) ≡ filter p xs
  kept_within [] = refl
  kept_within (x ∷ xs) = by (q x) (p x) refl refl (kept_within xs)
    where
      by : (wide narrow : Bool) → q x ≡ wide → p x ≡ narrow → filter p (filter q xs) ≡ filter p xs → filter p (cond wide (x ∷ filter q xs) (filter q xs)) ≡ cond narrow (x ∷ filter p xs) (filter p xs)
      by true true is passes rest = rw passes (ap (λ l. x ∷ l) rest)
      by true false is passes rest = rw passes rest
      by false true is passes rest = absurd (false≢true (sym is ∙ within x passes))
      by false false is passes rest = rest

abbrev by_row : Row → Row → Bool
by_row x y = is_lt (row_cmp x y)

abbrev by_key : Row → Row → Bool
by_key x y = is_lt (key_cmp x y)

-- rows that tie do so by their keys
ties_by_key : (z x : Row) → ties by_row z x ≡ true → ties by_key z x ≡ true
ties_by_key z x tied = both (by_row z x) (by_row x z) refl refl tied
  where
    both : (a b : Bool) → by_row z x ≡ a → by_row x z ≡ b → (not a && not b) ≡ true → ties by_key z x ≡ true
    both true b f s e = absurd (false≢true e)
    both false true f s e = absurd (false≢true e)
    both false false f s e = rw (key_from_row x z f, key_from_row z x s) refl

pub stable_by_rows : (rows sorted : List Row) → IsStable key_cmp rows sorted → IsStable row_cmp rows sorted
stable_by_rows rows sorted stable z =
    let within = kept_within (ties by_row z) (ties by_key z) (ties_by_key z) in
    sym (within sorted) ∙ ap (filter (ties by_row z)) (stable z) ∙ within rows

pub none_in_order : IsInRowOrder []
none_in_order k d le lt = absurd (omega arith)

-- so they may be put one by one in either order
pub put_after_sort : (rows sorted : List Row) → IsStable key_cmp rows sorted → put_rows [] sorted ≡ put_rows [] rows
put_after_sort rows sorted stable =
    sorted_is_put [] rows (put_rows [] sorted) none_in_order (λ z. put_rows_ties sorted [] none_in_order z ∙ stable_by_rows rows sorted stable z) (put_rows_ordered sorted [] none_in_order)

-- ---- rows of which no two that follow each other have one key

-- a row whose key is before that of another is before it
above_by_key : (x y : Row) → is_lt (key_cmp x y) ≡ true → is_gt (row_cmp x y) ≡ false
unfolding row_cmp
above_by_key x y less = first (key_cmp x y) _ less
  where
    first : (o p : Ordering) → is_lt o ≡ true → is_gt (ordering_then o p) ≡ false
    first Less p e = refl
    first Equal p e = absurd (false≢true e)
    first Greater p e = absurd (false≢true e)

pub rising_are_put : (rows : List Row) → ((k : ℕ) (d : Row) → k + 1 < length rows → is_lt (key_cmp (get_or rows k d) (get_or rows (k + 1) d)) ≡ true) → rows ≡ put_rows [] rows
rising_are_put rows rise = sorted_is_put [] rows rows none_in_order (λ z. refl) (λ k d le lt. lt_turned (get_or rows k d) (get_or rows (k + 1) d) ∙ above_by_key (get_or rows k d) (get_or rows (k + 1) d) (rise k d (omega arith)))
