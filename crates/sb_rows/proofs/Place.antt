-- What an insert at the place that a search found does to rows in order.
use Rattle.std.proofs.Common.{◌≡◌, ℕ, zero, suc, ◌<◌, ◌≤◌, Bool, true, false, not, List, [], ◌∷◌, length, get_or, ap, refl, sym, ◌+◌, ◌∙◌, add-one, arith}
use Rattle.std.proofs.lemmas.List.{get_or_default}
use mathlib.Core.Bool.{false≢true}
use Rattle.std.specs.declared.cmp.Ordering.{Ordering}
use Rattle.std.specs.declared.cmp.Ordering.TheVariants.{Less, Equal, Greater}
use Rattle.std.specs.Ordering.{is_lt, is_le, is_gt}
use Rattle.std.specs.List.{insert, AllWithin}
use Rattle.std.specs.List.Sorted.{IsPartitionPoint}
use Rattle.sb_model.specs.declared.row.Row.{Row}
use Rattle.sb_rows.specs.Row.{row_cmp, IsInRowOrder, put_row}
use Rattle.sb_rows.proofs.Order.{gt_from_le, lt_turned, parted_at}

-- what holds between two places of the tail holds one place higher in the list
within_tail : (P : Row → Type 0) (x : Row) (xs : List Row) (low high : ℕ) → AllWithin P (x ∷ xs) (suc low) (suc high) → AllWithin P xs low high
within_tail P x xs low high h k d le lt = h (suc k) d (omega arith) (omega arith)

-- an insert where those at most the row end is `put_row`
pub put_row_at : (row : Row) (xs : List Row) (i : ℕ) → i ≤ length xs → IsPartitionPoint (λ y. is_le (row_cmp y row) ≡ true) (λ y. is_le (row_cmp y row) ≡ false) xs i → insert xs i row ≡ put_row row xs
put_row_at row [] i le parted = let none : i ≡ 0 = omega arith in rw none refl
put_row_at row (x ∷ xs) zero le parted =
    let above : is_gt (row_cmp x row) ≡ true = gt_from_le (row_cmp x row) ∙ ap not (parted.1 0 row (omega arith) (omega arith)) in
    rw above refl
put_row_at row (x ∷ xs) (suc i) le parted =
    let most : is_gt (row_cmp x row) ≡ false = gt_from_le (row_cmp x row) ∙ ap not (parted.0 0 row (omega arith) (omega arith)) in
    let rest = put_row_at row xs i (omega arith) (within_tail (λ y. is_le (row_cmp y row) ≡ true) x xs 0 i (λ k d a b. parted.0 k d (omega arith) b), within_tail (λ y. is_le (row_cmp y row) ≡ false) x xs i (length xs) (λ k d a b. parted.1 k d a (omega arith))) in
    rw most (ap (λ ys. x ∷ ys) rest)

-- a row that is not above the first of rows in order may go ahead of them
ordered_cons : (x : Row) (xs : List Row) → ((d : Row) → 0 < length xs → is_lt (row_cmp (get_or xs 0 d) x) ≡ false) → IsInRowOrder xs → IsInRowOrder (x ∷ xs)
ordered_cons x xs first up zero d le lt = first d (omega arith)
ordered_cons x xs first up (suc k) d le lt = rw add-one (rw add-one at (up k d (omega arith) (omega arith)))

-- a row above another is not below it
below_above : (x y : Row) → is_gt (row_cmp y x) ≡ true → is_lt (row_cmp y x) ≡ false
below_above x y above = not_lt (row_cmp y x) above
  where
    not_lt : (o : Ordering) → is_gt o ≡ true → is_lt o ≡ false
    not_lt Less e = absurd (false≢true e)
    not_lt Equal e = refl
    not_lt Greater e = refl

-- the rows after the first are in order too
pub ordered_tail : (x : Row) (xs : List Row) → IsInRowOrder (x ∷ xs) → IsInRowOrder xs
ordered_tail x xs up k d le lt = rw add-one (rw add-one at (up (suc k) d (omega arith) (omega arith)))

-- the first of rows that got one more is the new row or the first of the old ones
put_first : (x row : Row) (xs : List Row) → is_lt (row_cmp row x) ≡ false → IsInRowOrder (x ∷ xs) → (d : Row) → is_lt (row_cmp (get_or (put_row row xs) 0 d) x) ≡ false
put_first x row [] e up d = e
put_first x row (y ∷ ys) e up d = first (is_gt (row_cmp y row)) refl
  where
    first : (b : Bool) → is_gt (row_cmp y row) ≡ b → is_lt (row_cmp (get_or (put_row row (y ∷ ys)) 0 d) x) ≡ false
    first true is = rw is e
    first false is = rw is (up 0 d (omega arith) (omega arith))

-- one more row leaves rows in order in order
pub ordered_put : (row : Row) (xs : List Row) → IsInRowOrder xs → IsInRowOrder (put_row row xs)
ordered_put row [] up = λ k d le lt. absurd (omega arith)
ordered_put row (x ∷ xs) up = by_test (is_gt (row_cmp x row)) refl (ordered_put row xs (ordered_tail x xs up))
  where
    by_test : (b : Bool) → is_gt (row_cmp x row) ≡ b → IsInRowOrder (put_row row xs) → IsInRowOrder (put_row row (x ∷ xs))
    by_test true is rest = rw is (ordered_cons row (x ∷ xs) (λ d _. below_above row x is) up)
    by_test false is rest = rw is (ordered_cons x (put_row row xs) (λ d _. put_first x row xs (lt_turned x row ∙ is) up d) rest)

-- ---- a search among rows in order

module _ (rows : List Row) (up : IsInRowOrder rows) (row : Row) (middle : ℕ) (there : Row) (inside : middle < length rows) (is : there ≡ get_or rows middle there) where
  here : (d : Row) → get_or rows middle d ≡ there
  here d = get_or_default rows middle d there inside ∙ sym is

  -- from a row that is after the new one on all are
  pub after_from : true ≡ is_gt (row_cmp there row) → AllWithin (λ y. is_le (row_cmp y row) ≡ false) rows middle (length rows)
  after_from after k d from below = by (is_le (row_cmp (get_or rows k d) row)) refl
    where
      by : (b : Bool) → is_le (row_cmp (get_or rows k d) row) ≡ b → b ≡ false
      by false passes = refl
      by true passes =
          let at_most : is_le (row_cmp there row) ≡ true = ap (λ y. is_le (row_cmp y row)) (sym (here d)) ∙ parted_at rows up row middle k d from below passes in
          after ∙ gt_from_le (row_cmp there row) ∙ ap not at_most

  -- and up to one that is not after it none is
  pub none_after_to : false ≡ is_gt (row_cmp there row) → AllWithin (λ y. is_le (row_cmp y row) ≡ true) rows 0 (middle + 1)
  none_after_to at_most k d from below =
      parted_at rows up row k middle d (omega arith) inside (ap (λ y. is_le (row_cmp y row)) (here d) ∙ le_from_gt (row_cmp there row) (sym at_most))
    where
      le_from_gt : (o : Ordering) → is_gt o ≡ false → is_le o ≡ true
      le_from_gt Less e = refl
      le_from_gt Equal e = refl
      le_from_gt Greater e = absurd (false≢true (sym e))
