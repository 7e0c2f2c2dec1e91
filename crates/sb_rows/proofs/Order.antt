-- The order of rows is a total order, and it ranks rows by their datapath first.
use Rattle.std.proofs.Common.{◌≡◌, ℕ, ◌+◌, ◌<◌, ◌≤◌, true, false, not, List, ◌∷◌, ◌++◌, length, length-append, get_or, sym, ap, refl, ◌∙◌, arith}
use Rattle.std.specs.declared.cmp.Ordering.{Ordering}
use Rattle.std.specs.declared.cmp.Ordering.TheVariants.{Less, Equal, Greater}
use Rattle.std.specs.Ordering.{is_lt, is_le, is_gt, nat_cmp, ordering_reverse, ordering_then}
use Rattle.std.specs.Cmp.Lexicographic.{slice_cmp}
use Rattle.std.specs.Cmp.{IsTotalOrder}
use Rattle.std.specs.List.{All}
use Rattle.std.proofs.lemmas.List.{get_or_append_left}
use Rattle.std.proofs.Math.Seq.{get_or-append_seam}
use Rattle.std.specs.List.Sorted.{IsSorted, IsPartitionedBy}
use Rattle.std.proofs.lemmas.Cmp.{nat_cmp_total, nat_list_cmp_total, on_total, then_total, back_total, upto}
use Rattle.std.proofs.lemmas.List.Sorted.{sorted_far, ranks_by}
use Rattle.sb_model.specs.declared.row.Row.{Row}
use Rattle.expr_core.specs.Text.{typed_text}
use Rattle.sb_rows.specs.Row.{key_cmp, row_cmp, IsInRowOrder}
use Rattle.sb_model.specs.Stage.{stage_place}

-- the laws of the order of rows
pub key_cmp_total : IsTotalOrder key_cmp
unfolding key_cmp
key_cmp_total =
    then_total (then_total (on_total (λ (r : Row). r.dp.0) nat_cmp_total) (on_total (λ (r : Row). stage_place r.stage) nat_cmp_total))
    (then_total (back_total (on_total (λ (r : Row). r.priority) nat_cmp_total)) (on_total (λ (r : Row). r.hint.0) nat_cmp_total))

pub row_cmp_total : IsTotalOrder row_cmp
unfolding row_cmp
row_cmp_total = then_total key_cmp_total (on_total (λ (r : Row). typed_text r.matching) nat_list_cmp_total)

-- an answer is above where it is not at most
pub gt_from_le : (o : Ordering) → is_gt o ≡ not (is_le o)
gt_from_le Less = refl
gt_from_le Equal = refl
gt_from_le Greater = refl

-- an answer is not below where the answer turned round is not above
pub lt_reversed : (o : Ordering) → is_lt (ordering_reverse o) ≡ is_gt o
lt_reversed Less = refl
lt_reversed Equal = refl
lt_reversed Greater = refl

module _ {X : Type 0} {cmp : X → X → Ordering} (total : IsTotalOrder cmp) where
  -- x is above y just where y is below x
  pub turned : (x y : X) → is_lt (cmp y x) ≡ is_gt (cmp x y)
  turned x y = ap is_lt (total.antisymm y x) ∙ lt_reversed (cmp x y)

  module _ (xs : List X) (up : IsSorted cmp xs) where
    -- of two elements in order, the first is not above the second
    not_above : (i j : ℕ) (d : X) → i ≤ j → j < length xs → is_gt (cmp (get_or xs i d) (get_or xs j d)) ≡ false
    not_above i j d le within = sym (turned (get_or xs i d) (get_or xs j d)) ∙ sorted_far _ (ranks_by total (λ (x : X). x)) xs up i j d le within

    -- those at most an element come before those above it
    pub parted_le : (x : X) → IsPartitionedBy (λ y. is_le (cmp y x)) xs
    parted_le x i j d le within passes =
        let second : is_gt (cmp (get_or xs j d) x) ≡ false = gt_from_le (cmp (get_or xs j d) x) ∙ ap not passes in
        le_from_gt (cmp (get_or xs i d) x) (upto total (get_or xs i d) (get_or xs j d) x (not_above i j d le within) second)
      where
        le_from_gt : (o : Ordering) → is_gt o ≡ false → is_le o ≡ true
        le_from_gt o e = grind (arith, gt_from_le o)

-- x is not above y just where y is not below x
pub lt_turned : (x y : Row) → is_lt (row_cmp y x) ≡ is_gt (row_cmp x y)
lt_turned = turned row_cmp_total

-- a row that is not before another is not so by its key
pub key_from_row : (x y : Row) → is_lt (row_cmp y x) ≡ false → is_lt (key_cmp y x) ≡ false
unfolding row_cmp
key_from_row x y h = first (key_cmp y x) _ h
  where
    first : (o p : Ordering) → is_lt (ordering_then o p) ≡ false → is_lt o ≡ false
    first Less p e = e
    first Equal p e = refl
    first Greater p e = refl

-- rows in order are in the order of their keys
pub keys_in_order : (xs : List Row) → IsInRowOrder xs → IsSorted key_cmp xs
keys_in_order xs up k d le lt = key_from_row (get_or xs k d) (get_or xs (k + 1) d) (up k d le lt)

-- in rows in order, those at most a row come before those above it
pub parted_at : (xs : List Row) → IsInRowOrder xs → (row : Row) → IsPartitionedBy (λ y. is_le (row_cmp y row)) xs
parted_at = parted_le row_cmp_total

-- a row is level with itself by its key
pub level_itself : (row : Row) → key_cmp row row ≡ Equal
level_itself row = equal_itself (key_cmp row row) (key_cmp_total.antisymm row row)
  where
    equal_itself : (o : Ordering) → o ≡ ordering_reverse o → o ≡ Equal
    equal_itself Less e = cc
    equal_itself Equal e = refl
    equal_itself Greater e = cc

-- in rows in order, none ahead of a row is above it
pub above_none_before : (row : Row) (rows more : List Row) → IsInRowOrder (rows ++ row ∷ more) → All (λ y. is_gt (row_cmp y row) ≡ false) rows
above_none_before row rows more up k d in_range =
    let all = rows ++ row ∷ more in
    let n = length rows in
    let long : n < length all = omega (arith, length-append rows (row ∷ more)) in
    let far : is_lt (row_cmp (get_or all n d) (get_or all k d)) ≡ false = sorted_far _ (ranks_by row_cmp_total (λ (r : Row). r)) all up k n d (omega arith) long in
    let there : get_or all k d ≡ get_or rows k d = get_or_append_left rows (row ∷ more) d k in_range in
    let here : get_or all n d ≡ row = get_or-append_seam rows row more d in
    sym (lt_turned (get_or rows k d) row) ∙ rw (here, there) at far

-- ---- a row is after another by its key, or else by the text of its match

pub less_is_not_after : (x y : Row) → Less ≡ key_cmp x y → false ≡ is_gt (row_cmp x y)
unfolding row_cmp
less_is_not_after x y is = rw (← is) refl

pub greater_is_after : (x y : Row) → Greater ≡ key_cmp x y → true ≡ is_gt (row_cmp x y)
unfolding row_cmp
greater_is_after x y is = rw (← is) refl

pub after_by_text : (x y : Row) → Equal ≡ key_cmp x y → is_gt (slice_cmp nat_cmp (typed_text x.matching) (typed_text y.matching)) ≡ is_gt (row_cmp x y)
unfolding row_cmp
after_by_text x y is = rw (← is) refl
