-- Rows that are put or sorted are those that were there and the new ones, and where no two agree in their order there is one
-- list of them.
use Rattle.std.proofs.Common.{◌≡◌, ◌≢◌, suc, Bool, true, false, List, [], ◌∷◌, ◌++◌, get_or, sym, ap, refl, ◌∙◌, arith}
use Rattle.std.specs.Prelude.{◌↔◌}
use Rattle.std.specs.declared.cmp.Ordering.{Ordering}
use Rattle.std.specs.declared.cmp.Ordering.TheVariants.{Less, Equal, Greater}
use Rattle.std.specs.Ordering.{is_lt, is_gt, is_eq, ordering_reverse, eq_by_cmp}
use Rattle.std.specs.List.{All, AllPairs, Contains, IsDistinct}
use Rattle.std.specs.List.Sorted.{IsPermutation, IsStrictlySortedBy}
use Rattle.std.proofs.lemmas.Bool.{false≢true}
use Rattle.std.proofs.lemmas.List.{append-nil}
use Rattle.std.proofs.lemmas.List.Elements.{recursion_from_All}
use Rattle.std.proofs.lemmas.List.Sorted.{IsPermutation-refl, IsPermutation-sym, IsPermutation-trans, IsPermutation-cons, IsPermutation-swap, IsPermutation-middle, IsPermutation-append_left, All-permutation, Contains-permutation, sorted_far, ranks_by}
use Rattle.std.proofs.lemmas.Map.Keys.{IsDistinct-from_apart, apart_from_distinct, IsDistinct-IsPermutation}
use Rattle.sb_model.specs.declared.row.Row.{Row}
use Rattle.sb_rows.specs.Row.{row_cmp, IsInRowOrder, AreApart, AreRows, HasTypedMatch, put_row, put_rows}
use Rattle.sb_rows.proofs.Distinct.{pairs_tail}
use Rattle.sb_rows.proofs.Members.{same_members}
use Rattle.sb_rows.proofs.Order.{row_cmp_total, lt_turned}
use Rattle.sb_rows.proofs.Place.{ordered_tail, ordered_put}

-- ---- rows that are put are those that were there and the new ones, in another order

put_row_moves : (row : Row) (xs : List Row) → IsPermutation (row ∷ xs) (put_row row xs)
put_row_moves row [] = IsPermutation-refl (row ∷ [])
put_row_moves row (x ∷ xs) = by (is_gt (row_cmp x row)) refl (put_row_moves row xs)
  where
    by : (b : Bool) → is_gt (row_cmp x row) ≡ b → IsPermutation (row ∷ xs) (put_row row xs) → IsPermutation (row ∷ x ∷ xs) (put_row row (x ∷ xs))
    by true is rest = rw is (IsPermutation-refl (row ∷ x ∷ xs))
    by false is rest =
        let swapped : IsPermutation (row ∷ x ∷ xs) (x ∷ row ∷ xs) = IsPermutation-swap (row ∷ x ∷ xs) (x ∷ row ∷ xs) 0 1 (omega arith) (omega arith) refl in
        rw is (IsPermutation-trans (row ∷ x ∷ xs) (x ∷ row ∷ xs) (x ∷ put_row row xs) swapped (IsPermutation-cons x (row ∷ xs) (put_row row xs) rest))

pub put_rows_move : (more rows : List Row) → IsPermutation (rows ++ more) (put_rows rows more)
put_rows_move [] rows = rw (append-nil rows) (IsPermutation-refl rows)
put_rows_move (row ∷ more) rows =
    IsPermutation-trans (rows ++ row ∷ more) (row ∷ (rows ++ more)) (put_rows (put_row row rows) more) (IsPermutation-middle rows row more)
    (IsPermutation-trans (row ∷ (rows ++ more)) (put_row row rows ++ more) (put_rows (put_row row rows) more) (IsPermutation-append_left more (row ∷ rows) (put_row row rows) (put_row_moves row rows)) (put_rows_move more (put_row row rows)))

-- and they are in order
pub put_rows_ordered : (more rows : List Row) → IsInRowOrder rows → IsInRowOrder (put_rows rows more)
put_rows_ordered [] rows up = up
put_rows_ordered (row ∷ more) rows up = put_rows_ordered more (put_row row rows) (ordered_put row rows up)

-- ---- rows that are apart stay so in another order

eq_from_equal : (o : Ordering) → o ≢ Equal → is_eq o ≡ false
eq_from_equal Less ne = refl
eq_from_equal Equal ne = absurd (ne refl)
eq_from_equal Greater ne = refl

eq_turned : (o : Ordering) → is_eq (ordering_reverse o) ≡ is_eq o
eq_turned Less = refl
eq_turned Equal = refl
eq_turned Greater = refl

pub apart_moves : (xs ys : List Row) → IsPermutation xs ys → AreApart xs → AreApart ys
apart_moves xs ys moves apart i j d before below equal = false≢true (sym different ∙ ap is_eq equal)
  where
    flips : (x y : Row) → eq_by_cmp row_cmp x y ≡ eq_by_cmp row_cmp y x
    flips x y = ap is_eq (row_cmp_total.antisymm x y) ∙ eq_turned (row_cmp y x)

    each : IsDistinct (eq_by_cmp row_cmp) ys
    each = IsDistinct-IsPermutation (eq_by_cmp row_cmp) flips xs ys moves (IsDistinct-from_apart (eq_by_cmp row_cmp) xs (λ m n e a b. eq_from_equal _ (apart m n e a b)))

    different : is_eq (row_cmp (get_or ys i d) (get_or ys j d)) ≡ false
    different = apart_from_distinct (eq_by_cmp row_cmp) ys i j d each before below

-- rows that are apart are unlike
equal_itself : (o : Ordering) → o ≡ ordering_reverse o → o ≡ Equal
equal_itself Less e = cc
equal_itself Equal e = refl
equal_itself Greater e = cc

pub unlike_from_apart : (xs : List Row) → AreApart xs → AllPairs (λ a b. a ≢ b) xs
unlike_from_apart xs apart i j d before below same =
    let a = get_or xs i d in
    apart i j d before below (ap (row_cmp a) (sym same) ∙ equal_itself (row_cmp a a) (row_cmp_total.antisymm a a))

-- ---- so there is one list of them in order

less_from : (o : Ordering) → is_gt o ≡ false → o ≢ Equal → o ≡ Less
less_from Less e ne = refl
less_from Equal e ne = absurd (ne refl)
less_from Greater e ne = cc

strictly_sorted : (xs : List Row) → IsInRowOrder xs → AreApart xs → IsStrictlySortedBy row_cmp xs
unfolding IsStrictlySortedBy
strictly_sorted [] up apart = tt
strictly_sorted (x ∷ xs) up apart =
    (recursion_from_All (λ y. row_cmp x y ≡ Less) xs above, strictly_sorted xs (ordered_tail x xs up) (pairs_tail (λ a b. row_cmp a b ≢ Equal) x xs apart))
  where
    above : All (λ y. row_cmp x y ≡ Less) xs
    above k d below =
        let far : is_lt (row_cmp (get_or xs k d) x) ≡ false = sorted_far _ (ranks_by row_cmp_total (λ (y : Row). y)) (x ∷ xs) up 0 (suc k) d (omega arith) (omega arith) in
        less_from (row_cmp x (get_or xs k d)) (sym (lt_turned x (get_or xs k d)) ∙ far) (apart 0 (suc k) d (omega arith) (omega arith))

pub told_by_members : (xs ys : List Row) → IsInRowOrder xs → AreApart xs → IsInRowOrder ys → AreApart ys → ((r : Row) → Contains xs r ↔ Contains ys r) → xs ≡ ys
told_by_members xs ys up_xs apart_xs up_ys apart_ys same =
    same_members row_cmp_total xs ys (strictly_sorted xs up_xs apart_xs) (strictly_sorted ys up_ys apart_ys) (λ r. (same r).0) (λ r. (same r).1)

-- what is among rows in one order is among them in another
members_move : (xs ys : List Row) → IsPermutation xs ys → (r : Row) → Contains xs r ↔ Contains ys r
members_move xs ys moves r = (Contains-permutation xs ys r moves, Contains-permutation ys xs r (IsPermutation-sym xs ys moves))

-- rows that are put among none are the rows that were put
pub put_members : (rows : List Row) (r : Row) → Contains (put_rows [] rows) r ↔ Contains rows r
put_members rows r = members_move (put_rows [] rows) rows (IsPermutation-sym rows (put_rows [] rows) (put_rows_move rows [])) r

-- rows of the table that are sorted with new ones are rows of the table
pub sorted_are_rows : (rows more sorted : List Row) → AreApart (rows ++ more) → All HasTypedMatch (rows ++ more) → IsPermutation (rows ++ more) sorted → IsInRowOrder sorted → AreRows sorted
sorted_are_rows rows more sorted apart typed moves up = record {
  ordered = up;
  distinct = unlike_from_apart sorted (apart_moves (rows ++ more) sorted moves apart);
  typed = All-permutation HasTypedMatch (rows ++ more) sorted moves typed;
}
