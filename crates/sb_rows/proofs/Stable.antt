-- Rows that a stable sort left in order are those that are put one by one.
use Rattle.std.proofs.Common.{◌≡◌, suc, Bool, true, false, not, cond, List, [], ◌∷◌, ◌++◌, get_or, length, ◌<◌, sym, ap, refl, ◌∙◌, subst, append_assoc, add-one, arith}
use Rattle.std.specs.Cmp.{IsStrictWeakOrder}
use Rattle.std.specs.Ordering.{is_lt, is_gt}
use Rattle.std.specs.List.{All, filter}
use Rattle.std.specs.List.Sorted.{IsSortedBy, IsStable, IsStableBy, ties}
use Rattle.std.proofs.lemmas.Bool.{false≢true, and_parts}
use Rattle.std.proofs.lemmas.List.{append-nil}
use Rattle.std.proofs.lemmas.List.Elements.{All-head, All-tail, All-filter, filter-append}
use Rattle.std.proofs.lemmas.List.Sorted.{ranks_by, sorted_far}
use Rattle.sb_model.specs.declared.row.Row.{Row}
use Rattle.sb_rows.specs.Row.{row_cmp, IsInRowOrder, put_row, put_rows}
use Rattle.sb_rows.proofs.Order.{row_cmp_total, lt_turned}
use Rattle.sb_rows.proofs.Place.{ordered_tail, ordered_put}
use Rattle.sb_rows.proofs.AllAtOnce.{put_rows_ordered}

not_true : (b : Bool) → not b ≡ true → b ≡ false
not_true true e = sym e
not_true false e = refl

-- ---- two lists in order in which elements that tie stand in one order are one list

module _ {X : Type 0} (lt : X → X → Bool) (order : IsStrictWeakOrder lt) where
  never_itself : (x : X) → lt x x ≡ false
  never_itself x = by (lt x x) refl
    where
      by : (b : Bool) → lt x x ≡ b → b ≡ false
      by true is = sym is ∙ order.one_way x x is
      by false is = refl

  -- elements of which neither is less tie
  tie : (x y : X) → lt x y ≡ false → lt y x ≡ false → ties lt x y ≡ true
  tie x y e f = rw (e, f) refl

  tie_itself : (x : X) → ties lt x x ≡ true
  tie_itself x = tie x x (never_itself x) (never_itself x)

  -- and of elements that tie neither is less
  neither_less : (x y : X) → ties lt x y ≡ true → (lt x y ≡ false) × (lt y x ≡ false)
  neither_less x y e =
      let parts = and_parts _ _ e in
      (not_true (lt x y) parts.0, not_true (lt y x) parts.1)

  sorted_rest : (x : X) (xs : List X) → IsSortedBy lt (x ∷ xs) → IsSortedBy lt xs
  sorted_rest x xs up k d le within = rw add-one (rw add-one at (up (suc k) d (omega arith) (omega arith)))

  -- what ties with an element and is first in order comes first of those that tie with it
  first_kept : (x z : X) (xs : List X) → ties lt z x ≡ true → filter (ties lt z) (x ∷ xs) ≡ x ∷ filter (ties lt z) xs
  first_kept x z xs is = rw is refl

  -- what is among elements in order is not less than the first
  not_below_first : (x y : X) (ys rest : List X) → IsSortedBy lt (y ∷ ys) → filter (ties lt x) (y ∷ ys) ≡ x ∷ rest → lt x y ≡ false
  not_below_first x y ys rest up is =
      All-head (λ z. lt z y ≡ false) x rest
      (subst (All (λ z. lt z y ≡ false)) is (All-filter (ties lt x) (λ z. lt z y ≡ false) (y ∷ ys) (λ k d below. sorted_far lt order (y ∷ ys) up 0 k d (omega arith) below)))

  one_first : (x y : X) (xs ys : List X) → IsSortedBy lt (x ∷ xs) → IsSortedBy lt (y ∷ ys) → IsStableBy lt (x ∷ xs) (y ∷ ys) → y ≡ x
  one_first x y xs ys up_xs up_ys same =
      let x_first = first_kept x x xs (tie_itself x) in
      let x_y : lt x y ≡ false = not_below_first x y ys (filter (ties lt x) xs) up_ys (same x ∙ x_first) in
      let y_x : lt y x ≡ false = not_below_first y x xs (filter (ties lt y) ys) up_xs (sym (same y) ∙ first_kept y y ys (tie_itself y)) in
      let one : y ∷ filter (ties lt x) ys ≡ x ∷ filter (ties lt x) xs = sym (first_kept y x ys (tie x y x_y y_x)) ∙ same x ∙ x_first in
      cc

  rest_kept : (b : Bool) (x : X) (us vs : List X) → cond b (x ∷ us) us ≡ cond b (x ∷ vs) vs → us ≡ vs
  rest_kept true x us vs e = cc
  rest_kept false x us vs e = e

  one_in_order : (xs ys : List X) → IsSortedBy lt xs → IsSortedBy lt ys → IsStableBy lt xs ys → ys ≡ xs
  one_in_order [] [] up_xs up_ys same = refl
  one_in_order [] (y ∷ ys) up_xs up_ys same = let none = sym (first_kept y y ys (tie_itself y)) ∙ same y in cc
  one_in_order (x ∷ xs) [] up_xs up_ys same = let none = same x ∙ first_kept x x xs (tie_itself x) in cc
  one_in_order (x ∷ xs) (y ∷ ys) up_xs up_ys same =
      let first : y ≡ x = one_first x y xs ys up_xs up_ys same in
      let rest : ys ≡ xs = one_in_order xs ys (sorted_rest x xs up_xs) (sorted_rest y ys up_ys)
      (λ z. rest_kept (ties lt z x) x (filter (ties lt z) ys) (filter (ties lt z) xs) (subst (λ w. cond (ties lt z w) (w ∷ filter (ties lt z) ys) (filter (ties lt z) ys) ≡ filter (ties lt z) (x ∷ xs)) first (same z))) in
      ap (λ z. z ∷ ys) first ∙ ap (λ zs. x ∷ zs) rest

-- ---- rows that are put stand in the order in which they came where they tie

abbrev before : Row → Row → Bool
before x y = is_lt (row_cmp x y)

ranked : IsStrictWeakOrder before
ranked = ranks_by row_cmp_total (λ (r : Row). r)

none_kept : {X : Type 0} (p : X → Bool) (xs : List X) → All (λ x. p x ≡ false) xs → filter p xs ≡ []
none_kept p [] none = refl
none_kept p (x ∷ xs) none = rw (All-head (λ y. p y ≡ false) x xs none) (none_kept p xs (All-tail (λ y. p y ≡ false) x xs none))

-- of rows in order of which the first is above a row, none ties with what ties with the row
none_ties : (row x z : Row) (xs : List Row) → IsInRowOrder (x ∷ xs) → is_gt (row_cmp x row) ≡ true → ties before z row ≡ true → All (λ y. ties before z y ≡ false) (x ∷ xs)
none_ties row x z xs up above tied k d below = by (ties before z (get_or (x ∷ xs) k d)) refl
  where
    by : (b : Bool) → ties before z (get_or (x ∷ xs) k d) ≡ b → b ≡ false
    by true is =
        let y = get_or (x ∷ xs) k d in
        let y_x : before y x ≡ false = sorted_far before ranked (x ∷ xs) up 0 k d (omega arith) below in
        let z_x : before z x ≡ false = ranked.chain z y x (neither_less before ranked z y is).0 y_x in
        let row_x : before row x ≡ false = ranked.chain row z x (neither_less before ranked z row tied).1 z_x in
        absurd (false≢true (sym row_x ∙ lt_turned x row ∙ above))
    by false is = refl

ahead_of_none : (b : Bool) (row : Row) (us : List Row) → (b ≡ true → us ≡ []) → cond b (row ∷ us) us ≡ us ++ cond b (row ∷ []) []
ahead_of_none true row us none = let e = none refl in rw e refl
ahead_of_none false row us none = sym (append-nil us)

behind_first : (b : Bool) (x : Row) (us vs ws : List Row) → us ≡ vs ++ ws → cond b (x ∷ us) us ≡ cond b (x ∷ vs) vs ++ ws
behind_first true x us vs ws e = ap (λ l. x ∷ l) e
behind_first false x us vs ws e = e

put_row_ties : (row z : Row) (xs : List Row) → IsInRowOrder xs → filter (ties before z) (put_row row xs) ≡ filter (ties before z) xs ++ filter (ties before z) (row ∷ [])
put_row_ties row z [] up = refl
put_row_ties row z (x ∷ xs) up = by (is_gt (row_cmp x row)) refl (put_row_ties row z xs (ordered_tail x xs up))
  where
    by : (b : Bool) → is_gt (row_cmp x row) ≡ b → filter (ties before z) (put_row row xs) ≡ filter (ties before z) xs ++ filter (ties before z) (row ∷ [])
        → filter (ties before z) (put_row row (x ∷ xs)) ≡ filter (ties before z) (x ∷ xs) ++ filter (ties before z) (row ∷ [])
    by true is rest = rw is (ahead_of_none (ties before z row) row (filter (ties before z) (x ∷ xs)) (λ tied. none_kept (ties before z) (x ∷ xs) (none_ties row x z xs up is tied)))
    by false is rest = rw is (behind_first (ties before z x) x (filter (ties before z) (put_row row xs)) (filter (ties before z) xs) (filter (ties before z) (row ∷ [])) rest)

pub put_rows_ties : (more rows : List Row) → IsInRowOrder rows → IsStable row_cmp (rows ++ more) (put_rows rows more)
put_rows_ties [] rows up z = ap (filter (ties before z)) (sym (append-nil rows))
put_rows_ties (row ∷ more) rows up z =
    let kept = filter (ties before z) in
    put_rows_ties more (put_row row rows) (ordered_put row rows up) z ∙ filter-append (ties before z) (put_row row rows) more
    ∙ ap (λ l. l ++ kept more) (put_row_ties row z rows up) ∙ append_assoc (kept rows) (kept (row ∷ [])) (kept more)
    ∙ ap (λ l. kept rows ++ l) (sym (filter-append (ties before z) (row ∷ []) more)) ∙ sym (filter-append (ties before z) rows (row ∷ more))

-- so rows that a stable sort left in order are the rows that are put one by one
pub sorted_is_put : (rows more sorted : List Row) → IsInRowOrder rows → IsStable row_cmp (rows ++ more) sorted → IsInRowOrder sorted → sorted ≡ put_rows rows more
sorted_is_put rows more sorted up stable sorted_up =
    one_in_order before ranked (put_rows rows more) sorted (put_rows_ordered more rows up) sorted_up (λ z. stable z ∙ sym (put_rows_ties more rows up z))

-- none and one are put as they came
pub few_are_put : (rows : List Row) → length rows < 2 → rows ≡ put_rows [] rows
few_are_put [] few = refl
few_are_put (row ∷ []) few = refl
few_are_put (row ∷ next ∷ more) few = absurd (omega arith)
