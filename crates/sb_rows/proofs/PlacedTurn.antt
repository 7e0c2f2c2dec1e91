-- Where in the order of a table's rows a new row goes, by halving the places of its rank.
use Rattle.std.proofs.Common.{◌≡◌, ℕ, ◌+◌, ◌<◌, ◌≤◌, Bool, true, false, ltb, List, length, get_or, sym, ap, refl, ◌∙◌, arith, inl, inr}
use Rattle.std.specs.Prelude.{◌⊎◌}
use Rattle.std.specs.List.{All, Contains}
use Rattle.std.specs.Map.{keys_of}
use Rattle.std.specs.Ordering.{is_gt, is_lt, nat_cmp, ordering_then}
use Rattle.std.specs.declared.cmp.Ordering.TheVariants.{Less, Greater}
use Rattle.std.proofs.lemmas.Bool.{false≢true}
use Rattle.std.proofs.lemmas.Bool.Decides.{nat_tests}
use Rattle.std.proofs.lemmas.Cmp.{upto}
use Rattle.std.proofs.lemmas.List.{get_or-map, length-map}
use Rattle.std.proofs.lemmas.List.Elements.{All-contains}
use Rattle.std.proofs.lemmas.List.MinMax.{ranks_by}
use Rattle.std.proofs.lemmas.List.Sorted.{sorted_far}
use Rattle.std.proofs.lemmas.Map.Keys.{below_from_sorted}
use Rattle.std.proofs.lemmas.Map.Made.{Contains-values_of}
use Rattle.sb_model.specs.declared.row.Row.{Row}
use Rattle.sb_rows.specs.Row.{IsInRowOrder, row_cmp}
use Rattle.sb_rows.specs.inner.Beside.{FitsItsKey, key_of_row, order_of_keys}
use Rattle.sb_rows.specs.inner.Store.{ArePlaced, IsPartedAt, NumbersRise, first_place, rows_of_places}
use Rattle.sb_rows.specs.inner.Tables.{key_of, rank_of}
use Rattle.sb_rows.proofs.Order.{greater_is_after, less_is_not_after, lt_turned, row_cmp_total}
use Rattle.sb_rows.proofs.PlacedParts.{IsInside}
use Rattle.sb_rows.proofs.PlacedRank.{placed_at}
use Rattle.sb_rows.proofs.Tables.{keys_order}

-- ---- rows of other ranks

lower : (k a b : ℕ) → a < b → ordering_then (nat_cmp k k) (nat_cmp a b) ≡ Less
lower k a b h = grind (arith, nat_tests)

higher : (k a b : ℕ) → b < a → ordering_then (nat_cmp k k) (nat_cmp a b) ≡ Greater
higher k a b h = grind (arith, nat_tests)

module _ (row x : Row) (key : key_of x ≡ key_of row) (fits : FitsItsKey row) (others : FitsItsKey x) where
  pub lower_not_after : rank_of x < rank_of row → is_gt (row_cmp x row) ≡ false
  lower_not_after less =
      let by_keys : order_of_keys (key_of_row x) (key_of_row row) ≡ Less = ap (λ k. ordering_then (nat_cmp k (key_of row)) (nat_cmp (rank_of x) (rank_of row))) key ∙ lower (key_of row) (rank_of x) (rank_of row) less in
      sym (less_is_not_after x row (sym by_keys ∙ keys_order x row others fits))

  pub higher_after : rank_of row < rank_of x → is_gt (row_cmp x row) ≡ true
  higher_after more =
      let by_keys : order_of_keys (key_of_row x) (key_of_row row) ≡ Greater = ap (λ k. ordering_then (nat_cmp k (key_of row)) (nat_cmp (rank_of x) (rank_of row))) key ∙ higher (key_of row) (rank_of x) (rank_of row) more in
      sym (greater_is_after x row (sym by_keys ∙ keys_order x row others fits))

-- ---- the rows are in the order of their places

module _ (rows : List (ℕ × Row)) (rise : NumbersRise rows) (up : IsInRowOrder (rows_of_places rows)) where
  at_key : (i p : ℕ) (x : Row) → i < length rows → get_or rows i (p, x) ≡ (p, x) → get_or (keys_of rows) i 0 ≡ p
  at_key i p x within is = get_or-map (λ (e : ℕ × Row). e.0) rows i (p, x) 0 within ∙ ap (λ (e : ℕ × Row). e.0) is

  at_row : (i p : ℕ) (x d : Row) → i < length rows → get_or rows i (p, x) ≡ (p, x) → get_or (rows_of_places rows) i d ≡ x
  at_row i p x d within is = get_or-map (λ (e : ℕ × Row). e.1) rows i (p, x) d within ∙ ap (λ (e : ℕ × Row). e.1) is

  -- a higher place is further on
  further : (i j p q : ℕ) (x y : Row) → i < length rows → j < length rows → get_or rows i (p, x) ≡ (p, x) → get_or rows j (q, y) ≡ (q, y) → p ≤ q → i ≤ j
  further i j p q x y i_in j_in i_is j_is le = by (ltb j i) refl
    where
      long : length (keys_of rows) ≡ length rows
      long = length-map rows (λ (e : ℕ × Row). e.0)

      by : (b : Bool) → ltb j i ≡ b → i ≤ j
      by false is = grind (arith, nat_tests)
      by true is =
          let less : j < i = grind (arith, nat_tests) in
          let below = below_from_sorted (keys_of rows) j i 0 rise less (omega (arith, long)) in
          let first = at_key j q y j_in j_is in
          let second = at_key i p x i_in i_is in
          absurd (omega arith)

  pub in_order : (p q : ℕ) (x y : Row) → Contains rows (p, x) → Contains rows (q, y) → p ≤ q → is_gt (row_cmp x y) ≡ false
  in_order p q x y (i, i_in, i_is) (j, j_in, j_is) le =
      let long : length (rows_of_places rows) ≡ length rows = length-map rows (λ (e : ℕ × Row). e.1) in
      let far : is_lt (row_cmp (get_or (rows_of_places rows) j x) (get_or (rows_of_places rows) i x)) ≡ false = sorted_far _ (ranks_by row_cmp_total (λ (r : Row). r)) (rows_of_places rows) up i j x (further i j p q x y i_in j_in i_is j_is le) (omega (arith, long)) in
      let first = at_row i p x x i_in i_is in
      let second = at_row j q y x j_in j_is in
      sym (lt_turned x y) ∙ sym (ap (λ r. is_lt (row_cmp r (get_or (rows_of_places rows) i x))) second ∙ ap (λ r. is_lt (row_cmp y r)) first) ∙ far

  module _ (row : Row) (p : ℕ) (x : Row) (at : Contains rows (p, x)) where
    -- from a row that is after the new one on all are
    pub after_on : is_gt (row_cmp x row) ≡ true → (q : ℕ) (y : Row) → Contains rows (q, y) → p ≤ q → is_gt (row_cmp y row) ≡ true
    after_on after q y there le = by (is_gt (row_cmp y row)) refl
      where
        by : (b : Bool) → is_gt (row_cmp y row) ≡ b → b ≡ true
        by true is = refl
        by false is = absurd (false≢true (sym (upto row_cmp_total x y row (in_order p q x y at there le) is) ∙ after))

    -- up to one that is not after it none is
    pub not_after_to : is_gt (row_cmp x row) ≡ false → (q : ℕ) (y : Row) → Contains rows (q, y) → q ≤ p → is_gt (row_cmp y row) ≡ false
    not_after_to not_after q y there le = upto row_cmp_total y x row (in_order q p y x there at le) not_after

-- ---- the search

-- the new row goes from the low place on, and up to the high one
pub record IsSought (row : Row) (rows : List (ℕ × Row)) (low high : ℕ) : Type 0 where
  pub from : first_place (rank_of row) ≤ low
  pub to : high ≤ first_place (rank_of row + 1)
  pub rise : low ≤ high
  pub before : (q : ℕ) (y : Row) → Contains rows (q, y) → q < low → is_gt (row_cmp y row) ≡ false
  pub after : (q : ℕ) (y : Row) → Contains rows (q, y) → high ≤ q → is_gt (row_cmp y row) ≡ true

module _ (rows : List (ℕ × Row)) (are : ArePlaced rows) (up : IsInRowOrder (rows_of_places rows)) (row : Row) where
  -- at first it may go anywhere in its rank
  pub sought_in_rank : All (λ r. key_of r ≡ key_of row) (rows_of_places rows) → FitsItsKey row → (low : ℕ) → low ≡ first_place (rank_of row) → IsSought row rows low (low + 604462909807314587353088)
  sought_in_rank keys fits low is = record {
    from = omega arith;
    to = omega arith;
    rise = omega arith;
    before = λ q y at less.
        let place = placed_at rows are q y at in
        lower_not_after row y (key y q at) fits place.fits (below_rank (rank_of y) (rank_of row) q place.from (omega arith));
    after = λ q y at more.
        let place = placed_at rows are q y at in
        higher_after row y (key y q at) fits place.fits (above_rank (rank_of y) (rank_of row) q place.below (omega arith));
  }
    where
      key : (y : Row) (q : ℕ) → Contains rows (q, y) → key_of y ≡ key_of row
      key y q at = All-contains (λ (r : Row). key_of r ≡ key_of row) (rows_of_places rows) y keys (Contains-values_of rows q y at)

      below_rank : (a b q : ℕ) → first_place a ≤ q → q < first_place b → a < b
      below_rank a b q h k = omega arith

      above_rank : (a b q : ℕ) → q < first_place (a + 1) → first_place (b + 1) ≤ q → b < a
      above_rank a b q h k = omega arith

  module _ (low middle high : ℕ) (is : IsSought row rows low high) (from : low ≤ middle) (to : middle < high) (e : ℕ × Row) where
    -- the first row from the middle on is after it
    pub sought_lower : IsInside middle high rows e → ((q : ℕ) (y : Row) → Contains rows (q, y) → middle ≤ q → q < high → e.0 ≤ q) → is_gt (row_cmp e.1 row) ≡ true → IsSought row rows low middle
    sought_lower inside first after = record {
      from = is.from;
      to = let bound = is.to in omega arith;
      rise = from;
      before = is.before;
      after = λ q y at le. by q y at le (ltb q high) refl;
    }
      where
        by : (q : ℕ) (y : Row) → Contains rows (q, y) → middle ≤ q → (b : Bool) → ltb q high ≡ b → is_gt (row_cmp y row) ≡ true
        by q y at le true less = after_on rows are.rise up row e.0 e.1 inside.there after q y at (first q y at le (grind (arith, nat_tests)))
        by q y at le false more = is.after q y at (grind (arith, nat_tests))

    -- the first row from the middle on is not after it
    pub sought_higher : IsInside middle high rows e → is_gt (row_cmp e.1 row) ≡ false → IsSought row rows (e.0 + 1) high
    sought_higher inside not_after = record {
      from = let bound = is.from in let more = inside.from in omega arith;
      to = is.to;
      rise = let less = inside.below in omega arith;
      before = λ q y at less. not_after_to rows are.rise up row e.0 e.1 inside.there not_after q y at (omega arith);
      after = is.after;
    }

    module _ (none : (q : ℕ) (y : Row) → Contains rows (q, y) → middle ≤ q → q < high → ⊥) where
      -- there is none from the middle on, and the last one before it is after the row
      pub sought_to_last : IsInside low middle rows e → is_gt (row_cmp e.1 row) ≡ true → IsSought row rows low e.0
      sought_to_last inside after = record {
        from = is.from;
        to = let bound = is.to in let less = inside.below in omega arith;
        rise = inside.from;
        before = is.before;
        after = λ q y at le. after_on rows are.rise up row e.0 e.1 inside.there after q y at le;
      }

      -- or is not after it
      pub sought_past_last : IsInside low middle rows e → ((q : ℕ) (y : Row) → Contains rows (q, y) → low ≤ q → q < middle → q ≤ e.0) → is_gt (row_cmp e.1 row) ≡ false → IsSought row rows (e.0 + 1) (e.0 + 1)
      sought_past_last inside last not_after = record {
        from = let bound = is.from in let more = inside.from in omega arith;
        to = let bound = is.to in let less = inside.below in omega arith;
        rise = omega arith;
        before = λ q y at less. not_after_to rows are.rise up row e.0 e.1 inside.there not_after q y at (omega arith);
        after = λ q y at le. by q y at le (ltb q middle) refl (ltb q high) refl;
      }
        where
          by : (q : ℕ) (y : Row) → Contains rows (q, y) → e.0 + 1 ≤ q → (b : Bool) → ltb q middle ≡ b → (d : Bool) → ltb q high ≡ d → is_gt (row_cmp y row) ≡ true
          by q y at le true less d _ = let more = inside.from in let most = last q y at (omega arith) (grind (arith, nat_tests)) in absurd (omega arith)
          by q y at le false more true less = absurd (none q y at (grind (arith, nat_tests)) (grind (arith, nat_tests)))
          by q y at le false more false much = is.after q y at (grind (arith, nat_tests))

  -- there is none at all
  pub sought_here : (low middle high : ℕ) → IsSought row rows low high → ((q : ℕ) (y : Row) → Contains rows (q, y) → middle ≤ q → q < high → ⊥) → ((q : ℕ) (y : Row) → Contains rows (q, y) → low ≤ q → q < middle → ⊥) → IsSought row rows low low
  sought_here low middle high is none none_before = record {
    from = is.from;
    to = let bound = is.to in let rise = is.rise in omega arith;
    rise = omega arith;
    before = is.before;
    after = λ q y at le. by q y at le (ltb q middle) refl (ltb q high) refl;
  }
    where
      by : (q : ℕ) (y : Row) → Contains rows (q, y) → low ≤ q → (b : Bool) → ltb q middle ≡ b → (d : Bool) → ltb q high ≡ d → is_gt (row_cmp y row) ≡ true
      by q y at le true less d _ = absurd (none_before q y at le (grind (arith, nat_tests)))
      by q y at le false more true less = absurd (none q y at (grind (arith, nat_tests)) (grind (arith, nat_tests)))
      by q y at le false more false much = is.after q y at (grind (arith, nat_tests))

  -- at the end the rows are parted
  pub sought_is_parted : (low high : ℕ) → IsSought row rows low high → high ≤ low → IsPartedAt row low rows
  sought_is_parted low high is le there x at = by (ltb there low) refl
    where
      by : (b : Bool) → ltb there low ≡ b → ((there < low) × (is_gt (row_cmp x row) ≡ false)) ⊎ ((low ≤ there) × (is_gt (row_cmp x row) ≡ true))
      by true less = let below : there < low = grind (arith, nat_tests) in inl (below, is.before there x at below)
      by false more = let from : low ≤ there = grind (arith, nat_tests) in inr (from, is.after there x at (omega arith))
