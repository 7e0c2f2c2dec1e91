-- The rows of tables by their places: the first of a table that passes, one more, and one less.
use Rattle.std.proofs.Common.{◌≡◌, ℕ, ◌<◌, ◌≤◌, Bool, true, false, cond, not, List, [], ◌∷◌, ◌++◌, get_or, eqb, sym, ap, subst, refl, ◌∙◌, arith, append_assoc, ◌⊎◌, inl, inr}
use Rattle.std.specs.Prelude.{◌&&◌, Option, Some, None}
use Rattle.std.specs.Bool.{OnTrue, OnFalse}
use Rattle.std.specs.List.{All, AllByRecursion, Contains, filter, find}
use Rattle.std.specs.List.Sorted.{IsStrictlySortedBy}
use Rattle.std.specs.Map.{keys_of, lookup, set_value, remove_entry}
use Rattle.std.specs.BTreeMap.{insert_entry, is_at}
use Rattle.std.specs.Ordering.{match_ordering}
use Rattle.std.specs.declared.cmp.Ordering.{Ordering}
use Rattle.std.specs.declared.cmp.Ordering.TheVariants.{Less, Equal, Greater}
use Rattle.std.specs.Ordering.{is_eq, is_gt, is_lt, nat_cmp}
use Rattle.std.proofs.lemmas.Bool.{false≢true}
use Rattle.std.proofs.lemmas.Bool.Decides.{nat_tests}
use Rattle.std.proofs.lemmas.List.Elements.{All-head, All-tail, All-cons, All-append, All-nil, filter-append, Contains-append_cases, Contains-append_left, Contains-append_right}
use Rattle.sb_model.specs.declared.row.Row.{Row}
use Rattle.sb_rows.specs.Row.{IsWithout, put_row, row_cmp}
use Rattle.sb_rows.specs.inner.Store.{AreTables, NumbersRise, flat}
use Rattle.sb_rows.specs.inner.Tables.{key_of, table_key}
use Rattle.sb_rows.specs.Match.{is_in_table, select}
use Rattle.expr_core.specs.Lookup.{Lookup}
use Rattle.expr_eval.specs.MatchMeaning.{holds}
use Rattle.pkt_core.specs.Packet.{Values}
use Rattle.nv_base.specs.declared.object.ObjId.{ObjId}
use Rattle.sb_model.specs.declared.stage.Stage.{Stage}
use Rattle.sb_rows.proofs.Order.{key_from_row, lt_turned}
use Rattle.sb_rows.proofs.Tables.{find_alike, in_table-key, key_from_order}

-- ---- numbers by their order

less : (a b : ℕ) → nat_cmp a b ≡ Less → a < b
less a b e = grind (arith, nat_tests)

equal : (a b : ℕ) → nat_cmp a b ≡ Equal → a ≡ b
equal a b e = grind (arith, nat_tests)

greater : (a b : ℕ) → nat_cmp a b ≡ Greater → b < a
greater a b e = grind (arith, nat_tests)

other : (a b : ℕ) → a < b → eqb b a ≡ false
other a b lt = grind (arith, nat_tests)

other_above : (a b : ℕ) → b < a → eqb b a ≡ false
other_above a b lt = grind (arith, nat_tests)

same : (a : ℕ) → eqb a a ≡ true
same a = grind (arith, nat_tests)

same_number : (a : ℕ) → nat_cmp a a ≡ Equal
same_number a = grind (arith, nat_tests)

pub is_less : (a b : ℕ) → a < b → nat_cmp a b ≡ Less
is_less a b lt = grind (arith, nat_tests)

pub none_is_some : {X : Type 0} {x : X} → ◌≡◌ {A = Option X} None (Some x) → ⊥
none_is_some e = cc

pub some_is : {X : Type 0} {x y : X} → Some x ≡ Some y → x ≡ y
some_is e = cc

all_contained : (P : Row → Type 0) (rows : List Row) (row : Row) → All P rows → Contains rows row → P row
all_contained P rows row all there = subst P there.2 (all there.0 row there.1)

lookup_above : (t low : ℕ) → t ≤ low → (es : List (ℕ × List Row)) → AllByRecursion (λ n. nat_cmp low n ≡ Less) (keys_of es) → lookup (is_at (nat_cmp t)) es ≡ None
lookup_above t low le [] above = refl
lookup_above t low le (e ∷ es) above = rw (is_less t e.0 (omega (arith, le, less low e.0 above.0))) (lookup_above t low le es above.1)

-- each row of a table has its place
abbrev pub IsKeyed : ℕ × List Row → Type 0
IsKeyed table = All (λ (row : Row). key_of row ≡ table.0) table.1

tail_rises : (e : ℕ × List Row) (es : List (ℕ × List Row)) → NumbersRise (e ∷ es) → NumbersRise es
unfolding IsStrictlySortedBy
tail_rises e es rise = rise.1

head_below : (e : ℕ × List Row) (es : List (ℕ × List Row)) → NumbersRise (e ∷ es) → AllByRecursion (λ n. nat_cmp e.0 n ≡ Less) (keys_of es)
unfolding IsStrictlySortedBy
head_below e es rise = rise.0

-- what holds of each row of all tables
all_mapped : (P Q : Row → Type 0) → ((r : Row) → P r → Q r) → (rows : List Row) → All P rows → All Q rows
all_mapped P Q to rows all k d lt = to (get_or rows k d) (all k d lt)

-- the rows of tables that are above a number have keys above it
keys_above : (low : ℕ) (es : List (ℕ × List Row)) → AllByRecursion (λ n. nat_cmp low n ≡ Less) (keys_of es) → All IsKeyed es → All (λ (r : Row). low < key_of r) (flat es)
keys_above low [] above keyed = All-nil (λ (r : Row). low < key_of r)
keys_above low (e ∷ es) above keyed =
    All-append (λ (r : Row). low < key_of r) e.1 (flat es)
    (all_mapped (λ (r : Row). key_of r ≡ e.0) (λ (r : Row). low < key_of r) (λ r is. omega (arith, is, less low e.0 above.0)) e.1 (All-head IsKeyed e es keyed))
    (keys_above low es above.1 (All-tail IsKeyed e es keyed))

-- and so they have where the first table is above it
rest_above : (low : ℕ) (e : ℕ × List Row) (es : List (ℕ × List Row)) → low ≤ e.0 → NumbersRise (e ∷ es) → All IsKeyed (e ∷ es) → All (λ (r : Row). low < key_of r) (flat es)
rest_above low e es le rise keyed =
    all_mapped (λ (r : Row). e.0 < key_of r) (λ (r : Row). low < key_of r) (λ r lt. omega (arith, lt, le)) (flat es)
    (keys_above e.0 es (head_below e es rise) (All-tail IsKeyed e es keyed))

-- ---- the first that passes

module _ {X : Type 0} (p : X → Bool) where
  find_skip : (xs ys : List X) → All (λ x. p x ≡ false) xs → find p (xs ++ ys) ≡ find p ys
  find_skip [] ys fails = refl
  find_skip (x ∷ xs) ys fails = rw (All-head (λ x. p x ≡ false) x xs fails) (find_skip xs ys (All-tail (λ x. p x ≡ false) x xs fails))

  find_nothing : (xs : List X) → All (λ x. p x ≡ false) xs → find p xs ≡ None
  find_nothing [] fails = refl
  find_nothing (x ∷ xs) fails = rw (All-head (λ x. p x ≡ false) x xs fails) (find_nothing xs (All-tail (λ x. p x ≡ false) x xs fails))

  find_stop : (xs ys : List X) → All (λ x. p x ≡ false) ys → find p (xs ++ ys) ≡ find p xs
  find_stop [] ys fails = find_nothing ys fails
  find_stop (x ∷ xs) ys fails = ap (λ o. cond (p x) (Some x) o) (find_stop xs ys fails)

module _ (t : ℕ) (passes : Row → Bool) where
  -- the row is of the table of this key, and passes
  abbrev acts : Row → Bool
  acts r = eqb (key_of r) t && passes r

  -- what is found in a table, if it is there
  abbrev pub found_in : Option (List Row) → Option Row
  found_in None = None
  found_in (Some rows) = find passes rows

  fails_below : (rows : List Row) → All (λ (r : Row). key_of r < t) rows → All (λ r. acts r ≡ false) rows
  fails_below rows below k d lt = ap (λ (b : Bool). b && passes (get_or rows k d)) (other_above t (key_of (get_or rows k d)) (below k d lt))

  fails_above : (rows : List Row) → All (λ (r : Row). t < key_of r) rows → All (λ r. acts r ≡ false) rows
  fails_above rows above k d lt = ap (λ (b : Bool). b && passes (get_or rows k d)) (other t (key_of (get_or rows k d)) (above k d lt))

  -- among the rows of the table the first that passes is looked for
  find_own : (rows : List Row) → All (λ (r : Row). key_of r ≡ t) rows → find acts rows ≡ find passes rows
  find_own [] own = refl
  find_own (x ∷ xs) own =
      rw (ap (λ n. eqb n t) (All-head (λ (r : Row). key_of r ≡ t) x xs own) ∙ same t, find_own xs (All-tail (λ (r : Row). key_of r ≡ t) x xs own)) refl

  -- the first of all rows that is of a table and passes is the first of its rows that does
  pub find_flat : (tables : List (ℕ × List Row)) → NumbersRise tables → All IsKeyed tables → find acts (flat tables) ≡ found_in (lookup (is_at (nat_cmp t)) tables)
  find_flat [] rise keyed = refl
  find_flat (e ∷ es) rise keyed = by (nat_cmp t e.0) refl (find_flat es (tail_rises e es rise) (All-tail IsKeyed e es keyed))
    where
      own : All (λ (r : Row). key_of r ≡ e.0) e.1
      own = All-head IsKeyed e es keyed

      by : (o : Ordering) → nat_cmp t e.0 ≡ o → find acts (flat es) ≡ found_in (lookup (is_at (nat_cmp t)) es) → find acts (e.1 ++ flat es) ≡ found_in (cond (is_eq o) (Some e.1) (lookup (is_at (nat_cmp t)) es))
      by Less is rest =
          let lt = less t e.0 is in
          let first : All (λ (r : Row). t < key_of r) e.1 = all_mapped (λ (r : Row). key_of r ≡ e.0) (λ (r : Row). t < key_of r) (λ r at. omega (arith, at, lt)) e.1 own in
          find_skip acts e.1 (flat es) (fails_above e.1 first) ∙ rest
      by Equal is rest =
          let eq = equal t e.0 is in
          find_stop acts e.1 (flat es) (fails_above (flat es) (rest_above t e es (omega (arith, eq)) rise keyed))
          ∙ find_own e.1 (all_mapped (λ (r : Row). key_of r ≡ e.0) (λ (r : Row). key_of r ≡ t) (λ r at. at ∙ sym eq) e.1 own)
      by Greater is rest =
          let lt = greater t e.0 is in
          let first : All (λ (r : Row). key_of r < t) e.1 = all_mapped (λ (r : Row). key_of r ≡ e.0) (λ (r : Row). key_of r < t) (λ r at. omega (arith, at, lt)) e.1 own in
          find_skip acts e.1 (flat es) (fails_below e.1 first) ∙ rest

-- ---- one more row

gt_not_lt : (o : Ordering) → is_gt o ≡ true → is_lt o ≡ false
gt_not_lt Less e = absurd (false≢true e)
gt_not_lt Equal e = refl
gt_not_lt Greater e = refl

-- a row that is not before another has no lower table
order_tells_keys : (x y : Row) → is_lt (row_cmp y x) ≡ false → key_of x ≤ key_of y
order_tells_keys x y e = key_from_order x y (key_from_row x y e)

-- a row of a lower table is not after another, and one of a higher table is
not_after_below : (x row : Row) → key_of x < key_of row → is_gt (row_cmp x row) ≡ false
not_after_below x row lt = by (is_gt (row_cmp x row)) refl
  where
    by : (b : Bool) → is_gt (row_cmp x row) ≡ b → b ≡ false
    by false is = refl
    by true is = let le = order_tells_keys row x (gt_not_lt (row_cmp x row) is) in absurd (omega (arith, le, lt))

after_above : (x row : Row) → key_of row < key_of x → is_gt (row_cmp x row) ≡ true
after_above x row lt = by (is_gt (row_cmp x row)) refl
  where
    by : (b : Bool) → is_gt (row_cmp x row) ≡ b → b ≡ true
    by true is = refl
    by false is = let le = order_tells_keys x row (lt_turned x row ∙ is) in absurd (omega (arith, le, lt))

module _ (row : Row) where
  abbrev Above : Row → Type 0
  Above x = is_gt (row_cmp x row) ≡ true

  abbrev NotAbove : Row → Type 0
  NotAbove x = is_gt (row_cmp x row) ≡ false

  -- a row goes past those that it is not before, and ahead of those that are after it
  pub put_past : (xs ys : List Row) → All NotAbove xs → put_row row (xs ++ ys) ≡ xs ++ put_row row ys
  put_past [] ys not = refl
  put_past (x ∷ xs) ys not = rw (All-head NotAbove x xs not) (ap (λ zs. x ∷ zs) (put_past xs ys (All-tail NotAbove x xs not)))

  pub put_ahead : (ys : List Row) → All Above ys → put_row row ys ≡ row ∷ ys
  put_ahead [] above = refl
  put_ahead (y ∷ ys) above = rw (All-head Above y ys above) refl

  pub put_within : (xs ys : List Row) → All Above ys → put_row row (xs ++ ys) ≡ put_row row xs ++ ys
  put_within [] ys above = put_ahead ys above
  put_within (x ∷ xs) ys above = by (is_gt (row_cmp x row)) (put_within xs ys above)
    where
      by : (b : Bool) → put_row row (xs ++ ys) ≡ put_row row xs ++ ys → cond b (row ∷ x ∷ (xs ++ ys)) (x ∷ put_row row (xs ++ ys)) ≡ cond b (row ∷ x ∷ xs) (x ∷ put_row row xs) ++ ys
      by true rest = refl
      by false rest = ap (λ zs. x ∷ zs) rest

  -- what holds of a row and of others holds of all where it is put among them
  pub put_all : (P : Row → Type 0) → P row → (xs : List Row) → All P xs → All P (put_row row xs)
  put_all P is [] all = All-cons P row [] is all
  put_all P is (x ∷ xs) all = by (is_gt (row_cmp x row)) (put_all P is xs (All-tail P x xs all))
    where
      by : (b : Bool) → All P (put_row row xs) → All P (cond b (row ∷ x ∷ xs) (x ∷ put_row row xs))
      by true rest = All-cons P row (x ∷ xs) is all
      by false rest = All-cons P x (put_row row xs) (All-head P x xs all) rest

  module _ (low : ℕ) where
    below_not_above : (rows : List Row) → low < key_of row → All (λ (r : Row). key_of r ≡ low) rows → All NotAbove rows
    below_not_above rows lt own = all_mapped (λ (r : Row). key_of r ≡ low) NotAbove (λ r at. not_after_below r row (omega (arith, at, lt))) rows own

  higher_above : (rows : List Row) → All (λ (r : Row). key_of row < key_of r) rows → All Above rows
  higher_above rows high = all_mapped (λ (r : Row). key_of row < key_of r) Above (λ r lt. after_above r row lt) rows high

  -- a row put in its table is put among all rows
  pub flat_put : (tables : List (ℕ × List Row)) (rows : List Row) → NumbersRise tables → All IsKeyed tables → lookup (is_at (nat_cmp (key_of row))) tables ≡ Some rows
      → flat (set_value (is_at (nat_cmp (key_of row))) tables (put_row row rows)) ≡ put_row row (flat tables)
  flat_put [] rows rise keyed found = absurd (none_is_some found)
  flat_put (e ∷ es) rows rise keyed found = by (nat_cmp (key_of row) e.0) refl (flat_put es rows (tail_rises e es rise) (All-tail IsKeyed e es keyed)) found
    where
      by : (o : Ordering) → nat_cmp (key_of row) e.0 ≡ o
          → (lookup (is_at (nat_cmp (key_of row))) es ≡ Some rows → flat (set_value (is_at (nat_cmp (key_of row))) es (put_row row rows)) ≡ put_row row (flat es))
          → cond (is_eq o) (Some e.1) (lookup (is_at (nat_cmp (key_of row))) es) ≡ Some rows
          → flat (cond (is_eq o) ((e.0, put_row row rows) ∷ es) (e ∷ set_value (is_at (nat_cmp (key_of row))) es (put_row row rows))) ≡ put_row row (e.1 ++ flat es)
      by Less is rest found = absurd (none_is_some (sym (lookup_above (key_of row) e.0 (omega (arith, less (key_of row) e.0 is)) es (head_below e es rise)) ∙ found))
      by Equal is rest found =
          let eq = equal (key_of row) e.0 is in
          ap (λ r. put_row row r ++ flat es) (sym (some_is found)) ∙ sym (put_within e.1 (flat es) (higher_above (flat es) (rest_above (key_of row) e es (omega (arith, eq)) rise keyed)))
      by Greater is rest found =
          ap (λ zs. e.1 ++ zs) (rest found)
          ∙ sym (put_past e.1 (flat es) (below_not_above e.0 e.1 (greater (key_of row) e.0 is) (All-head IsKeyed e es keyed)))

  -- and so is one for which a table is put in
  pub flat_insert : (tables : List (ℕ × List Row)) → NumbersRise tables → All IsKeyed tables → lookup (is_at (nat_cmp (key_of row))) tables ≡ None
      → flat (insert_entry nat_cmp tables (key_of row) (row ∷ [])) ≡ put_row row (flat tables)
  flat_insert [] rise keyed none = refl
  flat_insert (e ∷ es) rise keyed none = by (nat_cmp (key_of row) e.0) refl (flat_insert es (tail_rises e es rise) (All-tail IsKeyed e es keyed)) none
    where
      by : (o : Ordering) → nat_cmp (key_of row) e.0 ≡ o
          → (lookup (is_at (nat_cmp (key_of row))) es ≡ None → flat (insert_entry nat_cmp es (key_of row) (row ∷ [])) ≡ put_row row (flat es))
          → cond (is_eq o) (Some e.1) (lookup (is_at (nat_cmp (key_of row))) es) ≡ None
          → flat (match_ordering o ((key_of row, row ∷ []) ∷ e ∷ es) ((e.0, row ∷ []) ∷ es) (e ∷ insert_entry nat_cmp es (key_of row) (row ∷ []))) ≡ put_row row (e.1 ++ flat es)
      by Less is rest none =
          let lt = less (key_of row) e.0 is in
          sym (put_ahead (e.1 ++ flat es) (higher_above (e.1 ++ flat es)
          (All-append (λ (r : Row). key_of row < key_of r) e.1 (flat es)
          (all_mapped (λ (r : Row). key_of r ≡ e.0) (λ (r : Row). key_of row < key_of r) (λ r at. omega (arith, at, lt)) e.1 (All-head IsKeyed e es keyed))
          (rest_above (key_of row) e es (omega (arith, lt)) rise keyed))))
      by Equal is rest none = absurd (none_is_some (sym none))
      by Greater is rest none =
          ap (λ zs. e.1 ++ zs) (rest none)
          ∙ sym (put_past e.1 (flat es) (below_not_above e.0 e.1 (greater (key_of row) e.0 is) (All-head IsKeyed e es keyed)))

-- ---- the tables that are left are of their places

pub keyed_found : (t : ℕ) (tables : List (ℕ × List Row)) (rows : List Row) → All IsKeyed tables → lookup (is_at (nat_cmp t)) tables ≡ Some rows → All (λ (r : Row). key_of r ≡ t) rows
keyed_found t [] rows keyed found = absurd (none_is_some found)
keyed_found t (e ∷ es) rows keyed found = by (nat_cmp t e.0) refl (keyed_found t es rows (All-tail IsKeyed e es keyed)) found
  where
    by : (o : Ordering) → nat_cmp t e.0 ≡ o → (lookup (is_at (nat_cmp t)) es ≡ Some rows → All (λ (r : Row). key_of r ≡ t) rows) → cond (is_eq o) (Some e.1) (lookup (is_at (nat_cmp t)) es) ≡ Some rows → All (λ (r : Row). key_of r ≡ t) rows
    by Less is rest found = rest found
    by Equal is rest found =
        subst (λ rs. All (λ (r : Row). key_of r ≡ t) rs) (some_is found)
        (all_mapped (λ (r : Row). key_of r ≡ e.0) (λ (r : Row). key_of r ≡ t) (λ r at. at ∙ sym (equal t e.0 is)) e.1 (All-head IsKeyed e es keyed))
    by Greater is rest found = rest found

pub keyed_set : (t : ℕ) (tables : List (ℕ × List Row)) (rows : List Row) → All IsKeyed tables → All (λ (r : Row). key_of r ≡ t) rows → All IsKeyed (set_value (is_at (nat_cmp t)) tables rows)
keyed_set t [] rows keyed own = keyed
keyed_set t (e ∷ es) rows keyed own = by (nat_cmp t e.0) refl (keyed_set t es rows (All-tail IsKeyed e es keyed) own)
  where
    by : (o : Ordering) → nat_cmp t e.0 ≡ o → All IsKeyed (set_value (is_at (nat_cmp t)) es rows) → All IsKeyed (cond (is_eq o) ((e.0, rows) ∷ es) (e ∷ set_value (is_at (nat_cmp t)) es rows))
    by Less is rest = All-cons IsKeyed e (set_value (is_at (nat_cmp t)) es rows) (All-head IsKeyed e es keyed) rest
    by Equal is rest =
        All-cons IsKeyed (e.0, rows) es (all_mapped (λ (r : Row). key_of r ≡ t) (λ (r : Row). key_of r ≡ e.0) (λ r at. at ∙ equal t e.0 is) rows own) (All-tail IsKeyed e es keyed)
    by Greater is rest = All-cons IsKeyed e (set_value (is_at (nat_cmp t)) es rows) (All-head IsKeyed e es keyed) rest

pub keyed_insert : (t : ℕ) (tables : List (ℕ × List Row)) (rows : List Row) → All IsKeyed tables → All (λ (r : Row). key_of r ≡ t) rows → All IsKeyed (insert_entry nat_cmp tables t rows)
keyed_insert t [] rows keyed own = All-cons IsKeyed (t, rows) [] own keyed
keyed_insert t (e ∷ es) rows keyed own = by (nat_cmp t e.0) refl (keyed_insert t es rows (All-tail IsKeyed e es keyed) own)
  where
    by : (o : Ordering) → nat_cmp t e.0 ≡ o → All IsKeyed (insert_entry nat_cmp es t rows) → All IsKeyed (match_ordering o ((t, rows) ∷ e ∷ es) ((e.0, rows) ∷ es) (e ∷ insert_entry nat_cmp es t rows))
    by Less is rest = All-cons IsKeyed (t, rows) (e ∷ es) own keyed
    by Equal is rest =
        All-cons IsKeyed (e.0, rows) es (all_mapped (λ (r : Row). key_of r ≡ t) (λ (r : Row). key_of r ≡ e.0) (λ r at. at ∙ equal t e.0 is) rows own) (All-tail IsKeyed e es keyed)
    by Greater is rest = All-cons IsKeyed e (insert_entry nat_cmp es t rows) (All-head IsKeyed e es keyed) rest

pub keyed_removed : (test : ℕ → Bool) (tables : List (ℕ × List Row)) → All IsKeyed tables → All IsKeyed (remove_entry test tables)
keyed_removed test [] keyed = keyed
keyed_removed test (e ∷ es) keyed = by (test e.0) (keyed_removed test es (All-tail IsKeyed e es keyed))
  where
    by : (b : Bool) → All IsKeyed (remove_entry test es) → All IsKeyed (cond b es (e ∷ remove_entry test es))
    by true rest = All-tail IsKeyed e es keyed
    by false rest = All-cons IsKeyed e (remove_entry test es) (All-head IsKeyed e es keyed) rest

-- ---- one row less

front_longer : (row : Row) (front old new : List Row) → IsWithout row old new → IsWithout row (front ++ old) (front ++ new)
front_longer row front old new is = record {
  before = front ++ is.before;
  after = is.after;
  were = ap (λ rs. front ++ rs) is.were ∙ sym (append_assoc front is.before (row ∷ is.after));
  are = ap (λ rs. front ++ rs) is.are ∙ sym (append_assoc front is.before is.after);
}

rest_longer : (row : Row) (old new rest : List Row) → IsWithout row old new → IsWithout row (old ++ rest) (new ++ rest)
rest_longer row old new rest is = record {
  before = is.before;
  after = is.after ++ rest;
  were = ap (λ rs. rs ++ rest) is.were ∙ append_assoc is.before (row ∷ is.after) rest;
  are = ap (λ rs. rs ++ rest) is.are ∙ append_assoc is.before is.after rest;
}

-- a row taken out of its table is taken out of all rows
pub flat_take : (row : Row) (test : ℕ → Bool) (tables : List (ℕ × List Row)) (rows left : List Row) → lookup test tables ≡ Some rows → IsWithout row rows left
    → IsWithout row (flat tables) (flat (set_value test tables left))
flat_take row test [] rows left found is = absurd (none_is_some found)
flat_take row test (e ∷ es) rows left found is = by (test e.0) (λ there. flat_take row test es rows left there is) found
  where
    by : (b : Bool) → (lookup test es ≡ Some rows → IsWithout row (flat es) (flat (set_value test es left))) → cond b (Some e.1) (lookup test es) ≡ Some rows → IsWithout row (e.1 ++ flat es) (flat (cond b ((e.0, left) ∷ es) (e ∷ set_value test es left)))
    by true rest found = rest_longer row e.1 left (flat es) (subst (λ rs. IsWithout row rs left) (sym (some_is found)) is)
    by false rest found = front_longer row e.1 (flat es) (flat (set_value test es left)) (rest found)

-- a table without rows may go
pub flat_removed : (test : ℕ → Bool) (tables : List (ℕ × List Row)) → lookup test tables ≡ Some [] → flat (remove_entry test tables) ≡ flat tables
flat_removed test [] found = refl
flat_removed test (e ∷ es) found = by (test e.0) (flat_removed test es) found
  where
    by : (b : Bool) → (lookup test es ≡ Some [] → flat (remove_entry test es) ≡ flat es) → cond b (Some e.1) (lookup test es) ≡ Some [] → flat (cond b es (e ∷ remove_entry test es)) ≡ e.1 ++ flat es
    by true rest found = ap (λ rs. rs ++ flat es) (sym (some_is found))
    by false rest found = ap (λ rs. e.1 ++ rs) (rest found)

-- what a look-up finds after a value was set
pub found_set : (test : ℕ → Bool) (tables : List (ℕ × List Row)) (rows left : List Row) → lookup test tables ≡ Some rows → lookup test (set_value test tables left) ≡ Some left
found_set test [] rows left found = absurd (none_is_some found)
found_set test (e ∷ es) rows left found = by (test e.0) refl (found_set test es rows left) found
  where
    by : (b : Bool) → test e.0 ≡ b → (lookup test es ≡ Some rows → lookup test (set_value test es left) ≡ Some left) → cond b (Some e.1) (lookup test es) ≡ Some rows → lookup test (cond b ((e.0, left) ∷ es) (e ∷ set_value test es left)) ≡ Some left
    by true is rest found = rw is refl
    by false is rest found = rw is (rest found)

-- ---- where a row is

pub contained_there : (row : Row) (test : ℕ → Bool) (tables : List (ℕ × List Row)) (rows : List Row) → lookup test tables ≡ Some rows → Contains rows row → Contains (flat tables) row
contained_there row test [] rows found there = absurd (none_is_some found)
contained_there row test (e ∷ es) rows found there = by (test e.0) (λ at. contained_there row test es rows at there) found
  where
    by : (b : Bool) → (lookup test es ≡ Some rows → Contains (flat es) row) → cond b (Some e.1) (lookup test es) ≡ Some rows → Contains (e.1 ++ flat es) row
    by true rest found = Contains-append_left e.1 (flat es) row (subst (λ rs. Contains rs row) (sym (some_is found)) there)
    by false rest found = Contains-append_right e.1 (flat es) row (rest found)

-- a row among all is in its table
pub contained_found : (row : Row) (tables : List (ℕ × List Row)) → NumbersRise tables → All IsKeyed tables → Contains (flat tables) row
    → (rows : List Row) × ((lookup (is_at (nat_cmp (key_of row))) tables ≡ Some rows) × Contains rows row)
contained_found row [] rise keyed there = absurd (omega (arith, there.1))
contained_found row (e ∷ es) rise keyed there = in_either (contained_found row es (tail_rises e es rise) (All-tail IsKeyed e es keyed)) (Contains-append_cases e.1 (flat es) row there)
  where
    Goal : Option (List Row) → Type 0
    Goal o = (rows : List Row) × ((o ≡ Some rows) × Contains rows row)

    rest : (o : Ordering) → nat_cmp (key_of row) e.0 ≡ o → (Contains (flat es) row → Goal (lookup (is_at (nat_cmp (key_of row))) es)) → Contains (flat es) row → Goal (cond (is_eq o) (Some e.1) (lookup (is_at (nat_cmp (key_of row))) es))
    rest Less is further in_rest = further in_rest
    rest Equal is further in_rest =
        let above : key_of row < key_of row = all_contained (λ (r : Row). key_of row < key_of r) (flat es) row (rest_above (key_of row) e es (omega (arith, equal (key_of row) e.0 is)) rise keyed) in_rest in
        absurd (omega (arith, above))
    rest Greater is further in_rest = further in_rest

    in_either : (Contains (flat es) row → Goal (lookup (is_at (nat_cmp (key_of row))) es)) → Contains e.1 row ⊎ Contains (flat es) row → Goal (lookup (is_at (nat_cmp (key_of row))) (e ∷ es))
    in_either further (inl first) =
        let at : key_of row ≡ e.0 = all_contained (λ (r : Row). key_of r ≡ e.0) e.1 row (All-head IsKeyed e es keyed) first in
        (e.1, (rw (at, same_number e.0) refl, first))
    in_either further (inr later) = rest (nat_cmp (key_of row) e.0) refl further later

-- ---- the rows of a datapath

module _ (dp : ℕ) where
  abbrev is_of : Row → Bool
  is_of r = eqb r.dp.0 dp

  kept : (rows : List Row) → All (λ r. is_of r ≡ true) rows → filter is_of rows ≡ rows
  kept [] all = refl
  kept (x ∷ xs) all = rw (All-head (λ r. is_of r ≡ true) x xs all) (ap (λ ys. x ∷ ys) (kept xs (All-tail (λ r. is_of r ≡ true) x xs all)))

  dropped : (rows : List Row) → All (λ r. is_of r ≡ false) rows → filter is_of rows ≡ []
  dropped [] all = refl
  dropped (x ∷ xs) all = rw (All-head (λ r. is_of r ≡ false) x xs all) (dropped xs (All-tail (λ r. is_of r ≡ false) x xs all))

  pub datapath_flat : (within : ℕ → Bool) → ((r : Row) → within (key_of r) ≡ is_of r) → (tables : List (ℕ × List Row)) → All IsKeyed tables
      → flat (filter (λ e. within e.0) tables) ≡ filter is_of (flat tables)
  datapath_flat within tells [] keyed = refl
  datapath_flat within tells (e ∷ es) keyed =
      by (within e.0) refl (datapath_flat within tells es (All-tail IsKeyed e es keyed)) ∙ sym (filter-append is_of e.1 (flat es))
    where
      own : (b : Bool) → within e.0 ≡ b → All (λ r. is_of r ≡ b) e.1
      own b is = all_mapped (λ (r : Row). key_of r ≡ e.0) (λ r. is_of r ≡ b) (λ r at. sym (tells r) ∙ ap within at ∙ is) e.1 (All-head IsKeyed e es keyed)

      by : (b : Bool) → within e.0 ≡ b → flat (filter (λ e. within e.0) es) ≡ filter is_of (flat es) → flat (cond b (e ∷ filter (λ e. within e.0) es) (filter (λ e. within e.0) es)) ≡ filter is_of e.1 ++ filter is_of (flat es)
      by true is rest = rw (kept e.1 (own true is)) (ap (λ rs. e.1 ++ rs) rest)
      by false is rest = rw (dropped e.1 (own false is)) rest

-- ---- a table that is left as it was, or of which a row was taken

pub flat_kept : (test : ℕ → Bool) (tables : List (ℕ × List Row)) (rows left : List Row) → lookup test tables ≡ Some rows → left ≡ rows → flat (set_value test tables left) ≡ flat tables
flat_kept test [] rows left found is = refl
flat_kept test (e ∷ es) rows left found is = by (test e.0) (λ there. flat_kept test es rows left there is) found
  where
    by : (b : Bool) → (lookup test es ≡ Some rows → flat (set_value test es left) ≡ flat es) → cond b (Some e.1) (lookup test es) ≡ Some rows → flat (cond b ((e.0, left) ∷ es) (e ∷ set_value test es left)) ≡ e.1 ++ flat es
    by true rest found = ap (λ rs. rs ++ flat es) (is ∙ sym (some_is found))
    by false rest found = ap (λ rs. e.1 ++ rs) (rest found)

all_but_one : (P : Row → Type 0) (row : Row) (before after : List Row) → All P (before ++ row ∷ after) → All P (before ++ after)
all_but_one P row [] after all = All-tail P row after all
all_but_one P row (x ∷ xs) after all = All-cons P x (xs ++ after) (All-head P x (xs ++ row ∷ after) all) (all_but_one P row xs after (All-tail P x (xs ++ row ∷ after) all))

pub own_kept : (row : Row) (old new : List Row) (t : ℕ) (taken : Bool) → OnTrue taken (IsWithout row old new) → OnFalse taken (new ≡ old) → All (λ (r : Row). key_of r ≡ t) old → All (λ (r : Row). key_of r ≡ t) new
own_kept row old new t true without kept own = rw without.are (all_but_one (λ (r : Row). key_of r ≡ t) row without.before without.after (rw without.were at own))
own_kept row old new t false without kept own = rw kept own

-- ---- the row that a packet meets

module _ (dp : ObjId) (stage : Stage) (net : Lookup) (packet : Values) where
  abbrev takes : Row → Bool
  takes r = holds net packet r.matching

  in_own_table : (rows : List Row) → select dp stage net packet rows ≡ find (acts (table_key dp stage) takes) rows
  in_own_table rows =
      sym (find_alike (acts (table_key dp stage) takes) (λ r. is_in_table dp stage r && takes r) (λ r. ap (λ (b : Bool). b && takes r) (in_table-key dp stage r)) rows)

  pub select_flat : (tables : List (ℕ × List Row)) (rows : List Row) → AreTables tables → lookup (is_at (nat_cmp (table_key dp stage))) tables ≡ Some rows → select dp stage net packet (flat tables) ≡ find (λ r. holds net packet r.matching) rows
  select_flat tables rows are found = in_own_table (flat tables) ∙ find_flat (table_key dp stage) takes tables are.rise are.keyed ∙ ap (found_in (table_key dp stage) takes) found

  pub select_nothing : (tables : List (ℕ × List Row)) → AreTables tables → lookup (is_at (nat_cmp (table_key dp stage))) tables ≡ None → select dp stage net packet (flat tables) ≡ None
  select_nothing tables are none = in_own_table (flat tables) ∙ find_flat (table_key dp stage) takes tables are.rise are.keyed ∙ ap (found_in (table_key dp stage) takes) none
