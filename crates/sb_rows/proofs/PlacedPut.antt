-- A row that is put at a place, or taken from one, among the rows of a table.
use Rattle.std.proofs.Common.{◌≡◌, ℕ, zero, suc, ◌+◌, ◌<◌, ◌≤◌, Bool, true, false, cond, ltb, List, [], ◌∷◌, ◌++◌, length, take, drop, get_or, sym, ap, refl, ◌∙◌, subst, arith, inl, inr, Ok, Err}
use Rattle.std.specs.Prelude.{◌⊎◌, Option, Some, None, IfSome, Result}
use Rattle.std.specs.Result.{OnOk, is_err}
use Rattle.std.specs.BTreeMap.{BTreeMap, IsOrdered, Updates, UpdatesBy, get, insert_entry, is_at}
use Rattle.std.specs.List.{All, Contains, remove}
use Rattle.std.specs.Map.{keys_of, remove_entry}
use Rattle.std.specs.Ordering.{is_eq, is_gt, match_ordering, nat_cmp}
use Rattle.std.specs.declared.cmp.Ordering.TheVariants.{Less, Greater}
use Rattle.std.proofs.lemmas.Bool.{false≢true}
use Rattle.std.proofs.lemmas.Bool.Decides.{nat_tests}
use Rattle.std.proofs.lemmas.Cmp.{nat_cmp_total}
use Rattle.std.proofs.lemmas.List.{drop-map, get_or-map, length-map, map-append, take-map}
use Rattle.std.proofs.lemmas.List.Elements.{All-contains_itself, All-weaker}
use Rattle.std.proofs.lemmas.Map.Keys.{below_from_sorted, sorted_tail}
use Rattle.std.proofs.lemmas.Map.Lookups.{exact_unsigned}
use Rattle.std.proofs.lemmas.Map.Views.{btree_map_get_iff}
use Rattle.sb_model.specs.declared.row.Row.{Row}
use Rattle.sb_rows.specs.Row.{IsInRowOrder, IsWithout, put_row, row_cmp}
use Rattle.sb_rows.specs.declared.index.Index.{Index}
use Rattle.sb_rows.specs.inner.Beside.{FitsItsKey}
use Rattle.sb_rows.specs.inner.Index.{Covers, IsCovered}
use Rattle.sb_rows.specs.inner.Store.{ArePlaced, GoesAt, IsPartedAt, IsPlace, IsTable, NumbersRise, first_place, rows_of_places}
use Rattle.sb_rows.specs.inner.Tables.{rank_of}
use Rattle.sb_rows.proofs.Place.{ordered_put}
use Rattle.sb_rows.proofs.PlacedParts.{later}
use Rattle.sb_rows.proofs.PlacedRank.{placed_at}
use Rattle.sb_rows.proofs.Taken.{ordered_remove, removed_is_without}

-- ---- a free place

module _ (rows : List (ℕ × Row)) (low high place : ℕ) where
  above_last : (before : Option ℕ) → IfSome before (λ p. (q : ℕ) (y : Row) → Contains rows (q, y) → low ≤ q → q < high → q ≤ p) → (before ≡ None → (q : ℕ) (y : Row) → Contains rows (q, y) → low ≤ q → q < high → ⊥)
      → IfSome before (λ p. p < place) → (q : ℕ) (y : Row) → Contains rows (q, y) → low ≤ q → q < high → q < place
  above_last None last none above q y at from below = absurd (none refl q y at from below)
  above_last (Some p) last none above q y at from below = let most = last q y at from below in omega arith

  below_first : (after : Option ℕ) → IfSome after (λ p. (q : ℕ) (y : Row) → Contains rows (q, y) → low ≤ q → q < high → p ≤ q) → (after ≡ None → (q : ℕ) (y : Row) → Contains rows (q, y) → low ≤ q → q < high → ⊥)
      → IfSome after (λ p. place < p) → (q : ℕ) (y : Row) → Contains rows (q, y) → low ≤ q → q < high → place < q
  below_first None first none below q y at from to = absurd (none refl q y at from to)
  below_first (Some p) first none below q y at from to = let least = first q y at from to in omega arith

-- a place between the last row before the turning place and the first one from it on
module _ (rows : List (ℕ × Row)) (row : Row) (rank low at : ℕ) (fits : FitsItsKey row) (same : rank ≡ rank_of row) (is : low ≡ first_place rank) (parted : IsPartedAt row at rows) (before after : Option ℕ)
    (last : IfSome before (λ p. (q : ℕ) (y : Row) → Contains rows (q, y) → low ≤ q → q < at → q ≤ p)) (none_before : before ≡ None → (q : ℕ) (y : Row) → Contains rows (q, y) → low ≤ q → q < at → ⊥)
    (first : IfSome after (λ p. (q : ℕ) (y : Row) → Contains rows (q, y) → at ≤ q → q < low + 604462909807314587353088 → p ≤ q)) (none_after : after ≡ None → (q : ℕ) (y : Row) → Contains rows (q, y) → at ≤ q → q < low + 604462909807314587353088 → ⊥) where
  pub goes_between : (free : Option ℕ) → IfSome free (λ p. first_place rank ≤ p) → IfSome free (λ p. p < first_place (rank + 1)) → IfSome free (λ p. IfSome before (λ q. q < p)) → IfSome free (λ p. IfSome after (λ q. p < q))
      → IfSome free (λ p. GoesAt row p rows)
  goes_between None from to above below = tt
  goes_between (Some p) from to above below = record {
    is = record { from = subst (λ n. first_place n ≤ p) same from; below = subst (λ n. p < first_place (n + 1)) same to; fits = fits };
    apart = λ there x in_rows. by there x in_rows (parted there x in_rows);
  }
    where
      high : low + 604462909807314587353088 ≡ first_place (rank + 1)
      high = omega arith

      lower : (there : ℕ) (x : Row) → Contains rows (there, x) → there < at → (b : Bool) → ltb there low ≡ b → there < p
      lower there x in_rows less true is_low = let less : there < low = grind (arith, nat_tests) in omega arith
      lower there x in_rows less false not_low = let more : low ≤ there = grind (arith, nat_tests) in above_last rows low at p before last none_before above there x in_rows more less

      higher : (there : ℕ) (x : Row) → Contains rows (there, x) → at ≤ there → (b : Bool) → ltb there (low + 604462909807314587353088) ≡ b → p < there
      higher there x in_rows more true is_in = let less : there < low + 604462909807314587353088 = grind (arith, nat_tests) in below_first rows at (low + 604462909807314587353088) p after first none_after below there x in_rows more less
      higher there x in_rows more false past = let more : low + 604462909807314587353088 ≤ there = grind (arith, nat_tests) in omega (arith, high)

      by : (there : ℕ) (x : Row) → Contains rows (there, x) → ((there < at) × (is_gt (row_cmp x row) ≡ false)) ⊎ ((at ≤ there) × (is_gt (row_cmp x row) ≡ true))
          → ((there < p) × (is_gt (row_cmp x row) ≡ false)) ⊎ ((p < there) × (is_gt (row_cmp x row) ≡ true))
      by there x in_rows (inl (less, not_after)) = inl (lower there x in_rows less (ltb there low) refl, not_after)
      by there x in_rows (inr (more, is_after)) = inr (higher there x in_rows more (ltb there (low + 604462909807314587353088)) refl, is_after)

-- ---- a row is put at a place

-- what holds of each entry
pub places_from : (rows : List (ℕ × Row)) → ((q : ℕ) (y : Row) → Contains rows (q, y) → IsPlace q y) → All (λ (e : ℕ × Row). IsPlace e.0 e.1) rows
places_from rows each = All-weaker (Contains rows) (λ (e : ℕ × Row). IsPlace e.0 e.1) (λ (e : ℕ × Row) at. each e.0 e.1 at) rows (All-contains_itself rows)

pub rows_put : (row : Row) (place : ℕ) (rows : List (ℕ × Row)) → ((there : ℕ) (x : Row) → Contains rows (there, x) → ((there < place) × (is_gt (row_cmp x row) ≡ false)) ⊎ ((place < there) × (is_gt (row_cmp x row) ≡ true)))
    → rows_of_places (insert_entry nat_cmp rows place row) ≡ put_row row (rows_of_places rows)
rows_put row place [] apart = refl
rows_put row place (e ∷ rows) apart = by (apart e.0 e.1 (0, omega arith, refl)) (rows_put row place rows (λ there x at. apart there x (later e (there, x) rows at)))
  where
    lt_is : (a b : ℕ) → a < b → nat_cmp a b ≡ Less
    lt_is a b h = grind (arith, nat_tests)

    gt_is : (a b : ℕ) → b < a → nat_cmp a b ≡ Greater
    gt_is a b h = grind (arith, nat_tests)

    by : ((e.0 < place) × (is_gt (row_cmp e.1 row) ≡ false)) ⊎ ((place < e.0) × (is_gt (row_cmp e.1 row) ≡ true))
        → rows_of_places (insert_entry nat_cmp rows place row) ≡ put_row row (rows_of_places rows)
        → rows_of_places (match_ordering (nat_cmp place e.0) ((place, row) ∷ e ∷ rows) ((e.0, row) ∷ rows) (e ∷ insert_entry nat_cmp rows place row)) ≡ cond (is_gt (row_cmp e.1 row)) (row ∷ e.1 ∷ rows_of_places rows) (e.1 ∷ put_row row (rows_of_places rows))
    by (inl (less, not_after)) rest = rw (gt_is place e.0 less, not_after) (ap (λ xs. e.1 ∷ xs) rest)
    by (inr (more, after)) rest = rw (lt_is place e.0 more, after) refl

module _ (old new : BTreeMap ℕ Row) (place : ℕ) (row : Row) (was : IsOrdered nat_cmp old) (ordered : IsOrdered nat_cmp new) (updates : Updates nat_cmp old new place (Some row)) where
  -- an entry is the new one, or was there
  pub new_or_old : (q : ℕ) (y : Row) → Contains new.entries (q, y) → ((q ≡ place) × (y ≡ row)) ⊎ Contains old.entries (q, y)
  new_or_old q y at = by (is_eq (nat_cmp place q)) refl (sym (updates.0 q) ∙ (btree_map_get_iff nat_cmp_total exact_unsigned new ordered q y).1 at)
    where
      same : (a b : ℕ) → is_eq (nat_cmp a b) ≡ true → b ≡ a
      same a b h = grind (arith, nat_tests)

      by : (b : Bool) → is_eq (nat_cmp place q) ≡ b → cond b (Some row) (get nat_cmp old q) ≡ Some y → ((q ≡ place) × (y ≡ row)) ⊎ Contains old.entries (q, y)
      by true is found = inl (same place q is, cc)
      by false is found = inr ((btree_map_get_iff nat_cmp_total exact_unsigned old was q y).0 found)

  module _ (entries : new.entries ≡ insert_entry nat_cmp old.entries place row) (goes : GoesAt row place old.entries) where
    pub rows_are_put : rows_of_places new.entries ≡ put_row row (rows_of_places old.entries)
    rows_are_put = ap rows_of_places entries ∙ rows_put row place old.entries goes.apart

    placed_put : ArePlaced old.entries → ArePlaced new.entries
    placed_put are = record {
      rise = ordered;
      placed = places_from new.entries (λ q y at. by q y (new_or_old q y at));
    }
      where
        by : (q : ℕ) (y : Row) → ((q ≡ place) × (y ≡ row)) ⊎ Contains old.entries (q, y) → IsPlace q y
        by q y (inl (here, is)) = subst (λ r. IsPlace q r) (sym is) (subst (λ p. IsPlace p row) (sym here) goes.is)
        by q y (inr at) = placed_at old.entries are q y at

    -- and so they are still a table, where the new row is covered too
    pub table_put : (kept : Option Index) → ArePlaced old.entries → IsInRowOrder (rows_of_places old.entries) → ((index : Index) → kept ≡ Some index → Covers index new.entries) → IsTable new.entries kept
    table_put kept are up covered = record {
      placed = placed_put are;
      ordered = subst IsInRowOrder (sym rows_are_put) (ordered_put row (rows_of_places old.entries) up);
      covered = covered;
    }

    pub covers_put : (index : Index) → IsCovered row place index → Covers index old.entries → Covers index new.entries
    covers_put index here others q y at = by (new_or_old q y at)
      where
        by : ((q ≡ place) × (y ≡ row)) ⊎ Contains old.entries (q, y) → IsCovered y q index
        by (inl (there, is)) = subst (λ r. IsCovered r q index) (sym is) (subst (λ p. IsCovered row p index) (sym there) here)
        by (inr was_there) = others q y was_there

-- ---- a row is taken from a place

head_below : (e : ℕ × Row) (rows : List (ℕ × Row)) (k place : ℕ) (row : Row) → NumbersRise (e ∷ rows) → k < length rows → get_or rows k (place, row) ≡ (place, row) → e.0 < place
head_below e rows k place row rise within is =
    let long : length (keys_of rows) ≡ length rows = length-map rows (λ (x : ℕ × Row). x.0) in
    let below = below_from_sorted (keys_of (e ∷ rows)) 0 (suc k) 0 rise (omega arith) (omega (arith, long)) in
    let there : get_or (keys_of rows) k 0 ≡ place = get_or-map (λ (x : ℕ × Row). x.0) rows k (place, row) 0 within ∙ ap (λ (x : ℕ × Row). x.0) is in
    omega arith

pub removed_at : (place : ℕ) (row : Row) (rows : List (ℕ × Row)) → NumbersRise rows → (k : ℕ) → k < length rows → get_or rows k (place, row) ≡ (place, row) → remove_entry (is_at (nat_cmp place)) rows ≡ remove rows k
removed_at place row [] rise k within is = absurd (omega arith)
removed_at place row (e ∷ rows) rise zero within is =
    let here : e.0 ≡ place = ap (λ (x : ℕ × Row). x.0) is in
    let at : is_eq (nat_cmp place e.0) ≡ true = alike place e.0 here in
    ap (λ b. cond b rows (e ∷ remove_entry (is_at (nat_cmp place)) rows)) at
  where
    alike : (a b : ℕ) → b ≡ a → is_eq (nat_cmp a b) ≡ true
    alike a b h = grind (arith, nat_tests)
removed_at place row (e ∷ rows) rise (suc k) within is =
    let other : is_eq (nat_cmp place e.0) ≡ false = unlike place e.0 (head_below e rows k place row rise (omega arith) is) in
    ap (λ b. cond b rows (e ∷ remove_entry (is_at (nat_cmp place)) rows)) other ∙ ap (λ xs. e ∷ xs) (removed_at place row rows (sorted_tail nat_cmp e.0 (keys_of rows) rise) k (omega arith) is)
  where
    unlike : (a b : ℕ) → b < a → is_eq (nat_cmp a b) ≡ false
    unlike a b h = grind (arith, nat_tests)

rows_remove : (rows : List (ℕ × Row)) (k : ℕ) → rows_of_places (remove rows k) ≡ remove (rows_of_places rows) k
rows_remove rows k =
    map-append (λ (e : ℕ × Row). e.1) (take k rows) (drop (suc k) rows)
    ∙ ap (λ xs. xs ++ rows_of_places (drop (suc k) rows)) (sym (take-map (λ (e : ℕ × Row). e.1) k rows))
    ∙ ap (λ xs. take k (rows_of_places rows) ++ xs) (sym (drop-map (λ (e : ℕ × Row). e.1) (suc k) rows))

module _ (old new : BTreeMap ℕ Row) (place : ℕ) (row : Row) (at : Contains old.entries (place, row)) (was : IsOrdered nat_cmp old) (ordered : IsOrdered nat_cmp new)
    (updates : UpdatesBy nat_cmp (nat_cmp place) old new None) (entries : new.entries ≡ remove_entry (is_at (nat_cmp place)) old.entries) where
  -- the others were there
  pub other_and_old : (q : ℕ) (y : Row) → Contains new.entries (q, y) → (q ≡ place → ⊥) × Contains old.entries (q, y)
  other_and_old q y there = by (is_eq (nat_cmp place q)) refl (sym (updates.0 q) ∙ (btree_map_get_iff nat_cmp_total exact_unsigned new ordered q y).1 there)
    where
      unlike : (a b : ℕ) → is_eq (nat_cmp a b) ≡ false → b ≡ a → ⊥
      unlike a b h same = grind (arith, nat_tests)

      by : (b : Bool) → is_eq (nat_cmp place q) ≡ b → cond b None (get nat_cmp old q) ≡ Some y → (q ≡ place → ⊥) × Contains old.entries (q, y)
      by true is found = absurd (cc)
      by false is found = (unlike place q is, (btree_map_get_iff nat_cmp_total exact_unsigned old was q y).0 found)

  left : rows_of_places new.entries ≡ remove (rows_of_places old.entries) at.0
  left = ap rows_of_places (entries ∙ removed_at place row old.entries was at.0 at.1 at.2) ∙ rows_remove old.entries at.0

  within_rows : at.0 < length (rows_of_places old.entries)
  within_rows = let long = length-map old.entries (λ (e : ℕ × Row). e.1) in let inside = at.1 in omega arith

  pub rows_without : IsWithout row (rows_of_places old.entries) (rows_of_places new.entries)
  rows_without = removed_is_without row (rows_of_places old.entries) (rows_of_places new.entries) at.0 left (within_rows, get_or-map (λ (e : ℕ × Row). e.1) old.entries at.0 (place, row) row at.1 ∙ ap (λ (e : ℕ × Row). e.1) at.2)

  pub table_taken : (kept : Option Index) → ArePlaced old.entries → IsInRowOrder (rows_of_places old.entries) → ((index : Index) → kept ≡ Some index → Covers index new.entries) → IsTable new.entries kept
  table_taken kept are up covered = record {
    placed = record {
      rise = ordered;
      placed = places_from new.entries (λ q y there. placed_at old.entries are q y (other_and_old q y there).1);
    };
    ordered = subst IsInRowOrder (sym left) (ordered_remove (rows_of_places old.entries) at.0 within_rows up);
    covered = covered;
  }

  -- what covered them all still covers the others
  pub covers_struck : (was is : Index) → Covers was old.entries → ((r : Row) (p : ℕ) → Contains new.entries (p, r) → (p ≡ place → ⊥) → IsCovered r p was → IsCovered r p is) → Covers is new.entries
  covers_struck was is covers kept q y there = let other = other_and_old q y there in kept y q there other.0 (covers q y other.1)

-- ---- what is kept covers the rows

module _ (rows : List (ℕ × Row)) where
  pub covers_kept : (was is : Index) → Covers was rows → ((r : Row) (p : ℕ) → IsCovered r p was → IsCovered r p is) → Covers is rows
  covers_kept was is covers kept place row at = kept row place (covers place row at)

  pub covers_folded : (was is : Index) → Covers was rows → ((r : Row) (p : ℕ) → Contains rows (p, r) → IsCovered r p was → IsCovered r p is) → Covers is rows
  covers_folded was is covers kept place row at = kept row place at (covers place row at)

  pub covers_some : (kept : Option Index) (is : Index) → kept ≡ Some is → Covers is rows → (index : Index) → kept ≡ Some index → Covers index rows
  covers_some kept is same covers index also = let one : is ≡ index = cc in subst (λ i. Covers i rows) one covers

  pub covers_none : (kept : Option Index) → kept ≡ None → (index : Index) → kept ≡ Some index → Covers index rows
  covers_none kept none index some = absurd (cc)

-- what is so where something went well
pub added : {T E : Type 0} (made : Result T E) (P : Type 0) (failed : Bool) → failed ≡ is_err made → failed ≡ false → OnOk made P → P
added (Ok x) P failed is well p = p
added (Err e) P failed is well p = absurd (false≢true (sym well ∙ is))

-- the same rows with something else kept
pub table_with : (rows : List (ℕ × Row)) (was kept : Option Index) → IsTable rows was → ((index : Index) → kept ≡ Some index → Covers index rows) → IsTable rows kept
table_with rows was kept is covered = record { placed = is.placed; ordered = is.ordered; covered = covered }

pub table_alike : (old new : List (ℕ × Row)) (kept : Option Index) → new ≡ old → IsTable old kept → IsTable new kept
table_alike old new kept same is = subst (λ rows. IsTable rows kept) (sym same) is
