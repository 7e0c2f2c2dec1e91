-- A table made of rows in row order: each gets a place after that of the row before it.
use Rattle.std.proofs.Common.{◌≡◌, ℕ, suc, ◌+◌, ◌<◌, ◌≤◌, Bool, true, false, ltb, List, [], ◌∷◌, ◌++◌, length, map, take, drop, get_or, sym, ap, refl, ◌∙◌, subst, arith, map-id}
use Rattle.std.specs.Prelude.{Option, Some, None, IfSome}
use Rattle.std.specs.BTreeMap.{BTreeMap, IsFromIterResult, get}
use Rattle.std.specs.List.{All, AllByRecursion, Contains, IsDistinct}
use Rattle.std.specs.List.Sorted.{IsStrictlySortedBy}
use Rattle.std.specs.Map.{keys_of, lookup}
use Rattle.std.specs.Ordering.{eq_by_cmp, is_gt, nat_cmp, on}
use Rattle.std.specs.declared.cmp.Ordering.TheVariants.{Less}
use Rattle.std.proofs.Math.Seq.{drop-cons}
use Rattle.std.proofs.lemmas.Bool.{false≢true}
use Rattle.std.proofs.lemmas.Bool.Decides.{nat_tests}
use Rattle.std.proofs.lemmas.Cmp.{eq_by_cmp_equiv, nat_cmp_total, on_total}
use Rattle.std.proofs.lemmas.List.{map-append, take-append-drop}
use Rattle.std.proofs.lemmas.List.Elements.{All-contains, All-push, Contains-append_left, Contains-append_right, Contains-push}
use Rattle.std.proofs.lemmas.Map.Keys.{IsDistinct-from_sorted}
use Rattle.std.proofs.lemmas.Map.Lookups.{exact_unsigned}
use Rattle.std.proofs.lemmas.Map.Made.{Contains-values_of, update_all_none}
use Rattle.std.proofs.lemmas.Map.Views.{Contains-from_lookup, btree_map_get_iff, lookup-from_Contains, tells_apart}
use Rattle.sb_model.specs.declared.row.Row.{Row}
use Rattle.sb_rows.specs.Row.{IsInRowOrder, row_cmp}
use Rattle.sb_rows.specs.inner.Beside.{FitsItsKey}
use Rattle.sb_rows.specs.inner.Store.{ArePlaced, IsPlace, NumbersRise, first_place, rows_of_places}
use Rattle.sb_rows.specs.inner.Tables.{key_of, rank_of}
use Rattle.sb_rows.proofs.Members.{same_members}
use Rattle.sb_rows.proofs.Order.{above_none_before}
use Rattle.sb_rows.proofs.PlacedParts.{less_from_lt}
use Rattle.sb_rows.proofs.PlacedRank.{placed_at}
use Rattle.sb_rows.proofs.PlacedTurn.{higher_after}

-- ---- entries whose numbers rise, collected into a map

module _ {X : Type 0} where
  by_keys : (P : ℕ → Type 0) (es : List (ℕ × X)) → AllByRecursion P (keys_of es) → AllByRecursion (λ (e : ℕ × X). P e.0) es
  by_keys P [] each = tt
  by_keys P (e ∷ es) each = (each.0, by_keys P es each.1)

  entries_rise : (es : List (ℕ × X)) → NumbersRise es → IsStrictlySortedBy (on (λ (e : ℕ × X). e.0) nat_cmp) es
  unfolding IsStrictlySortedBy
  entries_rise [] rise = tt
  entries_rise (e ∷ es) rise = (by_keys (λ k. nat_cmp e.0 k ≡ Less) es rise.0, entries_rise es rise.1)

  pub collected : (xs : List (ℕ × X)) (m : BTreeMap ℕ X) → NumbersRise xs → IsFromIterResult nat_cmp xs m → m.entries ≡ xs
  collected xs m rise from =
      same_members (on_total (λ (e : ℕ × X). e.0) nat_cmp_total) m.entries xs (entries_rise m.entries from.1) (entries_rise xs rise)
      (λ e at. Contains-from_lookup (tells_apart exact_unsigned) e.0 e.1 xs (sym (looked_up e.0) ∙ (btree_map_get_iff nat_cmp_total exact_unsigned m from.1 e.0 e.1).1 at))
      (λ e at. (btree_map_get_iff nat_cmp_total exact_unsigned m from.1 e.0 e.1).0 (looked_up e.0 ∙ lookup-from_Contains (eq_by_cmp_equiv nat_cmp_total) e.0 e.1 xs distinct at))
    where
      distinct : IsDistinct (eq_by_cmp nat_cmp) (keys_of xs)
      distinct = IsDistinct-from_sorted nat_cmp (keys_of xs) rise

      looked_up : (q : ℕ) → get nat_cmp m q ≡ lookup (eq_by_cmp nat_cmp q) xs
      looked_up q = from.0 q ∙ update_all_none (eq_by_cmp_equiv nat_cmp_total) (eq_by_cmp nat_cmp) (λ x y. refl) xs q distinct

-- ---- one row after the other gets a place

-- the last place, if there is one, is that of a row, and none is higher
abbrev pub IsLast : Option ℕ → List (ℕ × Row) → Type 0
IsLast None rows = rows ≡ []
IsLast (Some last) rows = AllByRecursion (λ q. q ≤ last) (keys_of rows) × (x : Row) × Contains rows (last, x)

-- rows at their places, of which the last is at the last place
pub record AreRising (rows : List (ℕ × Row)) (end : Option ℕ) (gone : List Row) : Type 0 where
  pub placed : ArePlaced rows
  pub are : rows_of_places rows ≡ gone
  pub last : IsLast end rows

all_push : (P : ℕ → Type 0) (ks : List ℕ) (k : ℕ) → AllByRecursion P ks → P k → AllByRecursion P (ks ++ k ∷ [])
all_push P [] k each one = (one, tt)
all_push P (q ∷ ks) k each one = (each.0, all_push P ks k each.1 one)

all_weaker : (P Q : ℕ → Type 0) → ((q : ℕ) → P q → Q q) → (ks : List ℕ) → AllByRecursion P ks → AllByRecursion Q ks
all_weaker P Q to [] each = tt
all_weaker P Q to (q ∷ ks) each = (to q each.0, all_weaker P Q to ks each.1)

rise_push : (ks : List ℕ) (k : ℕ) → IsStrictlySortedBy nat_cmp ks → AllByRecursion (λ q. q < k) ks → IsStrictlySortedBy nat_cmp (ks ++ k ∷ [])
unfolding IsStrictlySortedBy
rise_push [] k rise below = (tt, tt)
rise_push (q ∷ ks) k rise below = (all_push (λ y. nat_cmp q y ≡ Less) ks k rise.0 (less_from_lt q k below.0), rise_push ks k rise.1 below.1)

-- all are below a place above the last one
below_new : (rows : List (ℕ × Row)) (last : Option ℕ) (place : ℕ) → IsLast last rows → IfSome last (λ p. p < place) → AllByRecursion (λ q. q < place) (keys_of rows)
below_new rows None place none above = rw none tt
below_new rows (Some last) place is above = all_weaker (λ q. q ≤ last) (λ q. q < place) (λ q le. omega arith) (keys_of rows) is.0

keys_push : (rows : List (ℕ × Row)) (place : ℕ) (row : Row) → keys_of (rows ++ (place, row) ∷ []) ≡ keys_of rows ++ place ∷ []
keys_push rows place row = map-append (λ (e : ℕ × Row). e.0) rows ((place, row) ∷ [])

-- one more row
pub rising_more : (rows more : List (ℕ × Row)) (last : Option ℕ) (gone : List Row) (row : Row) (place : ℕ) → AreRising rows last gone → IsPlace place row → IfSome last (λ p. p < place) → more ≡ rows ++ (place, row) ∷ [] → AreRising more (Some place) (gone ++ row ∷ [])
rising_more rows more last gone row place are is above same = subst (λ l. AreRising l (Some place) (gone ++ row ∷ [])) (sym same) (record {
  placed = record {
    rise = subst (IsStrictlySortedBy nat_cmp) (sym (keys_push rows place row)) (rise_push (keys_of rows) place are.placed.rise below);
    placed = All-push (λ (e : ℕ × Row). IsPlace e.0 e.1) rows (place, row) are.placed.placed is;
  };
  are = map-append (λ (e : ℕ × Row). e.1) rows ((place, row) ∷ []) ∙ ap (λ xs. xs ++ row ∷ []) are.are;
  last = (
    subst (λ ks. AllByRecursion (λ q. q ≤ place) ks) (sym (keys_push rows place row)) (all_push (λ q. q ≤ place) (keys_of rows) place (all_weaker (λ q. q < place) (λ q. q ≤ place) (λ q less. omega arith) (keys_of rows) below) (omega arith)),
    row,
    Contains-push rows (place, row),
  );
})
  where
    below : AllByRecursion (λ q. q < place) (keys_of rows)
    below = below_new rows last place are.last above

pub rising_none : AreRising [] None []
unfolding IsStrictlySortedBy
rising_none = record {
  placed = record { rise = tt; placed = λ k d within. absurd (omega arith) };
  are = refl;
  last = refl;
}

higher_of : (a b : ℕ) → ltb a b ≡ true → a < b
higher_of a b h = grind (arith, nat_tests)

at_most : (a b r : ℕ) → r ≡ a → ltb a b ≡ false → b ≤ r
at_most a b r e h = grind (arith, nat_tests)

low_enough : (a b p : ℕ) → a ≤ b → p < first_place (a + 1) → p < first_place (b + 1)
low_enough a b p le less = omega arith

-- the place of the last row is below those of ranks higher than that of the next one
pub last_below : (sorted : List Row) → IsInRowOrder sorted → (key : ℕ) × All (λ r. key_of r ≡ key) sorted → (rows : List (ℕ × Row)) (last : Option ℕ) (gone : List Row) (row : Row) (rank : ℕ)
    → AreRising rows last gone → map (λ r. r) gone ≡ take (length gone) sorted → (length gone < length sorted) × (row ≡ get_or sorted (length gone) row) → FitsItsKey row → rank ≡ rank_of row → IfSome last (λ p. p < first_place (rank + 1))
last_below sorted up keys rows None gone row rank are so_far turn fits same = tt
last_below sorted up keys rows (Some last) gone row rank are so_far turn fits same =
    let x = are.last.1 in
    let place = placed_at rows are.placed last x are.last.2 in
    low_enough (rank_of x) rank last (not_higher x place.fits (subst (λ l. Contains l x) are.are (Contains-values_of rows last x are.last.2))) place.below
  where
    front : gone ≡ take (length gone) sorted
    front = sym (map-id gone) ∙ so_far

    split : sorted ≡ gone ++ row ∷ drop (suc (length gone)) sorted
    split = sym (take-append-drop (length gone) sorted) ∙ ap (λ m. m ++ drop (length gone) sorted) (sym front) ∙ ap (λ m. gone ++ m) (drop-cons sorted (length gone) row turn.0 ∙ ap (λ y. y ∷ drop (suc (length gone)) sorted) (sym turn.1))

    key_is : (x : Row) → Contains (gone ++ row ∷ drop (suc (length gone)) sorted) x → key_of x ≡ keys.0
    key_is x at = All-contains (λ (r : Row). key_of r ≡ keys.0) sorted x keys.1 (subst (λ l. Contains l x) (sym split) at)

    not_after : (x : Row) → Contains gone x → is_gt (row_cmp x row) ≡ false
    not_after x at = All-contains (λ (y : Row). is_gt (row_cmp y row) ≡ false) gone x (above_none_before row gone (drop (suc (length gone)) sorted) (subst IsInRowOrder split up)) at

    not_higher : (x : Row) → FitsItsKey x → Contains gone x → rank_of x ≤ rank
    not_higher x fits_too at = by (ltb (rank_of row) (rank_of x)) refl
      where
        one_key : key_of x ≡ key_of row
        one_key = key_is x (Contains-append_left gone (row ∷ drop (suc (length gone)) sorted) x at) ∙ sym (key_is row (Contains-append_right gone (row ∷ drop (suc (length gone)) sorted) row (0, omega arith, refl)))

        by : (b : Bool) → ltb (rank_of row) (rank_of x) ≡ b → rank_of x ≤ rank
        by true is = let more : rank_of row < rank_of x = higher_of (rank_of row) (rank_of x) is in absurd (false≢true (sym (not_after x at) ∙ higher_after row x one_key fits fits_too more))
        by false is = at_most (rank_of row) (rank_of x) rank same is

-- at the end they are collected
pub rows_collected : (rows : List (ℕ × Row)) (last : Option ℕ) (gone sorted : List Row) (m : BTreeMap ℕ Row) → AreRising rows last gone → map (λ r. r) gone ≡ sorted → IsFromIterResult nat_cmp rows m → rows_of_places m.entries ≡ sorted
rows_collected rows last gone sorted m are end from = ap rows_of_places (collected rows m are.placed.rise from) ∙ are.are ∙ sym (map-id gone) ∙ end
