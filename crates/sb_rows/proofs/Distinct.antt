-- Rows of which none is there twice stay so when an unlike one is put among them.
use Rattle.std.proofs.Common.{◌≡◌, ◌≢◌, suc, Bool, true, false, List, [], ◌∷◌, ◌⊎◌, inl, inr, get_or, sym, subst, refl, ◌∙◌, arith}
use Rattle.std.specs.Ordering.{is_gt}
use Rattle.std.specs.List.{All, AllPairs, Contains}
use Rattle.std.proofs.lemmas.List.{get_or_default}
use Rattle.std.proofs.lemmas.List.Elements.{All-contains}
use Rattle.std.proofs.lemmas.List.Kept.{AllPairs-cons}
use Rattle.sb_model.specs.declared.row.Row.{Row}
use Rattle.sb_rows.specs.Row.{row_cmp, put_row, AreRows, HasTypedMatch}
use Rattle.sb_rows.proofs.Place.{ordered_put}
use Rattle.sb_rows.proofs.Select.{among_put}

-- what holds of each row that is among rows holds of all
pub all_from_among : (P : Row → Type 0) (xs : List Row) → ((r : Row) → Contains xs r → P r) → All P xs
all_from_among P xs each k d below = each (get_or xs k d) (k, below, get_or_default xs k (get_or xs k d) d below)

module _ (R : Row → Row → Type 0) (x : Row) (xs : List Row) (apart : AllPairs R (x ∷ xs)) where
  pub pairs_head : All (R x) xs
  pairs_head k d below = apart 0 (suc k) d (omega arith) (omega arith)

  pub pairs_tail : AllPairs R xs
  pairs_tail i j d before below = apart (suc i) (suc j) d (omega arith) (omega arith)

-- the row that is put is unlike the others
distinct_put : (row : Row) (xs : List Row) → (Contains xs row → ⊥) → AllPairs (λ a b. a ≢ b) xs → AllPairs (λ a b. a ≢ b) (put_row row xs)
distinct_put row [] new distinct = AllPairs-cons (λ a b. a ≢ b) row [] (λ k d below. absurd (omega arith)) distinct
distinct_put row (x ∷ xs) new distinct =
    by (is_gt (row_cmp x row)) refl (distinct_put row xs (λ at. new (suc at.0, omega (arith, at.1), at.2)) (pairs_tail (λ a b. a ≢ b) x xs distinct))
  where
    Unlike : Row → Row → Type 0
    Unlike a b = a ≢ b

    unlike_x : (r : Row) → (row ≡ r) ⊎ Contains xs r → x ≢ r
    unlike_x r (inl is) same = new (0, omega arith, same ∙ sym is)
    unlike_x r (inr at) same = pairs_head (λ a b. a ≢ b) x xs distinct at.0 r at.1 (same ∙ sym at.2)

    by : (b : Bool) → is_gt (row_cmp x row) ≡ b → AllPairs (λ a b. a ≢ b) (put_row row xs) → AllPairs (λ a b. a ≢ b) (put_row row (x ∷ xs))
    by true is rest = rw is (AllPairs-cons (λ a b. a ≢ b) row (x ∷ xs) (all_from_among (λ r. row ≢ r) (x ∷ xs) (λ r at same. new (at.0, at.1, at_row r at same))) distinct)
      where
        at_row : (r : Row) (at : Contains (x ∷ xs) r) → row ≡ r → get_or (x ∷ xs) at.0 row ≡ row
        at_row r at same = get_or_default (x ∷ xs) at.0 row r at.1 ∙ at.2 ∙ sym same
    by false is rest = rw is (AllPairs-cons (λ a b. a ≢ b) x (put_row row xs) (all_from_among (λ r. x ≢ r) (put_row row xs) (λ r at. unlike_x r (among_put row xs r at))) rest)

-- what holds of a row and of each of the others holds of all when it is put among them
all_put : (P : Row → Type 0) (row : Row) (xs : List Row) → P row → All P xs → All P (put_row row xs)
all_put P row xs one all = all_from_among P (put_row row xs) (λ r at. by r (among_put row xs r at))
  where
    by : (r : Row) → (row ≡ r) ⊎ Contains xs r → P r
    by r (inl is) = subst P is one
    by r (inr at) = All-contains P xs r all at

-- so one more row that is not there yet, with a well-typed match, leaves rows as rows are
pub put_keeps_rows : (row : Row) (xs : List Row) → (Contains xs row → ⊥) → HasTypedMatch row → AreRows xs → AreRows (put_row row xs)
put_keeps_rows row xs new typed are = record {
  ordered = ordered_put row xs are.ordered;
  distinct = distinct_put row xs new are.distinct;
  typed = all_put HasTypedMatch row xs typed are.typed;
}
