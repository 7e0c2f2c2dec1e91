-- What is among rows of which some are taken out, or to which some are put.
use Rattle.std.proofs.Common.{◌≡◌, ◌≢◌, ℕ, zero, ◌+◌, ◌<◌, Bool, true, false, List, [], ◌∷◌, ◌++◌, ◌⊎◌, inl, inr, Ok, Err, length, get_or, take, sym, ap, subst, refl, ◌∙◌, arith}
use Rattle.std.specs.Prelude.{◌↔◌, IsTrue, OnErr, OnOk, Result}
use Rattle.std.specs.Bool.{OnTrue, OnFalse}
use Rattle.std.specs.List.{AllPairs, Contains}
use Rattle.std.proofs.lemmas.Bool.{false≢true}
use Rattle.std.proofs.lemmas.List.{take_more}
use Rattle.std.proofs.lemmas.List.Elements.{Contains-append_cases, Contains-append_left, Contains-append_right, Contains-push_cases}
use Rattle.sb_model.specs.declared.row.Row.{Row}
use Rattle.sb_rows.specs.Row.{AreRows, IsWithout, put_row}
use Rattle.sb_rows.proofs.Distinct.{pairs_head, pairs_tail}
use Rattle.sb_rows.proofs.IndexFirst.{first_or_later}
use Rattle.sb_rows.proofs.Select.{among_put, put_among_new, put_among_old}

-- of rows of which none is there twice the others are unlike each
unlike_others : (row : Row) (before after : List Row) → AllPairs (λ a b. a ≢ b) (before ++ row ∷ after) → Contains (before ++ after) row → ⊥
unlike_others row [] after distinct at = pairs_head (λ a b. a ≢ b) row after distinct at.0 row at.1 (sym at.2)
unlike_others row (x ∷ xs) after distinct at = by (first_or_later x row (xs ++ after) at) (unlike_others row xs after (pairs_tail (λ a b. a ≢ b) x (xs ++ row ∷ after) distinct))
  where
    here : Contains (xs ++ row ∷ after) row
    here = Contains-append_right xs (row ∷ after) row (zero, omega arith, refl)

    by : (x ≡ row) ⊎ Contains (xs ++ after) row → (Contains (xs ++ after) row → ⊥) → ⊥
    by (inl is) rest = pairs_head (λ a b. a ≢ b) x (xs ++ row ∷ after) distinct here.0 row here.1 (is ∙ sym here.2)
    by (inr more) rest = rest more

-- the rows that are left where one is taken out are the others
module _ (row : Row) (old new : List Row) where
  others_left : AreRows old → IsWithout row old new → (r : Row) → Contains new r ↔ (Contains old r × (row ≡ r → ⊥))
  others_left are is r = (
    λ at. (subst (λ l. Contains l r) (sym is.were) (more (Contains-append_cases is.before is.after r (subst (λ l. Contains l r) is.are at))), λ same. unlike_others row is.before is.after (subst (λ l. AllPairs (λ a b. a ≢ b) l) is.were are.distinct) (subst (λ x. Contains (is.before ++ is.after) x) (sym same) (subst (λ l. Contains l r) is.are at))),
    λ both. subst (λ l. Contains l r) (sym is.are) (less both.1 (Contains-append_cases is.before (row ∷ is.after) r (subst (λ l. Contains l r) is.were both.0))),
  )
    where
      more : Contains is.before r ⊎ Contains is.after r → Contains (is.before ++ row ∷ is.after) r
      more (inl front) = Contains-append_left is.before (row ∷ is.after) r front
      more (inr rest) = Contains-append_right is.before (row ∷ is.after) r (Contains-append_right (row ∷ []) is.after r rest)

      last : (row ≡ r → ⊥) → (row ≡ r) ⊎ Contains is.after r → Contains (is.before ++ is.after) r
      last other (inl same) = absurd (other same)
      last other (inr rest) = Contains-append_right is.before is.after r rest

      less : (row ≡ r → ⊥) → Contains is.before r ⊎ Contains (row ∷ is.after) r → Contains (is.before ++ is.after) r
      less other (inl front) = Contains-append_left is.before is.after r front
      less other (inr rest) = last other (first_or_later row r is.after rest)

  pub left_out : (taken : Bool) → AreRows old → IsTrue taken ↔ Contains old row → OnTrue taken (IsWithout row old new) → OnFalse taken (new ≡ old)
      → (r : Row) → Contains new r ↔ (Contains old r × (row ≡ r → ⊥))
  left_out true are there is kept r = others_left are is r
  left_out false are there is kept r = (
    λ at.
        let was = subst (λ l. Contains l r) kept at in (was, λ same. false≢true (there.1 (subst (λ x. Contains old x) (sym same) was))),
    λ both. subst (λ l. Contains l r) (sym kept) both.0,
  )

-- where there are none
pub none_left_out : (row : Row) (rows : List Row) → rows ≡ [] → (r : Row) → Contains rows r ↔ (Contains rows r × (row ≡ r → ⊥))
none_left_out row rows none r = (
  λ at. absurd (nothing (subst (λ l. Contains l r) none at)),
  λ both. both.0,
)
  where
    nothing : Contains {X = Row} [] r → ⊥
    nothing (k, within, _) = absurd (omega arith)

-- ---- the rows of a list, one after the other

module _ (list first old new : List Row) (i : ℕ) (row : Row) (within : i < length list) (is : row ≡ get_or list i row) where
  one_more : take (i + 1) list ≡ take i list ++ row ∷ []
  one_more = take_more list i row within ∙ ap (λ x. take i list ++ x ∷ []) (sym is)

  was_or_is : (r : Row) → Contains (take (i + 1) list) r → Contains (take i list) r ⊎ (row ≡ r)
  was_or_is r at = Contains-push_cases (take i list) row r (subst (λ l. Contains l r) one_more at)

  pub among_list : Contains list row
  among_list = (i, within, sym is)

  -- one more is taken out
  pub taken_next : ((r : Row) → Contains old r ↔ (Contains first r × (Contains (take i list) r → ⊥))) → ((r : Row) → Contains new r ↔ (Contains old r × (row ≡ r → ⊥)))
      → (r : Row) → Contains new r ↔ (Contains first r × (Contains (take (i + 1) list) r → ⊥))
  taken_next so_far now r = (
    λ at. let own = (now r).0 at in let was = (so_far r).0 own.0 in (was.0, λ among. by was.1 own.1 (was_or_is r among)),
    λ both. (now r).1 ((so_far r).1 (both.0, λ among. both.1 (back (Contains-append_left (take i list) (row ∷ []) r among))), λ same. both.1 (back (Contains-append_right (take i list) (row ∷ []) r (zero, omega arith, same)))),
  )
    where
      back : Contains (take i list ++ row ∷ []) r → Contains (take (i + 1) list) r
      back at = subst (λ l. Contains l r) (sym one_more) at

      by : (Contains (take i list) r → ⊥) → (row ≡ r → ⊥) → Contains (take i list) r ⊎ (row ≡ r) → ⊥
      by not_before not_now (inl before) = not_before before
      by not_before not_now (inr now_it) = not_now now_it

  -- one more is put
  pub put_next : ((r : Row) → Contains (take i list) r → Contains old r) → ((r : Row) → Contains old r → Contains new r) → Contains new row → (r : Row) → Contains (take (i + 1) list) r → Contains new r
  put_next so_far kept here r at = by (was_or_is r at)
    where
      by : Contains (take i list) r ⊎ (row ≡ r) → Contains new r
      by (inl before) = kept r (so_far r before)
      by (inr now_it) = subst (λ x. Contains new x) now_it here

  -- what is there was there or is of the list
  pub known_next : ((r : Row) → Contains old r → Contains first r ⊎ Contains list r) → ((r : Row) → Contains new r → Contains old r ⊎ (row ≡ r)) → (r : Row) → Contains new r → Contains first r ⊎ Contains list r
  known_next so_far now r at = by (now r at)
    where
      by : Contains old r ⊎ (row ≡ r) → Contains first r ⊎ Contains list r
      by (inl before) = so_far r before
      by (inr now_it) = inr (subst (λ x. Contains list x) now_it among_list)

-- ---- a row that is put, or not where memory runs out

pub is_put : {T E : Type 0} (result : Result T E) (row : Row) (old new : List Row) → OnOk result (new ≡ put_row row old) → OnOk result (Contains new row)
is_put (Ok x) row old new put = subst (λ l. Contains l row) (sym put) (put_among_new row old)
is_put (Err e) row old new put = tt

pub are_kept : {T E : Type 0} (result : Result T E) (row : Row) (old new : List Row) → OnOk result (new ≡ put_row row old) → OnErr result (new ≡ old) → (r : Row) → Contains old r → Contains new r
are_kept (Ok x) row old new put failed r at = subst (λ l. Contains l r) (sym put) (put_among_old row old r at)
are_kept (Err e) row old new put failed r at = subst (λ l. Contains l r) (sym failed) at

pub are_known : {T E : Type 0} (result : Result T E) (row : Row) (old new : List Row) → OnOk result (new ≡ put_row row old) → OnErr result (new ≡ old) → (r : Row) → Contains new r → Contains old r ⊎ (row ≡ r)
are_known (Ok x) row old new put failed r at = by (among_put row old r (subst (λ l. Contains l r) put at))
  where
    by : (row ≡ r) ⊎ Contains old r → Contains old r ⊎ (row ≡ r)
    by (inl is) = inr is
    by (inr was) = inl was
are_known (Err e) row old new put failed r at = inl (subst (λ l. Contains l r) failed at)
