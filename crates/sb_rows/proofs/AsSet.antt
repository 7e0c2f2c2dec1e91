-- Rows in order, of which those that agree are taken once, are the rows of a list as a set.
use Rattle.std.proofs.Common.{◌≡◌, ◌+◌, ◌⊎◌, inl, inr, Bool, true, false, List, [], ◌∷◌, get_or, sym, ap, subst, refl, ◌∙◌, arith}
use Rattle.std.specs.declared.cmp.Ordering.{Ordering}
use Rattle.std.specs.declared.cmp.Ordering.TheVariants.{Less, Equal, Greater}
use Rattle.std.specs.Ordering.{is_gt, is_eq, eq_by_cmp, ordering_reverse}
use Rattle.std.specs.List.{All, Any, Contains, dedup, dedup_from}
use Rattle.std.specs.List.Sorted.{IsPermutation, IsStrictlySortedBy}
use Rattle.std.proofs.lemmas.Cmp.{eq_by_cmp_equiv}
use Rattle.std.proofs.lemmas.Bool.{and_parts, false≢true}
use Rattle.std.proofs.lemmas.List.Elements.{All-contains, Contains-append_cases, Contains-append_left, Contains-append_right, Contains-get_or}
use Rattle.std.proofs.lemmas.List.Kept.{Any-dedup, Contains-from_dedup, IsStrictlySortedBy-dedup}
use Rattle.std.proofs.lemmas.List.Sorted.{Contains-permutation, IsPermutation-sym}
use Rattle.std.proofs.lemmas.Map.Keys.{Less-from_sorted}
use Rattle.sb_model.specs.declared.row.Row.{Row}
use Rattle.sb_rows.specs.Row.{row_cmp, AgreeAsOne, AreApart, AreRows, HasTypedMatch, IsInRowOrder, IsSetOf, put_rows}
use Rattle.sb_rows.proofs.AllAtOnce.{put_rows_move, put_rows_ordered, unlike_from_apart}
use Rattle.sb_rows.proofs.Distinct.{all_from_among}
use Rattle.sb_rows.proofs.Order.{level_itself, row_cmp_total, lt_turned}
use Rattle.sb_rows.specs.inner.Beside.{is_same}
use Rattle.sb_model.specs.inner.Exact.{row}
use Rattle.sb_model.proofs.Same.{same_itself}

-- rows that rise are in row order, and no two agree
less_is_not_above : (o : Ordering) → o ≡ Less → is_gt o ≡ false
less_is_not_above Less is = refl
less_is_not_above Equal is = cc
less_is_not_above Greater is = cc

rising_ordered : (rows : List Row) → IsStrictlySortedBy row_cmp rows → IsInRowOrder rows
rising_ordered rows up k d low below =
    lt_turned (get_or rows k d) (get_or rows (k + 1) d) ∙ less_is_not_above _ (Less-from_sorted row_cmp rows k (k + 1) d up (omega arith) below)

rising_apart : (rows : List Row) → IsStrictlySortedBy row_cmp rows → AreApart rows
rising_apart rows up i j d before below equal = let less : row_cmp (get_or rows i d) (get_or rows j d) ≡ Less = Less-from_sorted row_cmp rows i j d up before below in cc

is_equal : (o : Ordering) → is_eq o ≡ true → o ≡ Equal
is_equal Less is = cc
is_equal Equal is = refl
is_equal Greater is = cc

-- ---- two tests that agree on the elements of a list leave the same of it

module _ {X : Type 0} (f g : X → X → Bool) where
  dedup_from_alike : (k : X) (xs : List X) → ((x y : X) → Contains (k ∷ xs) x → Contains (k ∷ xs) y → f x y ≡ g x y) → dedup_from f k xs ≡ dedup_from g k xs
  dedup_from_alike k [] same = refl
  dedup_from_alike k (x ∷ xs) same =
      let tail = Contains-append_right (k ∷ []) (x ∷ xs) in
      let skip = λ (z : X) (there : Contains (k ∷ xs) z). past k x xs z there in
      let one : dedup_from f k xs ≡ dedup_from g k xs = dedup_from_alike k xs (λ a b in_a in_b. same a b (skip a in_a) (skip b in_b)) in
      let other : dedup_from f x xs ≡ dedup_from g x xs = dedup_from_alike x xs (λ a b in_a in_b. same a b (tail a in_a) (tail b in_b)) in
      rw (same x k (tail x (Contains-get_or (x ∷ xs) 0 x (omega arith))) (Contains-get_or (k ∷ x ∷ xs) 0 k (omega arith)), one, other) refl
    where
      past : (k x : X) (xs : List X) (z : X) → Contains (k ∷ xs) z → Contains (k ∷ x ∷ xs) z
      past k x xs z there = either (Contains-append_cases (k ∷ []) xs z there)
        where
          either : Contains (k ∷ []) z ⊎ Contains xs z → Contains (k ∷ x ∷ xs) z
          either (inl first) = Contains-append_left (k ∷ []) (x ∷ xs) z first
          either (inr rest) = Contains-append_right (k ∷ x ∷ []) xs z rest

  dedup_alike : (xs : List X) → ((x y : X) → Contains xs x → Contains xs y → f x y ≡ g x y) → dedup f xs ≡ dedup g xs
  dedup_alike [] same = refl
  dedup_alike (x ∷ xs) same = dedup_from_alike x xs same

equal_itself : (o : Ordering) → o ≡ ordering_reverse o → is_eq o ≡ true
equal_itself Less e = cc
equal_itself Equal e = refl
equal_itself Greater e = cc

one_is_equal : (a b : Row) → a ≡ b → eq_by_cmp row_cmp a b ≡ true
one_is_equal a b is = ap (λ r. is_eq (row_cmp a r)) (sym is) ∙ equal_itself (row_cmp a a) (row_cmp_total.antisymm a a)

one_from_same : (a b : Row) → is_same a b ≡ true → a ≡ b
one_from_same a b is = row a b (and_parts _ _ is).1

same_from_one : (a b : Row) → a ≡ b → is_same a b ≡ true
same_from_one a b is = ap (is_same a) (sym is) ∙ rw (level_itself a, same_itself a) refl

module _ (list : List Row) (agree : AgreeAsOne list) where
  abbrev sorted : List Row
  sorted = put_rows [] list

  moves : IsPermutation list sorted
  moves = put_rows_move list []

  -- each of those that agree, once
  abbrev once : List Row
  once = dedup (eq_by_cmp row_cmp) sorted

  rising : IsStrictlySortedBy row_cmp once
  rising = IsStrictlySortedBy-dedup row_cmp_total (λ x y. refl) sorted (put_rows_ordered list [] (λ k d le lt. absurd (omega arith)))

  is_listed : (r : Row) → Contains once r → Contains list r
  is_listed r there = Contains-permutation sorted list r (IsPermutation-sym list sorted moves) (Contains-from_dedup (eq_by_cmp row_cmp) sorted r there)

  is_kept : (r : Row) → Contains list r → Contains once r
  is_kept r there = kept (Any-dedup (eq_by_cmp_equiv row_cmp_total) sorted r (Contains-permutation list sorted r moves there))
    where
      kept : Any (λ y. eq_by_cmp row_cmp r y ≡ true) once → Contains once r
      kept (k, y, below, is, same) =
          let alike : r ≡ y = agree r y there (is_listed y (k, below, is)) (is_equal (row_cmp r y) same) in subst (Contains once) (sym alike) (k, below, is)

  pub as_set : IsSetOf once list
  as_set = record { ordered = rising_ordered once rising; apart = rising_apart once rising; members = λ r. (is_listed r, is_kept r) }

  -- and they are rows of the table
  pub set_are_rows : All HasTypedMatch list → AreRows once
  set_are_rows typed = record {
    ordered = rising_ordered once rising;
    distinct = unlike_from_apart once (rising_apart once rising);
    typed = all_from_among HasTypedMatch once (λ r there. All-contains HasTypedMatch list r typed (is_listed r there));
  }

  -- ---- the rows of the list that are equal by `==` are those that agree

  agrees : (a b : Row) → Contains sorted a → Contains sorted b → is_same a b ≡ eq_by_cmp row_cmp a b
  agrees a b there here = by (eq_by_cmp row_cmp a b) (is_same a b) refl refl
    where
      listed : (r : Row) → Contains sorted r → Contains list r
      listed r in_it = Contains-permutation sorted list r (IsPermutation-sym list sorted moves) in_it

      by : (order eq : Bool) → eq_by_cmp row_cmp a b ≡ order → is_same a b ≡ eq → eq ≡ order
      by true true is same = refl
      by false false is same = refl
      by true false is same =
          let alike : a ≡ b = agree a b (listed a there) (listed b here) (is_equal (row_cmp a b) is) in
          absurd (false≢true (sym same ∙ same_from_one a b alike))
      by false true is same = absurd (false≢true (sym is ∙ one_is_equal a b (one_from_same a b same)))

  pub once_each : dedup is_same sorted ≡ once
  once_each = dedup_alike is_same (eq_by_cmp row_cmp) sorted agrees
