-- Changes of a list of records: what undoes one, what is found after it, and how many there are.
use Rattle.std.proofs.Common.{◌≡◌, ℕ, ◌+◌, ◌<◌, ◌==◌, Bool, true, false, cond, not, ◌||◌, List, [], ◌∷◌, ◌++◌, length, arith, refl, sym, ap, ◌∙◌, subst, None, Some, nat_lt, sum_by}
use borrow.Author.Tests.{eqb-true, eq-eqb, le-ltb}
use Rattle.std.proofs.lemmas.Bool.Decides.{nat_tests}
use Rattle.std.proofs.lemmas.Cmp.{nat_cmp_total}
use Rattle.std.proofs.lemmas.List.Sums.{sum_by-cons}
use Rattle.std.specs.Cmp.{IsTotalOrder, on_total, unsigned_tied}
use Rattle.std.specs.List.{AllByRecursion, list_any}
use Rattle.std.specs.Option.{option_map}
use Rattle.std.specs.Ordering.{is_eq}
use Rattle.nv_base.specs.declared.object.ObjId.{ObjId}
use Rattle.nv_map.specs.Map.{value_at, with_entry}
use Rattle.nv_map.proofs.Changes.{rise_with_entry, rise_without_key}
use Rattle.nv_map.proofs.Undone.{taken_put_back}
use Rattle.nv_map.proofs.Values.{value_with_entry, value_without_key}
use Rattle.nv_table.specs.Table.{has_number, NumbersRise, record_of, with_record, without_number, with_exchanged, unkeyed}
use Rattle.nv_table.specs.inner.Index.{number_cmp, keyed}
use Rattle.nv_table.proofs.Keyed.{pair, unkeyed_keyed, value_keyed, entry_keyed, put_keyed, taken_keyed, keys_rise, numbers_rise}

pub number_total : IsTotalOrder number_cmp
number_total = on_total (λ (n : ObjId). n.0) nat_cmp_total

same_number : (n m : ObjId) → is_eq (number_cmp n m) ≡ (m.0 == n.0)
same_number n m = unsigned_tied n.0 m.0 ∙ turn n.0 m.0
  where
    turn : (a b : ℕ) → (a == b) ≡ (b == a)
    turn a b = grind (arith, nat_tests)

module _ {R : Type 0} (number : R → ObjId) where
  -- numbers rise after each change
  pub rise_with : (r : R) (rs : List R) → NumbersRise number rs → record_of number (number r) rs ≡ None → NumbersRise number (with_record number r rs)
  rise_with r rs rise none = numbers_rise number _ (rw (← put_keyed number r rs none) (rise_with_entry number_total (pair number r) (keyed number rs) (keys_rise number rs rise)))

  pub rise_without : (n : ObjId) (rs : List R) → NumbersRise number rs → NumbersRise number (without_number number n rs)
  rise_without n rs rise = numbers_rise number _ (rw (← taken_keyed number n rs rise) (rise_without_key number_cmp n (keyed number rs) (keys_rise number rs rise)))

  -- what is found after each change
  pub found_with : (n : ObjId) (r : R) (rs : List R) → record_of number (number r) rs ≡ None → record_of number n (with_record number r rs) ≡ cond (has_number number n r) (Some r) (record_of number n rs)
  found_with n r rs none =
      sym (value_keyed number n (with_record number r rs))
      ∙ ap (value_at number_cmp n) (sym (put_keyed number r rs none))
      ∙ value_with_entry number_total n (pair number r) (keyed number rs)
      ∙ ap (λ b. cond b (Some r) (value_at number_cmp n (keyed number rs))) (same_number (number r) n)
      ∙ ap (cond (has_number number n r) (Some r)) (value_keyed number n rs)

  pub found_without : (n m : ObjId) (rs : List R) → NumbersRise number rs → record_of number n (without_number number m rs) ≡ cond (n.0 == m.0) None (record_of number n rs)
  found_without n m rs rise =
      sym (value_keyed number n (without_number number m rs))
      ∙ ap (value_at number_cmp n) (sym (taken_keyed number m rs rise))
      ∙ value_without_key number_total n m (keyed number rs) (keys_rise number rs rise)
      ∙ ap (λ b. cond b None (value_at number_cmp n (keyed number rs))) (same_number m n)
      ∙ ap (cond (n.0 == m.0) None) (value_keyed number n rs)

  same_records : (rs qs : List R) → keyed number rs ≡ keyed number qs → rs ≡ qs
  same_records rs qs e = sym (unkeyed_keyed number rs) ∙ ap unkeyed e ∙ unkeyed_keyed number qs

  number_found : (n : ObjId) (r : R) (rs : List R) → record_of number n rs ≡ Some r → n.0 ≡ (number r).0
  number_found n r [] e = absurd (cc)
  number_found n r (x ∷ rs) e = by (has_number number n x) refl e (number_found n r rs)
    where
      by : (b : Bool) → has_number number n x ≡ b → cond b (Some x) (record_of number n rs) ≡ Some r → (record_of number n rs ≡ Some r → n.0 ≡ (number r).0) → n.0 ≡ (number r).0
      by true h f rest = let same : x ≡ r = cc in eqb-true _ _ h ∙ ap (λ y. (number y).0) same
      by false h f rest = rest f

  -- a record's number is the one that it was found by
  pub found_number : (n : ObjId) (r : R) (rs : List R) → record_of number n rs ≡ Some r → n ≡ number r
  found_number n r rs e = ap (λ (k : ℕ). let m : ObjId = record { 0 = k } in m) (number_found n r rs e)

  -- none of the number is left
  pub none_left : (n : ObjId) (rs : List R) → NumbersRise number rs → record_of number n (without_number number n rs) ≡ None
  none_left n rs rise = found_without n n rs rise ∙ ap (λ b. cond b None (record_of number n rs)) (eq-eqb n.0 n.0 refl)

  -- a record that was taken and is put back
  pub taken_back : (n : ObjId) (r : R) (rs : List R) → NumbersRise number rs → record_of number n rs ≡ Some r → with_record number r (without_number number n rs) ≡ rs
  taken_back n r rs rise e =
      let none : record_of number (number r) (without_number number n rs) ≡ None = subst (λ (m : ObjId). record_of number m (without_number number n rs) ≡ None) (found_number n r rs e) (none_left n rs rise) in
      same_records _ _ (sym (put_keyed number r (without_number number n rs) none)
      ∙ ap (with_entry number_cmp (pair number r)) (sym (taken_keyed number n rs rise))
      ∙ taken_put_back number_total n (pair number r) (keyed number rs) (keys_rise number rs rise) (entry_keyed number n rs ∙ ap (option_map (pair number)) e))

  gone_by : (n : ObjId) (r : R) (rs : List R) → n.0 ≡ (number r).0 → without_number number n (with_record number r rs) ≡ without_number number n rs
  gone_by n r [] e = ap (λ b. cond (not b) (r ∷ []) []) (eq-eqb _ _ e)
  gone_by n r (x ∷ rs) e = by (nat_lt (number r).0 (number x).0) (gone_by n r rs e)
    where
      by : (l : Bool) → without_number number n (with_record number r rs) ≡ without_number number n rs → without_number number n (cond l (r ∷ x ∷ rs) (x ∷ with_record number r rs)) ≡ without_number number n (x ∷ rs)
      by true rest = ap (λ b. cond (not b) (r ∷ without_number number n (x ∷ rs)) (without_number number n (x ∷ rs))) (eq-eqb _ _ e)
      by false rest = ap (λ l. cond (not (has_number number n x)) (x ∷ l) l) rest

  pub stays_by : (n : ObjId) (rs : List R) → record_of number n rs ≡ None → without_number number n rs ≡ rs
  stays_by n [] e = refl
  stays_by n (x ∷ rs) e = by (has_number number n x) e (stays_by n rs)
    where
      by : (b : Bool) → cond b (Some x) (record_of number n rs) ≡ None → (record_of number n rs ≡ None → without_number number n rs ≡ rs) → cond (not b) (x ∷ without_number number n rs) (without_number number n rs) ≡ x ∷ rs
      by true f rest = absurd (cc)
      by false f rest = ap (λ l. x ∷ l) (rest f)

  -- a record that was put and is taken
  pub put_back : (r : R) (rs : List R) → record_of number (number r) rs ≡ None → without_number number (number r) (with_record number r rs) ≡ rs
  put_back r rs none = gone_by (number r) r rs refl ∙ stays_by (number r) rs none

  pub is_found : (r : R) (rs : List R) → record_of number (number r) rs ≡ None → record_of number (number r) (with_record number r rs) ≡ Some r
  is_found r rs none = found_with (number r) r rs none ∙ ap (λ b. cond b (Some r) (record_of number (number r) rs)) (eq-eqb (number r).0 (number r).0 refl)

  -- a record above all goes last
  pub put_last : (r : R) (rs : List R) → AllByRecursion (λ x. (number x).0 < (number r).0) rs → with_record number r rs ≡ rs ++ r ∷ []
  put_last r [] a = refl
  put_last r (x ∷ rs) a = ap (λ b. cond b (r ∷ x ∷ rs) (x ∷ with_record number r rs)) (le-ltb _ _ (omega (arith, a.0))) ∙ ap (λ l. x ∷ l) (put_last r rs a.1)

  -- some record passes, how many there are, and what they add up to
  pub any_with : (p : R → Bool) (r : R) (rs : List R) → list_any p (with_record number r rs) ≡ (p r || list_any p rs)
  any_with p r [] = refl
  any_with p r (x ∷ rs) = by (nat_lt (number r).0 (number x).0) (any_with p r rs)
    where
      swap : (a b c : Bool) → (a || (b || c)) ≡ (b || (a || c))
      swap true true c = refl
      swap true false c = refl
      swap false b c = refl

      by : (l : Bool) → list_any p (with_record number r rs) ≡ (p r || list_any p rs) → list_any p (cond l (r ∷ x ∷ rs) (x ∷ with_record number r rs)) ≡ (p r || (p x || list_any p rs))
      by true rest = refl
      by false rest = ap (λ b. p x || b) rest ∙ swap (p x) (p r) (list_any p rs)

  pub length_with : (r : R) (rs : List R) → length (with_record number r rs) ≡ length rs + 1
  length_with r [] = refl
  length_with r (x ∷ rs) = by (nat_lt (number r).0 (number x).0) (length_with r rs)
    where
      by : (l : Bool) → length (with_record number r rs) ≡ length rs + 1 → length (cond l (r ∷ x ∷ rs) (x ∷ with_record number r rs)) ≡ length (x ∷ rs) + 1
      by true rest = omega arith
      by false rest = omega (arith, rest)

  pub sum_with : (f : R → ℕ) (r : R) (rs : List R) → sum_by f (with_record number r rs) ≡ sum_by f rs + f r
  sum_with f r [] = refl
  sum_with f r (x ∷ rs) = by (nat_lt (number r).0 (number x).0) (sum_with f r rs)
    where
      by : (l : Bool) → sum_by f (with_record number r rs) ≡ sum_by f rs + f r → sum_by f (cond l (r ∷ x ∷ rs) (x ∷ with_record number r rs)) ≡ sum_by f (x ∷ rs) + f r
      by true rest = omega (arith, sum_by-cons f r (x ∷ rs))
      by false rest = omega (arith, rest, sum_by-cons f x (with_record number r rs), sum_by-cons f x rs)

  -- what holds of each record, and of the new one, holds of all
  pub all_with : (P : R → Type 0) (r : R) (rs : List R) → P r → AllByRecursion P rs → AllByRecursion P (with_record number r rs)
  all_with P r [] p a = (p, tt)
  all_with P r (x ∷ rs) p a = by (nat_lt (number r).0 (number x).0) (all_with P r rs p a.1)
    where
      by : (l : Bool) → AllByRecursion P (with_record number r rs) → AllByRecursion P (cond l (r ∷ x ∷ rs) (x ∷ with_record number r rs))
      by true rest = (p, a)
      by false rest = (a.0, rest)

  pub all_left : (P : R → Type 0) (n : ObjId) (rs : List R) → AllByRecursion P rs → AllByRecursion P (without_number number n rs)
  all_left P n [] a = tt
  all_left P n (x ∷ rs) a = by (has_number number n x) (all_left P n rs a.1)
    where
      by : (b : Bool) → AllByRecursion P (without_number number n rs) → AllByRecursion P (cond (not b) (x ∷ without_number number n rs) (without_number number n rs))
      by true rest = rest
      by false rest = (a.0, rest)

  -- what holds of each record holds of one that is found
  pub all_found : (P : R → Type 0) (n : ObjId) (r : R) (rs : List R) → AllByRecursion P rs → record_of number n rs ≡ Some r → P r
  all_found P n r [] a e = absurd (cc)
  all_found P n r (x ∷ rs) a e = by (has_number number n x) e (all_found P n r rs a.1)
    where
      by : (b : Bool) → cond b (Some x) (record_of number n rs) ≡ Some r → (record_of number n rs ≡ Some r → P r) → P r
      by true f rest = let same : x ≡ r = cc in subst P same a.0
      by false f rest = rest f

  pub length_without : (n : ObjId) (r : R) (rs : List R) → NumbersRise number rs → record_of number n rs ≡ Some r → length (without_number number n rs) + 1 ≡ length rs
  length_without n r rs rise e = sym (length_with r (without_number number n rs)) ∙ ap length (taken_back n r rs rise e)

  pub sum_without : (f : R → ℕ) (n : ObjId) (r : R) (rs : List R) → NumbersRise number rs → record_of number n rs ≡ Some r → sum_by f (without_number number n rs) + f r ≡ sum_by f rs
  sum_without f n r rs rise e = sym (sum_with f r (without_number number n rs)) ∙ ap (sum_by f) (taken_back n r rs rise e)

  -- a record put in place of the one of its number
  pub rise_exchanged : (r : R) (rs : List R) → NumbersRise number rs → NumbersRise number (with_exchanged number r rs)
  rise_exchanged r rs rise = rise_with r (without_number number (number r) rs) (rise_without (number r) rs rise) (none_left (number r) rs rise)

  pub exchanged_found : (r : R) (rs : List R) → NumbersRise number rs → record_of number (number r) (with_exchanged number r rs) ≡ Some r
  exchanged_found r rs rise = is_found r (without_number number (number r) rs) (none_left (number r) rs rise)

  pub exchanged_back : (r old : R) (rs : List R) → NumbersRise number rs → record_of number (number r) rs ≡ Some old → with_exchanged number old (with_exchanged number r rs) ≡ rs
  exchanged_back r old rs rise e =
      ap (λ n. with_record number old (without_number number n (with_exchanged number r rs))) (sym (found_number (number r) old rs e))
      ∙ ap (with_record number old) (put_back r (without_number number (number r) rs) (none_left (number r) rs rise))
      ∙ taken_back (number r) old rs rise e
