-- A list of records as the entries by their numbers.
use Rattle.std.proofs.Common.{◌≡◌, ℕ, ◌<◌, ◌==◌, Bool, true, false, cond, not, List, [], ◌∷◌, arith, refl, sym, ap, ◌∙◌, None, Some, Option, nat_lt}
use borrow.Author.Tests.{eqb-true, ne_eqb}
use Rattle.std.specs.Cmp.{unsigned_tied, nat_cmp_is}
use Rattle.std.specs.List.{AllByRecursion}
use Rattle.std.specs.List.Sorted.{IsStrictlySortedBy}
use Rattle.std.specs.Map.{keys_of}
use Rattle.std.specs.Option.{option_map}
use Rattle.std.specs.Ordering.{is_lt, nat_cmp, match_ordering}
use Rattle.std.specs.declared.cmp.Ordering.TheVariants.{Less, Equal, Greater}
use Rattle.nv_base.specs.declared.object.ObjId.{ObjId}
use Rattle.nv_map.specs.Map.{KeysRise, value_at, entry_at, with_entry, without_key, entry_after}
use Rattle.nv_table.specs.Table.{has_number, NumbersRise, record_of, record_after, with_record, without_number, unkeyed}
use Rattle.nv_table.specs.inner.Index.{number_cmp, keyed}
use Rattle.nv_table.specs.inner.Probes.{less_is}

lt_is : (a b : ℕ) → is_lt (nat_cmp a b) ≡ nat_lt a b
lt_is a b = by (nat_lt a b) (a == b)
  where
    by : (l e : Bool) → is_lt (cond l Less (cond e Equal Greater)) ≡ l
    by true e = refl
    by false true = refl
    by false false = refl

over_cond : {A B : Type 0} (f : A → B) (b : Bool) (x : A) (o : Option A) → cond b (Some (f x)) (option_map f o) ≡ option_map f (cond b (Some x) o)
over_cond f true x o = refl
over_cond f false x o = refl

module _ {R : Type 0} (number : R → ObjId) where
  abbrev pub pair : R → ObjId × R
  pair r = (number r, r)

  pub unkeyed_keyed : (rs : List R) → unkeyed (keyed number rs) ≡ rs
  unkeyed_keyed [] = refl
  unkeyed_keyed (r ∷ rs) = ap (λ l. r ∷ l) (unkeyed_keyed rs)

  pub value_keyed : (n : ObjId) (rs : List R) → value_at number_cmp n (keyed number rs) ≡ record_of number n rs
  value_keyed n [] = refl
  value_keyed n (r ∷ rs) =
      ap (λ b. cond b (Some r) (value_at number_cmp n (keyed number rs))) (unsigned_tied n.0 (number r).0)
      ∙ ap (cond (has_number number n r) (Some r)) (value_keyed n rs)

  pub entry_keyed : (n : ObjId) (rs : List R) → entry_at number_cmp n (keyed number rs) ≡ option_map pair (record_of number n rs)
  entry_keyed n [] = refl
  entry_keyed n (r ∷ rs) =
      ap (λ b. cond b (Some (pair r)) (entry_at number_cmp n (keyed number rs))) (unsigned_tied n.0 (number r).0)
      ∙ ap (cond (has_number number n r) (Some (pair r))) (entry_keyed n rs)
      ∙ over_cond pair (has_number number n r) r (record_of number n rs)

  above_keyed : (low : ObjId) (rs : List R) → entry_after number_cmp (Some low) (keyed number rs) ≡ option_map pair (record_after number (Some low) rs)
  above_keyed low [] = refl
  above_keyed low (r ∷ rs) =
      ap (λ b. cond b (Some (pair r)) (entry_after number_cmp (Some low) (keyed number rs))) (lt_is low.0 (number r).0)
      ∙ ap (cond (nat_lt low.0 (number r).0) (Some (pair r))) (above_keyed low rs)
      ∙ over_cond pair (nat_lt low.0 (number r).0) r (record_after number (Some low) rs)

  pub after_keyed : (after : Option ObjId) (rs : List R) → entry_after number_cmp after (keyed number rs) ≡ option_map pair (record_after number after rs)
  after_keyed None [] = refl
  after_keyed None (r ∷ rs) = refl
  after_keyed (Some low) rs = above_keyed low rs

  pub put_keyed : (r : R) (rs : List R) → record_of number (number r) rs ≡ None → with_entry number_cmp (pair r) (keyed number rs) ≡ keyed number (with_record number r rs)
  put_keyed r [] none = refl
  put_keyed r (x ∷ rs) none = by (nat_lt (number r).0 (number x).0) ((number r).0 == (number x).0) none (put_keyed r rs)
    where
      by : (l e : Bool) → cond e (Some x) (record_of number (number r) rs) ≡ None
          → (record_of number (number r) rs ≡ None → with_entry number_cmp (pair r) (keyed number rs) ≡ keyed number (with_record number r rs))
          → match_ordering (cond l Less (cond e Equal Greater)) (pair r ∷ pair x ∷ keyed number rs) ((number x, r) ∷ keyed number rs) (pair x ∷ with_entry number_cmp (pair r) (keyed number rs))
          ≡ keyed number (cond l (r ∷ x ∷ rs) (x ∷ with_record number r rs))
      by true e n rest = refl
      by false true n rest = absurd (cc)
      by false false n rest = ap (λ l. pair x ∷ l) (rest n)

  -- where no record has the number, all stay
  pub all_stay : (n : ObjId) (rs : List R) → AllByRecursion (λ r. has_number number n r ≡ false) rs → without_number number n rs ≡ rs
  all_stay n [] a = refl
  all_stay n (r ∷ rs) a = ap (λ b. cond (not b) (r ∷ without_number number n rs) (without_number number n rs)) a.0 ∙ ap (λ l. r ∷ l) (all_stay n rs a.1)

  pub above_apart : (n : ObjId) (low : ℕ) → n.0 ≡ low → (rs : List R) → AllByRecursion (λ x. low < (number x).0) rs → AllByRecursion (λ r. has_number number n r ≡ false) rs
  above_apart n low e [] a = tt
  above_apart n low e (r ∷ rs) a = (ne_eqb _ _ (λ same. omega (arith, a.0)), above_apart n low e rs a.1)

  pub taken_keyed : (n : ObjId) (rs : List R) → NumbersRise number rs → without_key number_cmp n (keyed number rs) ≡ keyed number (without_number number n rs)
  taken_keyed n [] rise = refl
  taken_keyed n (r ∷ rs) rise =
      ap (λ b. cond b (keyed number rs) (pair r ∷ without_key number_cmp n (keyed number rs))) (unsigned_tied n.0 (number r).0)
      ∙ by (n.0 == (number r).0) refl (taken_keyed n rs rise.1)
    where
      by : (b : Bool) → (n.0 == (number r).0) ≡ b → without_key number_cmp n (keyed number rs) ≡ keyed number (without_number number n rs)
          → cond b (keyed number rs) (pair r ∷ without_key number_cmp n (keyed number rs)) ≡ keyed number (cond (not b) (r ∷ without_number number n rs) (without_number number n rs))
      by true e rest = ap (keyed number) (sym (all_stay n rs (above_apart n (number r).0 (eqb-true _ _ e) rs rise.0)))
      by false e rest = ap (λ l. pair r ∷ l) rest

  -- the keys rise exactly where the numbers do
  all_less : (low : ObjId) (rs : List R) → AllByRecursion (λ x. low.0 < (number x).0) rs → AllByRecursion (λ x. number_cmp low x ≡ Less) (keys_of (keyed number rs))
  all_less low [] a = tt
  all_less low (r ∷ rs) a = (sym (nat_cmp_is low.0 (number r).0 Less a.0), all_less low rs a.1)

  pub keys_rise : (rs : List R) → NumbersRise number rs → KeysRise number_cmp (keyed number rs)
  unfolding IsStrictlySortedBy
  keys_rise [] rise = tt
  keys_rise (r ∷ rs) rise = (all_less (number r) rs rise.0, keys_rise rs rise.1)

  all_above : (low : ObjId) (rs : List R) → AllByRecursion (λ x. number_cmp low x ≡ Less) (keys_of (keyed number rs)) → AllByRecursion (λ x. low.0 < (number x).0) rs
  all_above low [] a = tt
  all_above low (r ∷ rs) a = (less_is low (number r) a.0, all_above low rs a.1)

  pub numbers_rise : (rs : List R) → KeysRise number_cmp (keyed number rs) → NumbersRise number rs
  unfolding IsStrictlySortedBy
  numbers_rise [] rise = tt
  numbers_rise (r ∷ rs) rise = (all_above (number r) rs rise.0, numbers_rise rs rise.1)

  -- entries with their records' numbers are those of their records
  pub numbered_as : (es : List (ObjId × R)) (rs : List R) → es ≡ keyed number rs → (es ≡ keyed number (unkeyed es)) × (unkeyed es ≡ rs)
  numbered_as es rs e = let same : unkeyed es ≡ rs = ap unkeyed e ∙ unkeyed_keyed rs in (e ∙ ap (keyed number) (sym same), same)

  module _ (es : List (ObjId × R)) (numbered : es ≡ keyed number (unkeyed es)) where
    pub value_numbered : (n : ObjId) → value_at number_cmp n es ≡ record_of number n (unkeyed es)
    value_numbered n = ap (value_at number_cmp n) numbered ∙ value_keyed n (unkeyed es)

    after_numbered : (after : Option ObjId) → option_map (λ e. e.1) (entry_after number_cmp after es) ≡ record_after number after (unkeyed es)
    after_numbered after = ap (λ l. option_map (λ e. e.1) (entry_after number_cmp after l)) numbered ∙ ap (option_map (λ e. e.1)) (after_keyed after (unkeyed es)) ∙ back (record_after number after (unkeyed es))
      where
        back : (o : Option R) → option_map (λ (e : ObjId × R). e.1) (option_map pair o) ≡ o
        back None = refl
        back (Some r) = refl

    pub after_found : (key after : Option ObjId) (entry : Option (ObjId × R)) → entry_after number_cmp key es ≡ entry → key ≡ after → option_map (λ e. e.1) entry ≡ record_after number after (unkeyed es)
    after_found key after entry found same = ap (option_map (λ e. e.1)) (sym found ∙ ap (λ k. entry_after number_cmp k es) same) ∙ after_numbered after
