-- What is left of the records of a list, looked at one by one by rising number.
use Rattle.std.proofs.Common.{◌≡◌, ℕ, ◌<◌, ◌≤◌, Bool, true, false, cond, ◌&&◌, nat_lt, List, [], ◌∷◌, Option, Some, None, arith, refl, sym, ap, ◌∙◌, subst, length, drop, get_or, ◌+◌}
use Rattle.std.proofs.lemmas.Bool.{and_parts, lt-ltb}
use Rattle.std.proofs.lemmas.Bool.Decides.{nat_tests}
use Rattle.std.proofs.lemmas.List.{drop_more, drop_all}
use Rattle.std.specs.Prelude.{find, filter, IsTrue}
use Rattle.std.specs.List.{AllByRecursion}
use Rattle.nv_base.specs.declared.object.ObjId.{ObjId}
use Rattle.nv_table.specs.Table.{NumbersRise, is_after, record_after}

-- two tests that agree keep the same
pub same_kept : {R : Type 0} (p q : R → Bool) (rs : List R) → ((r : R) → p r ≡ q r) → filter p rs ≡ filter q rs
same_kept p q [] agree = refl
same_kept {R} p q (r ∷ rs) agree = ap (λ b. cond b (r ∷ filter p rs) (filter p rs)) (agree r) ∙ ap (λ (l : List R). cond (q r) (r ∷ l) l) (same_kept p q rs agree)

-- and find the same
pub same_met : {R : Type 0} (p q : R → Bool) (rs : List R) → ((r : R) → p r ≡ q r) → find p rs ≡ find q rs
same_met p q [] agree = refl
same_met {R} p q (r ∷ rs) agree = ap (λ b. cond b (Some r) (find p rs)) (agree r) ∙ ap (λ (o : Option R). cond (q r) (Some r) o) (same_met p q rs agree)

pub and_true : (a : Bool) → a ≡ (a && true)
and_true true = refl
and_true false = refl

pub all_kept : {R : Type 0} (rs : List R) → filter (λ r. true) rs ≡ rs
all_kept [] = refl
all_kept {R} (r ∷ rs) = ap (λ (l : List R). r ∷ l) (all_kept rs)

not_above : (a b : ℕ) → a < b → nat_lt b a ≡ false
not_above a b less = grind (arith, nat_tests, less)

not_self : (a : ℕ) → nat_lt a a ≡ false
not_self a = grind (arith, nat_tests)

module _ {R : Type 0} (number : R → ObjId) (p : R → Bool) where
  -- those that are still to be looked at
  abbrev pub rest : Option ObjId → List R → List R
  rest after rs = filter (λ r. is_after after (number r) && p r) rs

  -- above a number that itself is to be looked at, all are
  later_kept : (n : ObjId) (after : Option ObjId) (rs : List R) → IsTrue (is_after after n) → AllByRecursion (λ r. n.0 < (number r).0) rs → rest after rs ≡ filter p rs
  later_kept n after [] is all = refl
  later_kept n after (r ∷ rs) is all =
      ap (λ b. cond (b && p r) (r ∷ rest after rs) (rest after rs)) (above after is) ∙ ap (λ (l : List R). cond (p r) (r ∷ l) l) (later_kept n after rs is all.1)
    where
      above : (low : Option ObjId) → IsTrue (is_after low n) → is_after low (number r) ≡ true
      above None i = refl
      above (Some low) i = let less : n.0 < (number r).0 = all.0 in grind (arith, nat_tests, i, less)

  pub next_rest : (after : Option ObjId) (x : R) (rs : List R) → NumbersRise number rs → find (λ r. is_after after (number r) && p r) rs ≡ Some x → rest after rs ≡ x ∷ rest (Some (number x)) rs
  next_rest after x [] rise found = absurd (cc)
  next_rest after x (r ∷ rs) rise found = by (is_after after (number r) && p r) refl found (next_rest after x rs rise.1)
    where
      here : is_after after (number r) && p r ≡ true → rest after rs ≡ rest (Some (number r)) (r ∷ rs)
      here is =
          later_kept (number r) after rs (and_parts (is_after after (number r)) (p r) is).0 rise.0
          ∙ sym (later_above rs rise.0)
          ∙ ap (λ b. cond (b && p r) (r ∷ rest (Some (number r)) rs) (rest (Some (number r)) rs)) (sym (not_self (number r).0))
        where
          later_above : (l : List R) → AllByRecursion (λ s. (number r).0 < (number s).0) l → rest (Some (number r)) l ≡ filter p l
          later_above [] all = refl
          later_above (s ∷ l) all = ap (λ b. cond (b && p s) (s ∷ rest (Some (number r)) l) (rest (Some (number r)) l)) (lt-ltb (number r).0 (number s).0 all.0) ∙ ap (λ (k : List R). cond (p s) (s ∷ k) k) (later_above l all.1)

      by : (b : Bool) → (is_after after (number r) && p r) ≡ b → cond b (Some r) (find (λ s. is_after after (number s) && p s) rs) ≡ Some x
          → (find (λ s. is_after after (number s) && p s) rs ≡ Some x → rest after rs ≡ x ∷ rest (Some (number x)) rs) → cond b (r ∷ rest after rs) (rest after rs) ≡ x ∷ rest (Some (number x)) (r ∷ rs)
      by true is f more = let same : r ≡ x = cc in subst (λ (y : R). r ∷ rest after rs ≡ y ∷ rest (Some (number y)) (r ∷ rs)) same (ap (λ (l : List R). r ∷ l) (here is))
      by false is f more =
          let low : (number r).0 < (number x).0 = found_above rs rise.0 f in
          more f ∙ ap (λ b. x ∷ cond (b && p r) (r ∷ rest (Some (number x)) rs) (rest (Some (number x)) rs)) (sym (not_above (number r).0 (number x).0 low))
        where
          found_above : (l : List R) → AllByRecursion (λ s. (number r).0 < (number s).0) l → find (λ s. is_after after (number s) && p s) l ≡ Some x → (number r).0 < (number x).0
          found_above [] all e = absurd (cc)
          found_above (s ∷ l) all e = at (is_after after (number s) && p s) e (found_above l all.1)
            where
              at : (b : Bool) → cond b (Some s) (find (λ t. is_after after (number t) && p t) l) ≡ Some x → (find (λ t. is_after after (number t) && p t) l ≡ Some x → (number r).0 < (number x).0) → (number r).0 < (number x).0
              at true g k = let same : s ≡ x = cc in subst (λ (y : R). (number r).0 < (number y).0) same all.0
              at false g k = k g

  pub no_rest : (after : Option ObjId) (rs : List R) → find (λ r. is_after after (number r) && p r) rs ≡ None → rest after rs ≡ []
  no_rest after [] none = refl
  no_rest after (r ∷ rs) none = by (is_after after (number r) && p r) none (no_rest after rs)
    where
      by : (b : Bool) → cond b (Some r) (find (λ s. is_after after (number s) && p s) rs) ≡ None → (find (λ s. is_after after (number s) && p s) rs ≡ None → rest after rs ≡ []) → cond b (r ∷ rest after rs) (rest after rs) ≡ []
      by true f more = absurd (cc)
      by false f more = more f

-- Of a list by place.
pub next_dropped : {X : Type 0} (items xs : List X) (i : ℕ) (x : X) → items ≡ xs → i < length items → x ≡ get_or items i x → drop i xs ≡ x ∷ drop (i + 1) xs
next_dropped items xs i x same within is = ap (drop i) (sym same) ∙ drop_more items i x within ∙ ap (λ y. y ∷ drop (i + 1) items) (sym is) ∙ ap (λ ys. x ∷ drop (i + 1) ys) same

pub none_dropped : {X : Type 0} (items xs : List X) (i : ℕ) → items ≡ xs → length items ≤ i → drop i xs ≡ []
none_dropped items xs i same past = ap (drop i) (sym same) ∙ drop_all i items past

-- The same of all records.
module _ {R : Type 0} (number : R → ObjId) (after : Option ObjId) (rs : List R) where
  abbrev pub left : List R
  left = rest number (λ r. true) after rs

  pub met : record_after number after rs ≡ find (λ r. is_after after (number r) && true) rs
  met = same_met (λ r. is_after after (number r)) (λ r. is_after after (number r) && true) rs (λ r. and_true (is_after after (number r)))

  pub next_left : (x : R) (table : List R) → table ≡ rs → NumbersRise number table → Some x ≡ record_after number after table → left ≡ x ∷ rest number (λ r. true) (Some (number x)) rs
  next_left x table is rise found = next_rest number (λ r. true) after x rs (subst (NumbersRise number) is rise) (sym met ∙ sym (found ∙ ap (record_after number after) is))

  pub none_left : (table : List R) → table ≡ rs → None ≡ record_after number after table → left ≡ []
  none_left table is none = no_rest number (λ r. true) after rs (sym met ∙ sym (none ∙ ap (record_after number after) is))

-- at the beginning all are left
pub first_left : {R : Type 0} (number : R → ObjId) (rs : List R) → rest number (λ r. true) None rs ≡ rs
first_left number rs = all_kept rs
