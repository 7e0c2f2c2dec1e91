-- A record that lists a number is the first of those that do from its own number on.
use Rattle.std.proofs.Common.{◌≡◌, ℕ, zero, suc, ◌<◌, Bool, true, false, cond, List, [], ◌∷◌, Contains, ap, sym, subst, refl, ◌∙◌, ◌⊎◌, inl, inr, arith}
use Rattle.std.specs.Prelude.{◌&&◌, nat_le, nat_eq, find, Option, None, Some}
use Rattle.std.specs.List.{AllByRecursion}
use Rattle.std.proofs.lemmas.Bool.Decides.{nat_tests}
use Rattle.nv_base.specs.declared.object.ObjId.{ObjId}
use Rattle.nv_table.specs.Table.{NumbersRise}

-- whether a record that is found, if one is, has this number
abbrev pub has_it : {R : Type 0} → (R → ObjId) → ObjId → Option R → Bool
has_it number n None = false
has_it number n (Some r) = nat_eq (number r).0 n.0

module _ {R : Type 0} (number : R → ObjId) (lists : R → Bool) where
  -- a record that lists the number, and is not below another one
  abbrev pub from : ObjId → R → Bool
  from n r = nat_le n.0 (number r).0 && lists r

  cases : (x r : R) (xs : List R) → Contains (x ∷ xs) r → (x ≡ r) ⊎ Contains xs r
  cases x r xs (zero, within, is) = inl is
  cases x r xs (suc k, within, is) = inr (k, omega arith, is)

  -- of records above it none is the one of that number
  none_above : (n : ObjId) (xs : List R) → AllByRecursion (λ x. n.0 < (number x).0) xs → has_it number n (find (from n) xs) ≡ false
  none_above n [] above = refl
  none_above n (x ∷ xs) above = by (from n x) (none_above n xs above.1)
    where
      other : (a b : ℕ) → a < b → nat_eq b a ≡ false
      other a b lt = grind (arith, nat_tests, lt)

      by : (b : Bool) → has_it number n (find (from n) xs) ≡ false → has_it number n (cond b (Some x) (find (from n) xs)) ≡ false
      by true rest = other n.0 (number x).0 above.0
      by false rest = rest

  above_all : (x s : R) (xs : List R) → AllByRecursion (λ y. (number x).0 < (number y).0) xs → Contains xs s → (number x).0 < (number s).0
  above_all x s [] all (k, within, is) = absurd (omega arith)
  above_all x s (y ∷ ys) all there = by (cases y s ys there) (above_all x s ys all.1)
    where
      by : (y ≡ s) ⊎ Contains ys s → (Contains ys s → (number x).0 < (number s).0) → (number x).0 < (number s).0
      by (inl is) rest = omega (arith, all.0, ap (λ r. (number r).0) is)
      by (inr more) rest = rest more

  pub first_is_it : (s : R) (records : List R) → NumbersRise number records → Contains records s → has_it number (number s) (find (from (number s)) records) ≡ lists s
  first_is_it s [] rise (k, within, is) = absurd (omega arith)
  first_is_it s (x ∷ xs) rise there = by (cases x s xs there) (first_is_it s xs rise.1)
    where
      same : (n : ℕ) → nat_le n n ≡ true
      same n = grind (arith, nat_tests)

      equal : (n : ℕ) → nat_eq n n ≡ true
      equal n = grind (arith, nat_tests)

      lower : (a b : ℕ) → a < b → nat_le b a ≡ false
      lower a b lt = grind (arith, nat_tests, lt)

      here : (b : Bool) → lists x ≡ b → has_it number (number x) (cond (nat_le (number x).0 (number x).0 && lists x) (Some x) (find (from (number x)) xs)) ≡ lists x
      here true told = rw (same (number x).0, told) (equal (number x).0)
      here false told = rw (same (number x).0, told) (none_above (number x) xs rise.0)

      by : (x ≡ s) ⊎ Contains xs s → (Contains xs s → has_it number (number s) (find (from (number s)) xs) ≡ lists s) → has_it number (number s) (find (from (number s)) (x ∷ xs)) ≡ lists s
      by (inl is) rest = subst (λ y. has_it number (number y) (find (from (number y)) (x ∷ xs)) ≡ lists y) is (here (lists x) refl)
      by (inr more) rest = rw (lower (number x).0 (number s).0 (above_all x s xs rise.0 more)) (rest more)

-- what is found is there
pub found_there : {R : Type 0} (q : R → Bool) (xs : List R) (x : R) → find q xs ≡ Some x → Contains xs x
found_there q [] x found = absurd (cc)
found_there {R} q (y ∷ ys) x found = by (q y) refl found (found_there q ys x)
  where
    by : (b : Bool) → q y ≡ b → cond (q y) (Some y) (find q ys) ≡ Some x → (find q ys ≡ Some x → Contains ys x) → Contains (y ∷ ys) x
    by true passes is rest =
        let one : Some y ≡ Some x = sym (ap (λ b. cond b (Some y) (find q ys)) passes) ∙ is in
        let same : y ≡ x = cc in (zero, omega arith, same)
    by false fails is rest =
        let it = rest (sym (ap (λ b. cond b (Some y) (find q ys)) fails) ∙ is) in (suc it.0, omega (arith, it.1), it.2)
