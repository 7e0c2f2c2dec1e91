-- Sums over records that are looked at one by one, and that stop where they are over a bound.
use Rattle.std.proofs.Common.{◌≡◌, ℕ, ◌+◌, ◌<◌, ◌≤◌, Bool, true, false, cond, nat_lt, List, [], ◌∷◌, Some, None, arith, refl, sym, ap, ◌∙◌, subst, length}
use Rattle.std.proofs.lemmas.Bool.{ltb-true}
use Rattle.std.proofs.lemmas.Bool.Decides.{nat_tests}
use Rattle.nb_limits.specs.inner.Within.{up_to}
use Rattle.nb_model.specs.Amounts.{total}
use Rattle.nb_model.proofs.Totals.{total_cons}

pub over : (bound n : ℕ) → bound < n → up_to bound n ≡ None
over bound n more = ap (λ b. cond b None (Some n)) (test bound n more)
  where
    test : (a b : ℕ) → a < b → nat_lt a b ≡ true
    test a b less = grind (arith, nat_tests, less)

pub within : (bound n : ℕ) → n ≤ bound → up_to bound n ≡ Some n
within bound n low = ap (λ b. cond b None (Some n)) (test bound n low)
  where
    test : (a b : ℕ) → b ≤ a → nat_lt a b ≡ false
    test a b less = grind (arith, nat_tests, less)

-- an amount that is told is within the bound
pub told : (bound n s : ℕ) → Some s ≡ up_to bound n → (s ≡ n) × (s ≤ bound)
told bound n s is = by (nat_lt bound n) refl is
  where
    low : nat_lt bound n ≡ false → n ≤ bound
    low e = grind (arith, nat_tests, e)

    by : (b : Bool) → nat_lt bound n ≡ b → Some s ≡ cond b None (Some n) → (s ≡ n) × (s ≤ bound)
    by true e f = absurd (cc)
    by false e f = let same : s ≡ n = cc in (same, subst (λ m. m ≤ bound) (sym same) (low e))

-- and one that is not told is over it
pub untold : (bound n : ℕ) → None ≡ up_to bound n → bound < n
untold bound n is = by (nat_lt bound n) refl is
  where
    by : (b : Bool) → nat_lt bound n ≡ b → None ≡ cond b None (Some n) → bound < n
    by true e f = ltb-true bound n e
    by false e f = absurd (cc)

-- The sum so far is within the bound, and with what is left it is the whole.
pub record IsSumSoFar {R : Type 0} (f : R → ℕ) (bound sum : ℕ) (left : List R) (whole : ℕ) : Type 0 where
  pub low : sum ≤ bound
  pub same : sum + total f left ≡ whole

-- parts of which one is over the bound
pub first_over : (bound a b : ℕ) → None ≡ up_to bound a → up_to bound (a + b) ≡ None
first_over bound a b e = over bound (a + b) (above bound a b (untold bound a e))
  where
    above : (bound a b : ℕ) → bound < a → bound < a + b
    above bound a b e = omega arith

pub second_over : (bound a b : ℕ) → None ≡ up_to bound b → up_to bound (a + b) ≡ None
second_over bound a b e = over bound (a + b) (above bound a b (untold bound b e))
  where
    above : (bound a b : ℕ) → bound < b → bound < a + b
    above bound a b e = omega arith

pub both_told : (bound a b s t : ℕ) → Some s ≡ up_to bound a → Some t ≡ up_to bound b → up_to bound (s + t) ≡ up_to bound (a + b)
both_told bound a b s t e f = ap (λ n. up_to bound (n + t)) (told bound a s e).0 ∙ ap (λ n. up_to bound (a + n)) (told bound b t f).0

pub sum_begins : {R : Type 0} (f : R → ℕ) (bound : ℕ) (left : List R) (whole : ℕ) → total f left ≡ whole → IsSumSoFar f bound 0 left whole
sum_begins f bound left whole is = record { low = omega arith; same = none (total f left) ∙ is }
  where
    none : (n : ℕ) → 0 + n ≡ n
    none n = omega arith

module _ {R : Type 0} (f : R → ℕ) (bound sum : ℕ) (left : List R) (whole : ℕ) (so_far : IsSumSoFar f bound sum left whole) where
  pub sum_ends : left ≡ [] → up_to bound whole ≡ Some sum
  sum_ends none =
      let all : sum ≡ whole = plus_none sum ∙ ap (λ (l : List R). sum + total f l) (sym none) ∙ so_far.same in
      ap (up_to bound) (sym all) ∙ within bound sum so_far.low
    where
      plus_none : (n : ℕ) → n ≡ n + 0
      plus_none n = omega arith

  module _ (x : R) (after : List R) (next : left ≡ x ∷ after) where
    parts : sum + (f x + total f after) ≡ whole
    parts = ap (λ n. sum + n) (sym (total_cons f x after)) ∙ ap (λ (l : List R). sum + total f l) (sym next) ∙ so_far.same

    pub sum_goes_on : (more s : ℕ) → more ≡ f x → Some s ≡ up_to bound (sum + more) → IsSumSoFar f bound s after whole
    sum_goes_on more s is e =
        let it = told bound (sum + more) s e in
        record { low = it.1; same = regroup s sum more (f x) (total f after) whole it.0 is parts }
      where
        regroup : (s sum more a b w : ℕ) → s ≡ sum + more → more ≡ a → sum + (a + b) ≡ w → s + b ≡ w
        regroup s sum more a b w e f g = omega arith

    pub sum_over : (more : ℕ) → more ≡ f x → None ≡ up_to bound (sum + more) → up_to bound whole ≡ None
    sum_over more is e = over bound whole (above bound sum more (f x) (total f after) whole (untold bound (sum + more) e) is parts)
      where
        above : (bound sum more a b w : ℕ) → bound < sum + more → more ≡ a → sum + (a + b) ≡ w → bound < w
        above bound sum more a b w e f g = omega arith

    pub part_over : None ≡ up_to bound (f x) → up_to bound whole ≡ None
    part_over e = over bound whole (above bound sum (f x) (total f after) whole (untold bound (f x) e) parts)
      where
        above : (bound sum a b w : ℕ) → bound < a → sum + (a + b) ≡ w → bound < w
        above bound sum a b w e g = omega arith

-- fewer are left
pub fewer : {R : Type 0} (left after : List R) (x : R) → left ≡ x ∷ after → length after < length left
fewer left after x next = subst (λ (l : List _). length after < length l) (sym next) (omega arith)
