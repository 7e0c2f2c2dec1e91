-- The operands that were compared, and those that are left.
use Rattle.std.proofs.Common.{◌≡◌, ◌≢◌, ℕ, zero, suc, ◌<◌, ◌≤◌, Bool, true, false, ◌&&◌, List, [], ◌∷◌, length, drop, slice_index_or, ◌+◌, min, refl, sym, ap, ◌∙◌, arith}
use Rattle.std.proofs.lemmas.List.{at_drop_more, at_drop_all}
use Rattle.expr_core.specs.Formula.{Formula, formulas}
use Rattle.expr_core.specs.inner.FormulaCode.{formula_size, formulas_size}
use Rattle.expr_core.specs.Equal.{formula_eq, formulas_eq}

module _ {A : Type 0} (eq : A → A → Bool) where
  -- those that are left are equal where all are
  abbrev pub Left : List (Formula A) → List (Formula A) → ℕ → Type 0
  Left fs gs i = formulas_eq eq (formulas (drop i fs)) (formulas (drop i gs)) ≡ formulas_eq eq (formulas fs) (formulas gs)

  -- lists of two lengths are not equal
  pub unlike_lengths : (fs gs : List (Formula A)) → length fs ≢ length gs → false ≡ formulas_eq eq (formulas fs) (formulas gs)
  unlike_lengths [] [] unlike = absurd (unlike refl)
  unlike_lengths [] (g ∷ gs) unlike = refl
  unlike_lengths (f ∷ fs) [] unlike = refl
  unlike_lengths (f ∷ fs) (g ∷ gs) unlike = with_head (formula_eq eq f g) (unlike_lengths fs gs (λ e. unlike (ap suc e)))
    where
      with_head : (b : Bool) {c : Bool} → false ≡ c → false ≡ (b && c)
      with_head true e = e
      with_head false e = refl

  -- the operands at an index are compared before those after it
  module _ (fs gs : List (Formula A)) (i : ℕ) (f g : Formula A) (in_fs : i < length fs) (in_gs : i < length gs) (one : f ≡ slice_index_or fs i f) (other : g ≡ slice_index_or gs i g)
      (left : Left fs gs i) where
    one_more : formulas_eq eq (formulas fs) (formulas gs) ≡ (formula_eq eq f g && formulas_eq eq (formulas (drop (i + 1) fs)) (formulas (drop (i + 1) gs)))
    one_more =
        let here = at_drop_more formulas fs i f in_fs in
        let there = at_drop_more formulas gs i g in_gs in
        sym left ∙ rw (here, there, ← one, ← other)

    pub like_more : formula_eq eq f g ≡ true → Left fs gs (i + 1)
    like_more alike = sym (rw alike at one_more)

    pub unlike_here : formula_eq eq f g ≡ false → false ≡ formulas_eq eq (formulas fs) (formulas gs)
    unlike_here unlike = sym (rw unlike at one_more)

  -- where none is left of lists of one length they are equal
  pub like_all : (fs gs : List (Formula A)) (i : ℕ) → i ≡ min (length fs) (length gs) → length fs ≡ length gs → Left fs gs i → true ≡ formulas_eq eq (formulas fs) (formulas gs)
  like_all fs gs i end long left =
      let here = at_drop_all formulas fs i (omega arith) in
      let there = at_drop_all formulas gs i (omega arith) in
      rw (here, there) at left

-- no operand is larger than all of them
pub one_falls : {A : Type 0} (fs : List (Formula A)) (i : ℕ) (f : Formula A) → i < length fs → f ≡ slice_index_or fs i f → formula_size f ≤ formulas_size (formulas fs)
one_falls [] i f within is = omega (arith, within)
one_falls (g ∷ gs) zero f within is = rw is (omega arith)
one_falls (g ∷ gs) (suc i) f within is = omega (arith, one_falls gs i f (omega (arith, within)) is)
