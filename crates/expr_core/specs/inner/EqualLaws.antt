-- Where the test of the atoms is an equivalence, so is that of the formulas.
use Rattle.std.proofs.Common.{◌≡◌, Bool, true, ◌&&◌, refl}
use Rattle.std.proofs.lemmas.Bool.{false≢true}
use Rattle.std.specs.Cmp.{IsPartialEquivalence, IsEquivalence, partial_equiv_from_equiv, equiv, first_so, second_so}
use Rattle.expr_core.specs.Formula.{Formula, Formulas}
use Rattle.expr_core.specs.Formula.Formula.{Leaf, Not, And, Or}
use Rattle.expr_core.specs.Formula.Formulas.{Nil, Cons}
use Rattle.expr_core.specs.Equal.{formula_eq, formulas_eq}

module _ {A : Type 0} {E : A → A → Bool} where
  mutual
    symm : IsPartialEquivalence E → (f g : Formula A) → formula_eq E f g ≡ formula_eq E g f
    symm p (Leaf a) (Leaf b) = p.symm a b
    symm p (Leaf a) (Not g) = refl
    symm p (Leaf a) (And gs) = refl
    symm p (Leaf a) (Or gs) = refl
    symm p (Not f) (Leaf b) = refl
    symm p (Not f) (Not g) = symm p f g
    symm p (Not f) (And gs) = refl
    symm p (Not f) (Or gs) = refl
    symm p (And fs) (Leaf b) = refl
    symm p (And fs) (Not g) = refl
    symm p (And fs) (And gs) = symm_all p fs gs
    symm p (And fs) (Or gs) = refl
    symm p (Or fs) (Leaf b) = refl
    symm p (Or fs) (Not g) = refl
    symm p (Or fs) (And gs) = refl
    symm p (Or fs) (Or gs) = symm_all p fs gs

    symm_all : IsPartialEquivalence E → (fs gs : Formulas A) → formulas_eq E fs gs ≡ formulas_eq E gs fs
    symm_all p Nil Nil = refl
    symm_all p Nil (Cons g gs) = refl
    symm_all p (Cons f fs) Nil = refl
    symm_all p (Cons f fs) (Cons g gs) = λ i. symm p f g i && symm_all p fs gs i

  mutual
    trans : IsPartialEquivalence E → (f g h : Formula A) → formula_eq E f g ≡ true → formula_eq E g h ≡ true → formula_eq E f h ≡ true
    trans p (Leaf a) (Leaf b) (Leaf c) d e = p.trans a b c d e
    trans p (Leaf a) (Leaf b) (Not h) d e = e
    trans p (Leaf a) (Leaf b) (And hs) d e = e
    trans p (Leaf a) (Leaf b) (Or hs) d e = e
    trans p (Leaf a) (Not g) h d e = absurd (false≢true d)
    trans p (Leaf a) (And gs) h d e = absurd (false≢true d)
    trans p (Leaf a) (Or gs) h d e = absurd (false≢true d)
    trans p (Not f) (Leaf b) h d e = absurd (false≢true d)
    trans p (Not f) (Not g) (Leaf c) d e = e
    trans p (Not f) (Not g) (Not h) d e = trans p f g h d e
    trans p (Not f) (Not g) (And hs) d e = e
    trans p (Not f) (Not g) (Or hs) d e = e
    trans p (Not f) (And gs) h d e = absurd (false≢true d)
    trans p (Not f) (Or gs) h d e = absurd (false≢true d)
    trans p (And fs) (Leaf b) h d e = absurd (false≢true d)
    trans p (And fs) (Not g) h d e = absurd (false≢true d)
    trans p (And fs) (And gs) (Leaf c) d e = e
    trans p (And fs) (And gs) (Not h) d e = e
    trans p (And fs) (And gs) (And hs) d e = trans_all p fs gs hs d e
    trans p (And fs) (And gs) (Or hs) d e = e
    trans p (And fs) (Or gs) h d e = absurd (false≢true d)
    trans p (Or fs) (Leaf b) h d e = absurd (false≢true d)
    trans p (Or fs) (Not g) h d e = absurd (false≢true d)
    trans p (Or fs) (And gs) h d e = absurd (false≢true d)
    trans p (Or fs) (Or gs) (Leaf c) d e = e
    trans p (Or fs) (Or gs) (Not h) d e = e
    trans p (Or fs) (Or gs) (And hs) d e = e
    trans p (Or fs) (Or gs) (Or hs) d e = trans_all p fs gs hs d e

    trans_all : IsPartialEquivalence E → (fs gs hs : Formulas A) → formulas_eq E fs gs ≡ true → formulas_eq E gs hs ≡ true → formulas_eq E fs hs ≡ true
    trans_all p Nil Nil hs d e = e
    trans_all p Nil (Cons g gs) hs d e = absurd (false≢true d)
    trans_all p (Cons f fs) Nil hs d e = absurd (false≢true d)
    trans_all p (Cons f fs) (Cons g gs) Nil d e = e
    trans_all p (Cons f fs) (Cons g gs) (Cons h hs) d e =
        let first = trans p f g h (first_so (formula_eq E f g) (formulas_eq E fs gs) d) (first_so (formula_eq E g h) (formulas_eq E gs hs) e) in
        let others = trans_all p fs gs hs (second_so (formula_eq E f g) (formulas_eq E fs gs) d) (second_so (formula_eq E g h) (formulas_eq E gs hs) e) in
        λ i. first i && others i

  mutual
    itself : IsEquivalence E → (f : Formula A) → formula_eq E f f ≡ true
    itself p (Leaf a) = p.refl a
    itself p (Not f) = itself p f
    itself p (And fs) = all_itself p fs
    itself p (Or fs) = all_itself p fs

    all_itself : IsEquivalence E → (fs : Formulas A) → formulas_eq E fs fs ≡ true
    all_itself p Nil = refl
    all_itself p (Cons f fs) = λ i. itself p f i && all_itself p fs i

  pub formula_per : IsPartialEquivalence E → IsPartialEquivalence (formula_eq E)
  formula_per p = record { symm = symm p; trans = trans p }

  pub formula_equiv : IsEquivalence E → IsEquivalence (formula_eq E)
  formula_equiv p = equiv (formula_per (partial_equiv_from_equiv p)) (itself p)
