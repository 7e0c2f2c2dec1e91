-- The size of a formula, and its code, which tells formulas apart.
use Rattle.std.specs.Prelude.{◌≡◌, ℕ, zero, suc, ◌+◌, List, [], ◌∷◌, refl}
use Rattle.std.specs.Coded.{Coded, code_by, coded_ℕ, coded_list, coded⊎}
use Rattle.std.proofs.Common.{◌∙◌, ◌⊎◌, inl, inr}
use Rattle.expr_core.specs.Formula.{Formula, Formulas}
use Rattle.expr_core.specs.Formula.Formula.{Leaf, Not, And, Or}
use Rattle.expr_core.specs.Formula.Formulas.{Nil, Cons}

-- how many formulas there are in it, itself among them
abbrev mutual
  pub formula_size : {A : Type 0} → Formula A → ℕ
  formula_size (Leaf a) = 1
  formula_size (Not f) = formula_size f + 1
  formula_size (And fs) = formulas_size fs + 1
  formula_size (Or fs) = formulas_size fs + 1

  pub formulas_size : {A : Type 0} → Formulas A → ℕ
  formulas_size Nil = 0
  formulas_size (Cons f fs) = formula_size f + formulas_size fs

-- A formula is coded by its parts, each after those that it is made of.
abbrev Marks : Type 0 → Type 0
Marks A = List (ℕ ⊎ A)

abbrev mutual
  formula_marks : {A : Type 0} → Formula A → Marks A → Marks A
  formula_marks (Leaf a) rest = inr a ∷ rest
  formula_marks (Not f) rest = formula_marks f (inl 0 ∷ rest)
  formula_marks (And fs) rest = formulas_marks fs (inl 1 ∷ rest)
  formula_marks (Or fs) rest = formulas_marks fs (inl 2 ∷ rest)

  formulas_marks : {A : Type 0} → Formulas A → Marks A → Marks A
  formulas_marks Nil rest = inl 3 ∷ rest
  formulas_marks (Cons f fs) rest = formulas_marks fs (formula_marks f (inl 4 ∷ rest))

-- the first of a stack
abbrev top : {A : Type 0} → List (Formula A) → Formula A
top [] = And Nil
top (f ∷ fs) = f

abbrev top_list : {A : Type 0} → List (Formulas A) → Formulas A
top_list [] = Nil
top_list (l ∷ ls) = l

abbrev below : {T : Type 0} → List T → List T
below [] = []
below (t ∷ ts) = ts

-- one mark more: 0 is a negation, 1 and 2 are conjunction and disjunction, 3 and 4 the empty list and a longer one
abbrev unmark : {A : Type 0} → ℕ → List (Formula A) → List (Formulas A) → List (Formula A) × List (Formulas A)
unmark zero fs ls = (Not (top fs) ∷ below fs, ls)
unmark (suc zero) fs ls = (And (top_list ls) ∷ fs, below ls)
unmark (suc (suc zero)) fs ls = (Or (top_list ls) ∷ fs, below ls)
unmark (suc (suc (suc zero))) fs ls = (fs, Nil ∷ ls)
unmark (suc (suc (suc (suc _)))) fs ls = (below fs, Cons (top fs) (top_list ls) ∷ below ls)

abbrev unmarked : {A : Type 0} → Marks A → List (Formula A) × List (Formulas A) → Formula A
unmarked [] s = top s.0
unmarked (inr a ∷ ms) s = unmarked ms (Leaf a ∷ s.0, s.1)
unmarked (inl n ∷ ms) s = unmarked ms (unmark n s.0 s.1)

mutual
  pub unmarked_marks : {A : Type 0} (f : Formula A) (rest : Marks A) (fs : List (Formula A)) (ls : List (Formulas A)) → unmarked (formula_marks f rest) (fs, ls) ≡ unmarked rest (f ∷ fs, ls)
  unmarked_marks (Leaf a) rest fs ls = refl
  unmarked_marks (Not f) rest fs ls = unmarked_marks f (inl 0 ∷ rest) fs ls
  unmarked_marks (And gs) rest fs ls = unmarked_all gs (inl 1 ∷ rest) fs ls
  unmarked_marks (Or gs) rest fs ls = unmarked_all gs (inl 2 ∷ rest) fs ls

  unmarked_all : {A : Type 0} (gs : Formulas A) (rest : Marks A) (fs : List (Formula A)) (ls : List (Formulas A)) → unmarked (formulas_marks gs rest) (fs, ls) ≡ unmarked rest (fs, gs ∷ ls)
  unmarked_all Nil rest fs ls = refl
  unmarked_all (Cons g gs) rest fs ls = unmarked_all gs (formula_marks g (inl 4 ∷ rest)) fs ls ∙ unmarked_marks g (inl 4 ∷ rest) fs (gs ∷ ls)

abbrev pub formula_code : {A : Type 0} → Coded A → Coded (Formula A)
formula_code {A} code = code_by (Marks A) (coded_list (coded⊎ coded_ℕ code)) (λ f. formula_marks f []) (λ ms. unmarked ms ([], [])) (λ f. unmarked_marks f [] [] [])
