-- Formulas over tests.
use Rattle.std.specs.Prelude.{List, [], ◌∷◌}

mutual
  -- a formula over tests
  pub data Formula (A : Type 0) : Type 0 where
    Leaf : A → Formula A
    Not : Formula A → Formula A
    And : Formulas A → Formula A
    Or : Formulas A → Formula A

  -- a list of formulas
  pub data Formulas (A : Type 0) : Type 0 where
    Nil : Formulas A
    Cons : Formula A → Formulas A → Formulas A

-- the formulas of a list
abbrev pub formulas : {A : Type 0} → List (Formula A) → Formulas A
formulas [] = Nil
formulas (f ∷ fs) = Cons f (formulas fs)

-- the same formula over other atoms
abbrev mutual
  pub formula_map : {A B : Type 0} → (A → B) → Formula A → Formula B
  formula_map change (Leaf a) = Leaf (change a)
  formula_map change (Not f) = Not (formula_map change f)
  formula_map change (And fs) = And (formulas_map change fs)
  formula_map change (Or fs) = Or (formulas_map change fs)

  pub formulas_map : {A B : Type 0} → (A → B) → Formulas A → Formulas B
  formulas_map change Nil = Nil
  formulas_map change (Cons f fs) = Cons (formula_map change f) (formulas_map change fs)
