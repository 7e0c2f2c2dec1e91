-- A checked match is written by the names of its fields and predicates.
use Rattle.std.proofs.Common.{◌≡◌, Bool, List, ℕ, [], ◌++◌, refl, sym, ap, codes}
use Rattle.std.proofs.lemmas.List.{append-nil}
use Rattle.expr_core.specs.Formula.{Formula, Formulas, formulas_map}
use Rattle.expr_core.specs.Formula.Formula.{Leaf, Not, And, Or}
use Rattle.expr_core.specs.Formula.Formulas.{Nil, Cons}
use Rattle.expr_core.specs.Named.{named_atom, named}
use Rattle.expr_core.specs.Predicate.{pred_name}
use Rattle.expr_core.specs.Text.{enclosed, is_joined, needs_parentheses, expr_writing, typed_writing, atom_text, typed_atom_text, expr_text, typed_text, operands_text}
use Rattle.expr_core.specs.declared.typed.TypedAtom.{TypedAtom}
use Rattle.expr_core.specs.declared.typed.TypedAtom.TheVariants.{Truth, Bare, Holds, Compare}

atom_written : (a : TypedAtom) → typed_atom_text a ≡ atom_text (named_atom a)
atom_written (Truth b) = refl
atom_written (Bare f bits) = refl
atom_written (Holds p) = sym (append-nil (pred_name p))
atom_written (Compare f bits r s) = refl

same_parentheses : (t : Formula TypedAtom) → needs_parentheses typed_writing t ≡ needs_parentheses expr_writing (named t)
same_parentheses (Leaf (Truth b)) = refl
same_parentheses (Leaf (Bare f bits)) = refl
same_parentheses (Leaf (Holds p)) = refl
same_parentheses (Leaf (Compare f bits r s)) = refl
same_parentheses (Not t) = refl
same_parentheses (And ts) = refl
same_parentheses (Or ts) = refl

same_joined : (t : Formula TypedAtom) → is_joined t ≡ is_joined (named t)
same_joined (Leaf a) = refl
same_joined (Not t) = refl
same_joined (And ts) = refl
same_joined (Or ts) = refl

same_enclosed : {a b : Bool} {s t : List ℕ} → a ≡ b → s ≡ t → enclosed a s ≡ enclosed b t
same_enclosed e h = λ i. enclosed (e i) (h i)

mutual
  pub written_by_name : (t : Formula TypedAtom) → typed_text t ≡ expr_text (named t)
  written_by_name (Leaf a) = atom_written a
  written_by_name (Not t) = ap (λ text. codes "!" ++ text) (same_enclosed (same_parentheses t) (written_by_name t))
  written_by_name (And ts) = all_written [] (codes " && ") ts
  written_by_name (Or ts) = all_written [] (codes " || ") ts

  all_written : (front operator : List ℕ) (ts : Formulas TypedAtom) → operands_text typed_writing front operator ts ≡ operands_text expr_writing front operator (formulas_map named_atom ts)
  all_written front operator Nil = refl
  all_written front operator (Cons t ts) =
      let one = same_enclosed (same_joined t) (written_by_name t) in
      let others = all_written operator operator ts in
      λ i. front ++ one i ++ others i
