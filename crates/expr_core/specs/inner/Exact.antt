-- Constants, items, right sides and checked matches that are equal by `==` are one value.
use Rattle.std.proofs.Common.{◌≡◌, Bool, true, false, refl, ap, ◌∙◌, ◌&&◌}
use Rattle.std.proofs.lemmas.Bool.{eqb-true, false≢true}
use denote.Enum.Bare.{sameb, same_true}
use Rattle.nv_base.specs.inner.Exact as tells
use Rattle.nv_base.specs.inner.Exact.{Tells}
use Rattle.expr_core.specs.contracts.constant.Form as forms
use Rattle.expr_core.specs.contracts.comparison.Rel as rels
use Rattle.expr_core.specs.contracts.predicate.Pred as preds
use Rattle.expr_core.specs.contracts.constant.ConstPartialEq.TheImpl as const_eq
use Rattle.expr_core.specs.contracts.part.BitsPartialEq.TheImpl as bits_eq
use Rattle.expr_core.specs.contracts.comparison.ItemPartialEq.TheImpl as item_eq
use Rattle.expr_core.specs.contracts.comparison.RightPartialEq.TheImpl as right_eq
use Rattle.expr_core.specs.Equal.{formula_eq, formulas_eq}
use Rattle.expr_core.specs.inner.Halves.{same_halves}
use Rattle.expr_core.specs.contracts.typed.TypedAtomPartialEq.TheImpl as typed_atom_eq
use Rattle.expr_core.specs.Formula.Formula.{Leaf, Not, And, Or}
use Rattle.expr_core.specs.Formula.Formulas.{Nil, Cons}
use Rattle.expr_core.specs.declared.constant.Form.{Form}
use Rattle.expr_core.specs.declared.comparison.Rel.{Rel}
use Rattle.expr_core.specs.declared.comparison.Item.TheVariants.{One, Masked, Text, AddrSet, Group}
use Rattle.expr_core.specs.declared.comparison.Right.TheVariants as right_of
use Rattle.expr_core.specs.declared.part.Bits.TheVariants.{Whole, Bit, Range}
use Rattle.expr_core.specs.declared.predicate.Pred.{Pred}
use Rattle.expr_core.specs.declared.typed.TypedAtom.TheVariants as typed_of

both_true : (x y : Bool) → (x && y) ≡ true → (x ≡ true) × (y ≡ true)
both_true true y e = (refl, e)
both_true false y e = absurd (false≢true e)

pub form : (a b : Form) → sameb forms.the_type a b ≡ true → a ≡ b
form = same_true forms.the_type tt

pub rel : (a b : Rel) → sameb rels.the_type a b ≡ true → a ≡ b
rel = same_true rels.the_type tt

pub predicate : (a b : Pred) → sameb preds.the_type a b ≡ true → a ≡ b
predicate = same_true preds.the_type tt

pub constant : Tells ((const_eq.ghosts).eq)
constant a b e =
    let of_one = both_true _ _ e in
    let of_two = both_true _ _ of_one.1 in
    let forms_alike : a.form ≡ b.form = form _ _ of_one.0 in
    let values : a.value ≡ b.value = same_halves a.value b.value (eqb-true _ _ of_two.0) (eqb-true _ _ of_two.1) in
    λ i. record { form = forms_alike i; value = values i }

pub bits : Tells ((bits_eq.ghosts).eq)
bits Whole Whole e = refl
bits Whole (Bit n) e = absurd (false≢true e)
bits Whole (Range f l) e = absurd (false≢true e)
bits (Bit n) Whole e = absurd (false≢true e)
bits (Bit m) (Bit n) e = ap Bit (eqb-true _ _ e)
bits (Bit m) (Range f l) e = absurd (false≢true e)
bits (Range f l) Whole e = absurd (false≢true e)
bits (Range f l) (Bit n) e = absurd (false≢true e)
bits (Range f l) (Range g m) e =
    let parts = both_true _ _ e in
    ap (λ x. Range x l) (eqb-true _ _ parts.0) ∙ ap (λ y. Range g y) (eqb-true _ _ parts.1)

pub item : Tells ((item_eq.ghosts).eq)
item (One a) (One b) e = ap One (constant a b e)
item (One a) (Masked b m) e = absurd (false≢true e)
item (One a) (Text n) e = absurd (false≢true e)
item (One a) (AddrSet n) e = absurd (false≢true e)
item (One a) (Group n) e = absurd (false≢true e)
item (Masked a l) (One b) e = absurd (false≢true e)
item (Masked a l) (Masked b m) e =
    let parts = both_true _ _ e in
    ap (λ x. Masked x l) (constant a b parts.0) ∙ ap (λ y. Masked b y) (constant l m parts.1)
item (Masked a l) (Text n) e = absurd (false≢true e)
item (Masked a l) (AddrSet n) e = absurd (false≢true e)
item (Masked a l) (Group n) e = absurd (false≢true e)
item (Text a) (One b) e = absurd (false≢true e)
item (Text a) (Masked b m) e = absurd (false≢true e)
item (Text a) (Text b) e = ap Text (tells.list _ tells.number a b e)
item (Text a) (AddrSet n) e = absurd (false≢true e)
item (Text a) (Group n) e = absurd (false≢true e)
item (AddrSet a) (One b) e = absurd (false≢true e)
item (AddrSet a) (Masked b m) e = absurd (false≢true e)
item (AddrSet a) (Text n) e = absurd (false≢true e)
item (AddrSet a) (AddrSet b) e = ap AddrSet (tells.list _ tells.number a b e)
item (AddrSet a) (Group n) e = absurd (false≢true e)
item (Group a) (One b) e = absurd (false≢true e)
item (Group a) (Masked b m) e = absurd (false≢true e)
item (Group a) (Text n) e = absurd (false≢true e)
item (Group a) (AddrSet n) e = absurd (false≢true e)
item (Group a) (Group b) e = ap Group (tells.list _ tells.number a b e)

pub right : Tells ((right_eq.ghosts).eq)
right (right_of.Item a) (right_of.Item b) e = ap right_of.Item (item a b e)
right (right_of.Item a) (right_of.Set bs) e = absurd (false≢true e)
right (right_of.Set is) (right_of.Item b) e = absurd (false≢true e)
right (right_of.Set is) (right_of.Set bs) e = ap right_of.Set (tells.list _ item is bs e)

pub typed_atom : Tells ((typed_atom_eq.ghosts).eq)
typed_atom (typed_of.Truth a) (typed_of.Truth b) e = ap typed_of.Truth (tells.boolean a b e)
typed_atom (typed_of.Truth a) (typed_of.Bare g c) e = absurd (false≢true e)
typed_atom (typed_of.Truth a) (typed_of.Holds q) e = absurd (false≢true e)
typed_atom (typed_of.Truth a) (typed_of.Compare g c s v) e = absurd (false≢true e)
typed_atom (typed_of.Bare f b) (typed_of.Truth h) e = absurd (false≢true e)
typed_atom (typed_of.Bare f b) (typed_of.Bare g c) e =
    let parts = both_true _ _ e in
    ap (λ x. typed_of.Bare x b) (tells.field f g parts.0) ∙ ap (λ y. typed_of.Bare g y) (bits b c parts.1)
typed_atom (typed_of.Bare f b) (typed_of.Holds q) e = absurd (false≢true e)
typed_atom (typed_of.Bare f b) (typed_of.Compare g c s v) e = absurd (false≢true e)
typed_atom (typed_of.Holds p) (typed_of.Truth h) e = absurd (false≢true e)
typed_atom (typed_of.Holds p) (typed_of.Bare g c) e = absurd (false≢true e)
typed_atom (typed_of.Holds p) (typed_of.Holds q) e = ap typed_of.Holds (predicate p q e)
typed_atom (typed_of.Holds p) (typed_of.Compare g c s v) e = absurd (false≢true e)
typed_atom (typed_of.Compare f b r u) (typed_of.Truth h) e = absurd (false≢true e)
typed_atom (typed_of.Compare f b r u) (typed_of.Bare g c) e = absurd (false≢true e)
typed_atom (typed_of.Compare f b r u) (typed_of.Holds q) e = absurd (false≢true e)
typed_atom (typed_of.Compare f b r u) (typed_of.Compare g c s v) e =
    let of_one = both_true _ _ e in
    let of_two = both_true _ _ of_one.1 in
    let of_three = both_true _ _ of_two.1 in
    ap (λ x. typed_of.Compare x b r u) (tells.field f g of_one.0) ∙ ap (λ x. typed_of.Compare g x r u) (bits b c of_two.0)
    ∙ ap (λ x. typed_of.Compare g c x u) (rel r s of_three.0) ∙ ap (λ x. typed_of.Compare g c s x) (right u v of_three.1)

mutual
  pub formula : {A : Type 0} (eq : A → A → Bool) → Tells eq → Tells (formula_eq eq)
  formula eq exact (Leaf a) (Leaf b) e = ap Leaf (exact a b e)
  formula eq exact (Leaf a) (Not g) e = absurd (false≢true e)
  formula eq exact (Leaf a) (And gs) e = absurd (false≢true e)
  formula eq exact (Leaf a) (Or gs) e = absurd (false≢true e)
  formula eq exact (Not f) (Leaf b) e = absurd (false≢true e)
  formula eq exact (Not f) (Not g) e = ap Not (formula eq exact f g e)
  formula eq exact (Not f) (And gs) e = absurd (false≢true e)
  formula eq exact (Not f) (Or gs) e = absurd (false≢true e)
  formula eq exact (And fs) (Leaf b) e = absurd (false≢true e)
  formula eq exact (And fs) (Not g) e = absurd (false≢true e)
  formula eq exact (And fs) (And gs) e = ap And (all_formulas eq exact fs gs e)
  formula eq exact (And fs) (Or gs) e = absurd (false≢true e)
  formula eq exact (Or fs) (Leaf b) e = absurd (false≢true e)
  formula eq exact (Or fs) (Not g) e = absurd (false≢true e)
  formula eq exact (Or fs) (And gs) e = absurd (false≢true e)
  formula eq exact (Or fs) (Or gs) e = ap Or (all_formulas eq exact fs gs e)

  all_formulas : {A : Type 0} (eq : A → A → Bool) → Tells eq → Tells (formulas_eq eq)
  all_formulas eq exact Nil Nil e = refl
  all_formulas eq exact Nil (Cons g gs) e = absurd (false≢true e)
  all_formulas eq exact (Cons f fs) Nil e = absurd (false≢true e)
  all_formulas eq exact (Cons f fs) (Cons g gs) e =
      let parts = both_true _ _ e in
      ap (λ x. Cons x fs) (formula eq exact f g parts.0) ∙ ap (λ xs. Cons g xs) (all_formulas eq exact fs gs parts.1)
