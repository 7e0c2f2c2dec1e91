-- What passes the check is well-typed, what is well-typed passes, and a match is checked from its text as itself.
use Rattle.std.proofs.Common.{◌≡◌, ℕ, Bool, true, false, nat_eq, List, [], ◌∷◌, Option, Some, None, refl, ap, ◌∙◌, sym, if◌then◌else◌, ◌&&◌, Result, Ok, Err, subst}
use Rattle.std.specs.List.{find}
use Rattle.std.specs.Option.{option_map}
use Rattle.std.specs.Cmp.Lexicographic.{pointwise}
use Rattle.nv_base.specs.inner.Exact.{list, number}
use Rattle.nv_base.specs.declared.field.Field.{Field}
use Rattle.nv_base.specs.Field.{field_name, field_of, is_named, all_fields}
use Rattle.nv_base.proofs.Fields.{name_read}
use Rattle.expr_core.specs.Predicate.{pred_name, pred_of, predicates}
use Rattle.expr_core.specs.Subject.{subject_of, field_or_predicate}
use Rattle.expr_core.specs.declared.predicate.Pred.{Pred}
use Rattle.expr_core.specs.declared.predicate.Pred.TheVariants.{EthMcast}
use Rattle.expr_core.specs.declared.subject.Subject.{Subject}
use Rattle.expr_core.specs.Formula.{Formula, Formulas, formulas_map}
use Rattle.expr_core.specs.Formula.Formula.{Leaf, Not, And, Or}
use Rattle.expr_core.specs.Formula.Formulas.{Nil, Cons}
use Rattle.expr_core.specs.Named.{part_named, named_atom, named, atom_without_offset, without_offsets}
use Rattle.expr_core.specs.TypeRules.{is_allowed, width_of, bits_fit, right_fits, may_stand_alone, may_be_compared}
use Rattle.expr_core.specs.WellTyped.{is_typed_atom, IsTyped, AreTyped}
use Rattle.expr_core.specs.declared.comparison.Rel.{Rel}
use Rattle.expr_core.specs.declared.comparison.Right.{Right}
use Rattle.expr_core.specs.declared.expr.Atom.{Atom}
use Rattle.expr_core.specs.declared.part.Bits.{Bits}
use Rattle.expr_core.specs.declared.part.Bits.TheVariants.{Whole}
use Rattle.expr_core.specs.declared.part.Part.{Part}
use Rattle.expr_core.specs.declared.role.Role.{Role}
use Rattle.expr_core.specs.declared.typed.TypedAtom.{TypedAtom}
use Rattle.expr_core.specs.declared.typed.TypedAtom.TheVariants.{Truth, Bare, Holds, Compare}
use Rattle.expr_check.specs.declared.fault.TypeFault.{TypeFault}
use Rattle.expr_check.specs.Check.{judged, alone, comparison, mapped, both, checked_bare, checked_comparison, checked_atom, checked, all_checked}
use Rattle.expr_core.specs.Text.{typed_text}
use Rattle.expr_core.proofs.Names.{written_by_name}
use Rattle.expr_parse.specs.Grammar.{reading}
use Rattle.expr_parse.specs.Grammar.Reading.{Read}
use Rattle.expr_parse.proofs.ReadAgain.{read_again}
use Rattle.expr_check.specs.Printed.{IsPrintable}
use Rattle.expr_core.specs.declared.subject.Subject.TheVariants as subject
use Rattle.expr_core.specs.declared.expr.Atom.TheVariants as atom

-- What names mean, and whose names these are.

-- what is found passes the test
found_by : {A : Type 0} (p : A → Bool) (x y : A) (b : Bool) (others : Option A) → p x ≡ b → (others ≡ Some y → p y ≡ true) → (if b then Some x else others) ≡ Some y → p y ≡ true
found_by p x y true others e rest h = let same : x ≡ y = cc in ap p (sym same) ∙ e
found_by p x y false others e rest h = rest h

found : {A : Type 0} (p : A → Bool) (xs : List A) (y : A) → find p xs ≡ Some y → p y ≡ true
found p [] y e = absurd cc
found p (x ∷ xs) y e = found_by p x y (p x) (find p xs) refl (found p xs y) e

-- the name of a field or of a predicate
abbrev pub name_of : Subject → List ℕ
name_of (subject.Field f) = field_name f
name_of (subject.Pred p) = pred_name p

pub named_so : (name : List ℕ) (s : Subject) → subject_of name ≡ Some s → name_of s ≡ name
named_so name s e = by_field (field_of name) refl e
  where
    by_predicate : (found_one : Option Pred) → pred_of name ≡ found_one → field_or_predicate name None ≡ Some s → name_of s ≡ name
    by_predicate None p h = absurd cc
    by_predicate (Some q) p h =
        let is : name_of (subject.Pred q) ≡ name = list nat_eq number _ _ (found (λ r. pointwise nat_eq (pred_name r) name) predicates q p) in
        let same : subject.Pred q ≡ s = cc in
        ap name_of (sym same) ∙ is

    by_field : (found_one : Option Field) → field_of name ≡ found_one → field_or_predicate name found_one ≡ Some s → name_of s ≡ name
    by_field None f h = by_predicate (pred_of name) refl h
    by_field (Some g) f h =
        let is : name_of (subject.Field g) ≡ name = list nat_eq number _ _ (found (λ field. is_named field name) all_fields g f) in
        let same : subject.Field g ≡ s = cc in
        ap name_of (sym same) ∙ is

pub field_read : (f : Field) → subject_of (field_name f) ≡ Some (subject.Field f)
field_read f = ap (field_or_predicate (field_name f)) (name_read f)

no_field : (p : Pred) → field_of (pred_name p) ≡ None
unfolding all_fields
no_field EthMcast = refl
no_field _ = refl

predicate_read : (p : Pred) → pred_of (pred_name p) ≡ Some p
predicate_read EthMcast = refl
predicate_read _ = refl

pub pred_read : (p : Pred) → subject_of (pred_name p) ≡ Some (subject.Pred p)
pred_read p = ap (field_or_predicate (pred_name p)) (no_field p) ∙ ap (λ (o : Option Pred). option_map subject.Pred o) (predicate_read p)

-- What passed the check is well-typed, and is by its names what was checked.

-- an atom that is the match's, by its names
abbrev Passed : Role → Atom → TypedAtom → Type 0
Passed role a t = (named_atom t ≡ atom_without_offset a) × (is_typed_atom role t ≡ true)

-- no rule failed
all_passed : (offset : _) (a f s : Bool) (x t : TypedAtom) → judged offset a f s x ≡ Ok t → (a && (f && s) ≡ true) × (x ≡ t)
all_passed offset true true true x t e = (refl, cc)
all_passed offset a f s x t e = absurd cc

whole_bits : (b c : Bool) (p : _) (bits : Bits) → (b && (c && may_stand_alone (subject.Pred p) bits)) ≡ true → (b ≡ true) × (bits ≡ Whole)
whole_bits true true p Whole e = (refl, refl)
whole_bits b c p bits e = absurd cc

bare_passed : (role : Role) (part : Part) (o : Option Subject) (t : TypedAtom) → subject_of part.name ≡ o → checked_bare role part o ≡ Ok t → Passed role (atom.Bare part) t
bare_passed role part None t is e = absurd cc
bare_passed role part (Some (subject.Field f)) t is e =
    let s : Subject = subject.Field f in
    let p = all_passed part.offset (is_allowed role s) (bits_fit (width_of s) part.bits) (may_stand_alone s part.bits) (alone s part.bits) t e in
    let P : TypedAtom → Type 0 = Passed role (atom.Bare part) in
    subst P p.1 (ap (λ name. atom.Bare (part_named name part.bits)) (named_so part.name s is), p.0)
bare_passed role part (Some (subject.Pred q)) t is e =
    let s : Subject = subject.Pred q in
    let p = all_passed part.offset (is_allowed role s) (bits_fit (width_of s) part.bits) (may_stand_alone s part.bits) (alone s part.bits) t e in
    let w = whole_bits (is_allowed role s) (bits_fit (width_of s) part.bits) q part.bits p.0 in
    let P : TypedAtom → Type 0 = Passed role (atom.Bare part) in
    subst P p.1 (ap (λ name. atom.Bare (part_named name Whole)) (named_so part.name s is) ∙ ap (λ bits. atom.Bare (part_named part.name bits)) (sym w.1), w.0)

never : (b c : Bool) → (b && (c && false)) ≡ true → ⊥
never true true e = cc
never true false e = cc
never false c e = cc

comparison_passed : (role : Role) (part : Part) (rel : Rel) (right : Right) (o : Option Subject) (t : TypedAtom) → subject_of part.name ≡ o → checked_comparison role part rel right o ≡ Ok t → Passed role (atom.Compare part rel right) t
comparison_passed role part rel right None t is e = absurd cc
comparison_passed role part rel right (Some (subject.Field f)) t is e =
    let s : Subject = subject.Field f in
    let p = all_passed part.offset (is_allowed role s) (bits_fit (width_of s) part.bits && right_fits (width_of s) part.bits right) (may_be_compared s part.bits rel right) (comparison s part.bits rel right) t e in
    let P : TypedAtom → Type 0 = Passed role (atom.Compare part rel right) in
    subst P p.1 (ap (λ name. atom.Compare (part_named name part.bits) rel right) (named_so part.name s is), p.0)
comparison_passed role part rel right (Some (subject.Pred q)) t is e =
    let s : Subject = subject.Pred q in
    let p = all_passed part.offset (is_allowed role s) (bits_fit (width_of s) part.bits && right_fits (width_of s) part.bits right) (may_be_compared s part.bits rel right) (comparison s part.bits rel right) t e in
    absurd (never (is_allowed role s) (bits_fit (width_of s) part.bits && right_fits (width_of s) part.bits right) p.0)

atom_passed : (role : Role) (a : Atom) (t : TypedAtom) → checked_atom role a ≡ Ok t → Passed role a t
atom_passed role (atom.Truth b) t e =
    let same : Truth b ≡ t = cc in
    let P : TypedAtom → Type 0 = Passed role (atom.Truth b) in
    subst P same (refl, refl)
atom_passed role (atom.Bare part) t e = bare_passed role part (subject_of part.name) t refl e
atom_passed role (atom.Compare part rel right) t e = comparison_passed role part rel right (subject_of part.name) t refl e

-- the parts of what passed
mapped_ok : {A B : Type 0} (make : A → B) (r : Result A TypeFault) (P : B → Type 0) → ((a : A) → r ≡ Ok a → P (make a)) → (b : B)
    → mapped make r ≡ Ok b → P b
mapped_ok make (Ok a) P passed b e = let same : make a ≡ b = cc in subst P same (passed a refl)
mapped_ok make (Err f) P passed b e = absurd cc

both_ok : {A B C : Type 0} (join : A → B → C) (r : Result A TypeFault) (s : Result B TypeFault) (c : C) → both join r s ≡ Ok c → (a : A) × (b : B) × (r ≡ Ok a) × (s ≡ Ok b) × (join a b ≡ c)
both_ok join (Ok a) (Ok b) c e = (a, b, refl, refl, cc)
both_ok join r s c e = absurd cc

abbrev IsPassed : Role → Formula Atom → Formula TypedAtom → Type 0
IsPassed role e t = (named t ≡ without_offsets e) × IsTyped role t

mutual
  pub well_typed : (role : Role) (e : Formula Atom) (t : Formula TypedAtom) → checked role e ≡ Ok t → (named t ≡ without_offsets e) × IsTyped role t
  well_typed role (Leaf a) t h =
      mapped_ok Leaf (checked_atom role a) (IsPassed role (Leaf a)) (λ x d. let p = atom_passed role a x d in (ap (λ y. Leaf y) p.0, p.1)) t h
  well_typed role (Not e) t h =
      mapped_ok Not (checked role e) (IsPassed role (Not e)) (λ x d. let p = well_typed role e x d in (ap (λ y. Not y) p.0, p.1)) t h
  well_typed role (And es) t h =
      mapped_ok And (all_checked role es) (IsPassed role (And es)) (λ x d. let p = all_well_typed role es x d in (ap (λ y. And y) p.0, p.1)) t h
  well_typed role (Or es) t h =
      mapped_ok Or (all_checked role es) (IsPassed role (Or es)) (λ x d. let p = all_well_typed role es x d in (ap (λ y. Or y) p.0, p.1)) t h

  all_well_typed : (role : Role) (es : Formulas Atom) (ts : Formulas TypedAtom) → all_checked role es ≡ Ok ts → (formulas_map named_atom ts ≡ formulas_map atom_without_offset es) × AreTyped role ts
  all_well_typed role Nil ts h =
      let same : Nil ≡ ts = cc in
      let P : Formulas TypedAtom → Type 0 = λ us. (formulas_map named_atom us ≡ formulas_map atom_without_offset Nil) × AreTyped role us in
      subst P same (refl, tt)
  all_well_typed role (Cons e es) ts h =
      let b = both_ok Cons (checked role e) (all_checked role es) ts h in
      let p = well_typed role e b.0 b.2 in
      let q = all_well_typed role es b.1 b.3 in
      let P : Formulas TypedAtom → Type 0 = λ us. (formulas_map named_atom us ≡ formulas_map atom_without_offset (Cons e es)) × AreTyped role us in
      subst P b.4 (λ i. Cons (p.0 i) (q.0 i), (p.1, q.1))

-- A match that is by its names a well-typed one passes the check.

-- where no rule fails, the atom is the answer
no_fault : (offset : _) (a f s : Bool) (x : TypedAtom) → (a && (f && s)) ≡ true → judged offset a f s x ≡ Ok x
no_fault offset true true true x e = refl
no_fault offset a f s x e = absurd cc

bare_checks : (role : Role) (part : Part) (f : Field) → field_name f ≡ part.name → is_typed_atom role (Bare f part.bits) ≡ true → checked_atom role (atom.Bare part) ≡ Ok (Bare f part.bits)
bare_checks role part f n e = ap (λ name. checked_bare role part (subject_of name)) (sym n) ∙ ap (checked_bare role part) (field_read f) ∙ no_fault part.offset _ _ _ _ e

predicate_checks : (role : Role) (part : Part) (p : Pred) → pred_name p ≡ part.name → Whole ≡ part.bits → is_typed_atom role (Holds p) ≡ true → checked_atom role (atom.Bare part) ≡ Ok (Holds p)
predicate_checks role part p n b e =
    let fits : (is_allowed role (subject.Pred p) && (bits_fit (width_of (subject.Pred p)) part.bits && may_stand_alone (subject.Pred p) part.bits)) ≡ true =
    ap (λ bits. is_allowed role (subject.Pred p) && (bits_fit (width_of (subject.Pred p)) bits && may_stand_alone (subject.Pred p) bits)) (sym b) ∙ ap (λ a. a && (true && true)) e in
    ap (λ name. checked_bare role part (subject_of name)) (sym n) ∙ ap (checked_bare role part) (pred_read p) ∙ no_fault part.offset _ _ _ _ fits

comparison_checks : (role : Role) (part : Part) (rel : Rel) (right : Right) (f : Field) → field_name f ≡ part.name → is_typed_atom role (Compare f part.bits rel right) ≡ true → checked_atom role (atom.Compare part rel right) ≡ Ok (Compare f part.bits rel right)
comparison_checks role part rel right f n e = ap (λ name. checked_comparison role part rel right (subject_of name)) (sym n) ∙ ap (checked_comparison role part rel right) (field_read f) ∙ no_fault part.offset _ _ _ _ e

atom_checks : (role : Role) (a : Atom) (t : TypedAtom) → named_atom t ≡ atom_without_offset a → is_typed_atom role t ≡ true → checked_atom role a ≡ Ok t
atom_checks role (atom.Truth b) (Truth c) h e = let same : b ≡ c = cc in ap (λ x. Ok (Truth x)) same
atom_checks role (atom.Bare part) (Bare f bits) h e =
    let same : part_named (field_name f) bits ≡ part_named part.name part.bits = cc in
    let its_bits : bits ≡ part.bits = ap (λ p. p.bits) same in
    bare_checks role part f (ap (λ p. p.name) same) (ap (λ b. is_typed_atom role (Bare f b)) (sym its_bits) ∙ e) ∙ ap (λ b. Ok (Bare f b)) (sym its_bits)
atom_checks role (atom.Bare part) (Holds p) h e =
    let same : part_named (pred_name p) Whole ≡ part_named part.name part.bits = cc in
    predicate_checks role part p (ap (λ q. q.name) same) (ap (λ q. q.bits) same) e
atom_checks role (atom.Compare part rel right) (Compare f bits r s) h e =
    let same : part_named (field_name f) bits ≡ part_named part.name part.bits = cc in
    let rels : r ≡ rel = cc in
    let rights : s ≡ right = cc in
    let its_bits : bits ≡ part.bits = ap (λ p. p.bits) same in
    let alike : Compare f part.bits rel right ≡ Compare f bits r s = λ i. Compare f (sym its_bits i) (sym rels i) (sym rights i) in
    comparison_checks role part rel right f (ap (λ p. p.name) same) (ap (is_typed_atom role) alike ∙ e) ∙ ap (λ t. Ok t) alike
atom_checks role a t h e = absurd cc

mutual
  pub is_checked : (role : Role) (e : Formula Atom) (t : Formula TypedAtom) → named t ≡ without_offsets e → IsTyped role t → checked role e ≡ Ok t
  is_checked role (Leaf a) (Leaf t) h is = let inner : named_atom t ≡ atom_without_offset a = cc in ap (mapped Leaf) (atom_checks role a t inner is)
  is_checked role (Not e) (Not t) h is = let inner : named t ≡ without_offsets e = cc in ap (mapped Not) (is_checked role e t inner is)
  is_checked role (And es) (And ts) h is = let inner : formulas_map named_atom ts ≡ formulas_map atom_without_offset es = cc in ap (mapped And) (all_are_checked role es ts inner is)
  is_checked role (Or es) (Or ts) h is = let inner : formulas_map named_atom ts ≡ formulas_map atom_without_offset es = cc in ap (mapped Or) (all_are_checked role es ts inner is)
  is_checked role e t h is = absurd cc

  all_are_checked : (role : Role) (es : Formulas Atom) (ts : Formulas TypedAtom) → formulas_map named_atom ts ≡ formulas_map atom_without_offset es → AreTyped role ts → all_checked role es ≡ Ok ts
  all_are_checked role Nil Nil h is = refl
  all_are_checked role (Cons e es) (Cons t ts) h is =
      let first : named t ≡ without_offsets e = cc in
      let others : formulas_map named_atom ts ≡ formulas_map atom_without_offset es = cc in
      let one = is_checked role e t first is.0 in
      let rest = all_are_checked role es ts others is.1 in
      λ i. both Cons (one i) (rest i)
  all_are_checked role es ts h is = absurd cc

-- A match is read and checked from its text as itself.

-- names have no offsets
atom_named : (a : TypedAtom) → atom_without_offset (named_atom a) ≡ named_atom a
atom_named (Truth b) = refl
atom_named (Bare f bits) = refl
atom_named (Holds p) = refl
atom_named (Compare f bits r s) = refl

mutual
  no_offsets : (t : Formula TypedAtom) → without_offsets (named t) ≡ named t
  no_offsets (Leaf a) = ap (λ x. Leaf x) (atom_named a)
  no_offsets (Not t) = ap (λ x. Not x) (no_offsets t)
  no_offsets (And ts) = ap (λ xs. And xs) (none_have_offsets ts)
  no_offsets (Or ts) = ap (λ xs. Or xs) (none_have_offsets ts)

  none_have_offsets : (ts : Formulas TypedAtom) → formulas_map atom_without_offset (formulas_map named_atom ts) ≡ formulas_map named_atom ts
  none_have_offsets Nil = refl
  none_have_offsets (Cons t ts) = let one = no_offsets t in let others = none_have_offsets ts in λ i. Cons (one i) (others i)

pub read_back : (role : Role) (t : Formula TypedAtom) → IsPrintable role t → (e : Formula Atom) × (reading (typed_text t) ≡ Read e []) × (checked role e ≡ Ok t)
read_back role t is =
    let r = read_again (named t) is.formed is.shallow in
    (r.0, ap reading (written_by_name t) ∙ r.1, is_checked role r.0 t (sym (r.2 ∙ no_offsets t)) is.typed)

pub apart : (role : Role) (s t : Formula TypedAtom) → IsPrintable role s → IsPrintable role t → typed_text s ≡ typed_text t → s ≡ t
apart role s t one other alike =
    let p = read_back role s one in
    let q = read_back role t other in
    let reads : Read p.0 [] ≡ Read q.0 [] = sym p.1 ∙ ap reading alike ∙ q.1 in
    let same : p.0 ≡ q.0 = cc in
    let answers : Ok s ≡ Ok t = sym p.2 ∙ ap (checked role) same ∙ q.2 in
    cc
