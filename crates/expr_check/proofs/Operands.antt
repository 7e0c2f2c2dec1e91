-- The operands that were checked, and those that are left.
use Rattle.std.proofs.Common.{◌≡◌, ℕ, ◌<◌, ◌≤◌, ◌+◌, List, [], ◌∷◌, ◌++◌, length, drop, slice_index_or, Result, Ok, Err, refl, ap, sym, subst, ◌∙◌}
use Rattle.std.specs.Result.{IsErrAnd, IfErr}
use Rattle.std.proofs.lemmas.List.{at_drop_more}
use Rattle.std.proofs.Math.ListN.{drop_of_length-le}
use Rattle.expr_core.specs.Formula.{Formula, Formulas, formulas}
use Rattle.expr_core.specs.Formula.Formulas.{Nil, Cons}
use Rattle.expr_core.specs.declared.expr.Atom.{Atom}
use Rattle.expr_core.specs.declared.typed.TypedAtom.{TypedAtom}
use Rattle.expr_check.specs.declared.fault.TypeFault.{TypeFault}
use Rattle.expr_core.specs.declared.role.Role.{Role}
use Rattle.expr_check.specs.Check.{both, mapped, checked, all_checked}

-- formulas before others
abbrev pub in_front : {A : Type 0} → List (Formula A) → Formulas A → Formulas A
in_front [] rest = rest
in_front (f ∷ fs) rest = Cons f (in_front fs rest)

in_front_of_none : {A : Type 0} (fs : List (Formula A)) → in_front fs Nil ≡ formulas fs
in_front_of_none [] = refl
in_front_of_none (f ∷ fs) = ap (Cons f) (in_front_of_none fs)

one_more : {A : Type 0} (fs : List (Formula A)) (f : Formula A) (rest : Formulas A) → in_front fs (Cons f rest) ≡ in_front (fs ++ f ∷ []) rest
one_more [] f rest = refl
one_more (g ∷ fs) f rest = ap (Cons g) (one_more fs f rest)

-- what is left of the operands comes to all of them
abbrev pub Left : Role → List (Formula Atom) → List (Formula TypedAtom) → ℕ → Type 0
Left role fs done i = all_checked role (formulas fs) ≡ mapped (in_front done) (all_checked role (formulas (drop i fs)))

next : (role : Role) (fs : List (Formula Atom)) (i : ℕ) (d : Formula Atom) → i < length fs
    → all_checked role (formulas (drop i fs)) ≡ both Cons (checked role (slice_index_or fs i d)) (all_checked role (formulas (drop (i + 1) fs)))
next role fs i d within = at_drop_more (λ gs. all_checked role (formulas gs)) fs i d within

joined : (done : List (Formula TypedAtom)) (x : Formula TypedAtom) (rest : Result (Formulas TypedAtom) TypeFault)
    → mapped (in_front done) (both Cons (Ok x) rest) ≡ mapped (in_front (done ++ x ∷ [])) rest
joined done x (Ok xs) = ap Ok (one_more done x xs)
joined done x (Err fault) = refl

-- one operand more was checked
pub goes_on : (role : Role) (fs : List (Formula Atom)) (done : List (Formula TypedAtom)) (i : ℕ) (d : Formula Atom) (x : Formula TypedAtom) → i < length fs
    → Left role fs done i → checked role (slice_index_or fs i d) ≡ Ok x → Left role fs (done ++ x ∷ []) (i + 1)
goes_on role fs done i d x within left passed =
    left ∙ ap (mapped (in_front done)) (next role fs i d within ∙ ap (λ r. both Cons r (all_checked role (formulas (drop (i + 1) fs)))) passed)
    ∙ joined done x (all_checked role (formulas (drop (i + 1) fs)))

-- the next operand has a fault
pub fails : (role : Role) (fs : List (Formula Atom)) (done : List (Formula TypedAtom)) (i : ℕ) (d : Formula Atom) (fault : TypeFault) → i < length fs
    → Left role fs done i → checked role (slice_index_or fs i d) ≡ Err fault → all_checked role (formulas fs) ≡ Err fault
fails role fs done i d fault within left failed =
    left ∙ ap (mapped (in_front done)) (next role fs i d within ∙ ap (λ r. both Cons r (all_checked role (formulas (drop (i + 1) fs)))) failed)

-- all operands were checked
pub ends : (role : Role) (fs : List (Formula Atom)) (done : List (Formula TypedAtom)) (i : ℕ) → length fs ≤ i → Left role fs done i → all_checked role (formulas fs) ≡ Ok (formulas done)
ends role fs done i over left = left ∙ rw (drop_of_length-le fs over) (ap Ok (in_front_of_none done))

-- none was yet
pub begins : (role : Role) (fs : List (Formula Atom)) → Left role fs [] 0
begins role fs = nothing_done (all_checked role (formulas fs))
  where
    nothing_done : (r : Result (Formulas TypedAtom) TypeFault) → r ≡ mapped (in_front []) r
    nothing_done (Ok xs) = refl
    nothing_done (Err fault) = refl

-- a fault that is handed on
pub fault_stays : {T : Type 0} (r : Result T TypeFault) (fault : TypeFault) (Q : TypeFault → Type 0) → IsErrAnd r (λ y. y ≡ fault) → Q fault → IfErr r Q
fault_stays (Ok x) fault Q h q = absurd h
fault_stays (Err y) fault Q h q = subst Q (sym h) q
