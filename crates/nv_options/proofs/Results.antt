-- What is known of a result, and of the kinds of `clap`'s errors.
use Rattle.std.proofs.Common.{◌≡◌, ◌∙◌, false, [], ◌∷◌, length, sym, subst, arith, inl, inr, Ok, Err, IfOk}
use Rattle.std.specs.Prelude.{Result}
use Rattle.std.proofs.lemmas.Bool.{ne_eqb}
use Rattle.nv_options.specs.Options.{AskOnlyForText}
use Rattle.clap.specs.Walk.{is_empty}
use Rattle.clap.specs.Words.{HasKind, IsAmong, Kinds, kind_of}
use Rattle.clap.specs.declared.error.Error.{Error}
use Rattle.clap.specs.declared.error.kind.ErrorKind.{ErrorKind}
use Rattle.clap.specs.declared.error.kind.ErrorKind.TheVariants.{OutOfMemory, DisplayHelp, DisplayVersion}

pub if_ok : {T E : Type 0} {P Q : T → Type 0} (r : Result T E) → ((x : T) → P x → Q x) → IfOk r P → IfOk r Q
if_ok (Ok x) so p = so x p
if_ok (Err e) so p = tt

-- an error of another kind than memory is among those that may come
pub among : (kinds : Kinds) (error : Error) (k : ErrorKind) → HasKind kinds error → kind_of error ≡ k → (k ≡ OutOfMemory → ⊥) → IsAmong k kinds
among kinds error k (inl memory) is apart = absurd (apart (sym is ∙ memory))
among kinds error k (inr named) is apart = subst (λ kind. IsAmong kind kinds) is named

-- an error of one kind alone has that kind, where memory is there
only : (error : Error) (k : ErrorKind) → HasKind (k ∷ []) error → (kind_of error ≡ OutOfMemory → ⊥) → kind_of error ≡ k
only error k (inl memory) there = absurd (there memory)
only error k (inr (inl is)) there = is
only error k (inr (inr none)) there = absurd none

-- an error that neither memory nor a request for a text made was no such request
pub no_request : (kinds : Kinds) (error : Error) → HasKind kinds error → (kind_of error ≡ OutOfMemory → ⊥)
    → (kind_of error ≡ DisplayHelp → ⊥) → (kind_of error ≡ DisplayVersion → ⊥) → AskOnlyForText kinds → ⊥
no_request kinds error named there help version (inl is) = help (only error _ (subst (λ kinds. HasKind kinds error) is named) there)
no_request kinds error named there help version (inr is) = version (only error _ (subst (λ kinds. HasKind kinds error) is named) there)

no_kinds : (k : ErrorKind) (kinds : Kinds) → kinds ≡ [] → kinds ≡ k ∷ [] → ⊥
no_kinds k kinds none one = clash (sym none ∙ one)
  where
    clash : [] ≡ k ∷ [] → ⊥
    clash e = cc

-- where there is no fault no text is asked for
pub none_asked : (kinds : Kinds) → kinds ≡ [] → AskOnlyForText kinds → ⊥
none_asked kinds none (inl is) = no_kinds _ kinds none is
none_asked kinds none (inr is) = no_kinds _ kinds none is

-- an error that memory did not make shows a fault
pub some_fault : (kinds : Kinds) (error : Error) → HasKind kinds error → (kind_of error ≡ OutOfMemory → ⊥) → is_empty kinds ≡ false
some_fault kinds error (inl memory) there = absurd (there memory)
some_fault [] error (inr none) there = absurd none
some_fault (k ∷ ks) error (inr some) there = ne_eqb (length (k ∷ ks)) 0 (λ (e : length (k ∷ ks) ≡ 0). absurd (omega (arith, e)))

-- the faults of two results that are equal
pub same_fault : {T E : Type 0} {a b : E} → ◌≡◌ {A = Result T E} (Err a) (Err b) → a ≡ b
same_fault e = cc
