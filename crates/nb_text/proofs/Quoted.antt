-- A MAC with what goes with it, or alone.
use Rattle.std.proofs.Common.{◌≡◌, ◌==◌, ℕ, true, false, List, [], ◌∷◌, ◌++◌, length, refl, arith}
use Rattle.std.proofs.lemmas.Bool.{eqb-true}
use Rattle.nv_base.specs.Mac.{mac_text}
use Rattle.nb_text.specs.Words.{in_quotes, each_spaced, mac_with}

pub mac_alone : {X : Type 0} (text : X → List ℕ) (mac : ℕ) (xs : List X) → (length xs == 0) ≡ true → mac_with text mac xs ≡ mac_text mac
mac_alone text mac [] none = refl
mac_alone text mac (x ∷ xs) none = let long : length (x ∷ xs) ≡ 0 = eqb-true (length (x ∷ xs)) 0 none in absurd (omega arith)

pub mac_with_some : {X : Type 0} (text : X → List ℕ) (mac : ℕ) (xs : List X) → (length xs == 0) ≡ false
    → mac_with text mac xs ≡ in_quotes (mac_text mac ++ each_spaced text xs)
mac_with_some text mac [] some = absurd cc
mac_with_some text mac (x ∷ xs) some = refl
