-- Texts that are written one by one.
use Rattle.std.proofs.Common.{◌≡◌, ℕ, List, [], ◌∷◌, ◌++◌, refl, ap, ◌∙◌, append_assoc}

-- a text, and others after it
abbrev pub joined : List ℕ → List (List ℕ) → List ℕ
joined text [] = text
joined text (more ∷ others) = joined (text ++ more) others

-- they stand after an old one
pub joined_after : (old text : List ℕ) (others : List (List ℕ)) → joined (old ++ text) others ≡ old ++ joined text others
joined_after old text [] = refl
joined_after old text (more ∷ others) = ap (λ front. joined front others) (append_assoc old text more) ∙ joined_after old (text ++ more) others
