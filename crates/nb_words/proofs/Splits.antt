-- Words that are split into commands, as one more word comes.
use Rattle.std.proofs.Common.{◌≡◌, ◌++◌, ◌+◌, ◌∙◌, Bool, true, false, ℕ, List, [], ◌∷◌, refl, ap, sym, if◌then◌else◌, length}
use Rattle.std.specs.List.{slice_split, onto_first}
use Rattle.nb_words.specs.declared.word.Word.{Word}
use Rattle.nb_words.specs.declared.command.Command.{Command}
use Rattle.nb_words.specs.Commands.{command, is_between, numbered}

-- the parts of a list that has one element more: it ends the last part, or it is in it
abbrev pub grown : {X : Type 0} → Bool → X → List (List X) → List (List X)
grown ends x [] = if ends then [] ∷ [] ∷ [] else (x ∷ []) ∷ []
grown ends x (part ∷ []) = if ends then part ∷ [] ∷ [] else (part ++ x ∷ []) ∷ []
grown ends x (part ∷ next ∷ parts) = part ∷ grown ends x (next ∷ parts)

onto_grown : {X : Type 0} (ends : Bool) (x y : X) (parts : List (List X)) → grown ends x (onto_first y parts) ≡ onto_first y (grown ends x parts)
onto_grown true x y [] = refl
onto_grown false x y [] = refl
onto_grown true x y (part ∷ []) = refl
onto_grown false x y (part ∷ []) = refl
onto_grown ends x y (part ∷ next ∷ parts) = refl

after_end : {X : Type 0} (ends : Bool) (x : X) (p : X → Bool) (xs : List X) → grown ends x ([] ∷ slice_split p xs) ≡ [] ∷ grown ends x (slice_split p xs)
after_end ends x p [] = refl
after_end ends x p (y ∷ xs) = starts ends x y (p y) (slice_split p xs) where
  starts : {X : Type 0} (ends : Bool) (x y : X) (b : Bool) (parts : List (List X)) → grown ends x ([] ∷ (if b then [] ∷ parts else onto_first y parts)) ≡ [] ∷ grown ends x (if b then [] ∷ parts else onto_first y parts)
  starts ends x y true parts = refl
  starts ends x y false [] = refl
  starts ends x y false (part ∷ parts) = refl

pub slice_split-snoc : {X : Type 0} (p : X → Bool) (xs : List X) (x : X) → slice_split p (xs ++ x ∷ []) ≡ grown (p x) x (slice_split p xs)
slice_split-snoc p [] x = one (p x) x where
  one : {X : Type 0} (b : Bool) (x : X) → (if b then [] ∷ [] ∷ [] else (x ∷ []) ∷ []) ≡ grown b x ([] ∷ [])
  one true x = refl
  one false x = refl
slice_split-snoc p (y ∷ xs) x = first (p y) p xs x y (slice_split-snoc p xs x) where
  first : {X : Type 0} (b : Bool) (p : X → Bool) (xs : List X) (x y : X) → slice_split p (xs ++ x ∷ []) ≡ grown (p x) x (slice_split p xs)
      → (if b then [] ∷ slice_split p (xs ++ x ∷ []) else onto_first y (slice_split p (xs ++ x ∷ []))) ≡ grown (p x) x (if b then [] ∷ slice_split p xs else onto_first y (slice_split p xs))
  first true p xs x y e = ap (λ parts. [] ∷ parts) e ∙ sym (after_end (p x) x p xs)
  first false p xs x y e = ap (onto_first y) e ∙ sym (onto_grown (p x) x y (slice_split p xs))

no_command : (commands : List Command) (c : Command) (A : Type 0) → [] ≡ commands ++ c ∷ [] → A
no_command [] c A e = cc
no_command (d ∷ commands) c A e = cc

longer : (n : ℕ) (parts : List (List Word)) (x : Word) (commands : List Command) (first : ℕ) (words : List Word)
    → numbered n parts ≡ commands ++ command first words ∷ [] → numbered n (grown false x parts) ≡ commands ++ command first (words ++ x ∷ []) ∷ []
longer n [] x commands first words e = no_command commands _ _ e
longer n (part ∷ []) x [] first words e = let same : command n part ≡ command first words = cc in λ i. command (same i).first ((same i).words ++ x ∷ []) ∷ []
longer n (part ∷ []) x (d ∷ commands) first words e = no_command commands (command first words) _ cc
longer n (part ∷ next ∷ parts) x [] first words e = cc
longer n (part ∷ next ∷ parts) x (d ∷ commands) first words e =
    let tail : numbered (n + length part + 1) (next ∷ parts) ≡ commands ++ command first words ∷ [] = cc in
    let head : command n part ≡ d = cc in
    let rest = longer (n + length part + 1) (next ∷ parts) x commands first words tail in
    λ i. head i ∷ rest i

ended : (n : ℕ) (parts : List (List Word)) (x : Word) (commands : List Command) (first : ℕ) (words : List Word)
    → numbered n parts ≡ commands ++ command first words ∷ [] → numbered n (grown true x parts) ≡ (commands ++ command first words ∷ []) ++ command (first + length words + 1) [] ∷ []
ended n [] x commands first words e = no_command commands _ _ e
ended n (part ∷ []) x [] first words e = let same : command n part ≡ command first words = cc in λ i. same i ∷ command ((same i).first + length (same i).words + 1) [] ∷ []
ended n (part ∷ []) x (d ∷ commands) first words e = no_command commands (command first words) _ cc
ended n (part ∷ next ∷ parts) x [] first words e = cc
ended n (part ∷ next ∷ parts) x (d ∷ commands) first words e =
    let tail : numbered (n + length part + 1) (next ∷ parts) ≡ commands ++ command first words ∷ [] = cc in
    let head : command n part ≡ d = cc in
    let rest = ended (n + length part + 1) (next ∷ parts) x commands first words tail in
    λ i. head i ∷ rest i

-- a word that separates nothing is the last one of its command
pub command_grows : (n : ℕ) (xs : List Word) (x : Word) (commands : List Command) (first : ℕ) (words more : List Word)
    → numbered n (slice_split is_between xs) ≡ commands ++ command first words ∷ [] → is_between x ≡ false → more ≡ words ++ x ∷ []
    → numbered n (slice_split is_between (xs ++ x ∷ [])) ≡ commands ++ command first more ∷ []
command_grows n xs x commands first words more e b grows =
    rw (slice_split-snoc is_between xs x, b, grows) (longer n (slice_split is_between xs) x commands first words e)

-- a separator begins a command after it
pub command_ends : (n : ℕ) (xs : List Word) (x : Word) (commands : List Command) (first : ℕ) (words : List Word)
    → numbered n (slice_split is_between xs) ≡ commands ++ command first words ∷ [] → is_between x ≡ true
    → numbered n (slice_split is_between (xs ++ x ∷ [])) ≡ (commands ++ command first words ∷ []) ++ command (first + length words + 1) [] ∷ []
command_ends n xs x commands first words e b = rw (slice_split-snoc is_between xs x, b) (ended n (slice_split is_between xs) x commands first words e)
