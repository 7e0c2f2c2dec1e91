-- The words so far of a line, as what is left of it is read on.
use Rattle.std.proofs.Common.{◌≡◌, Bool, true, false, if◌then◌else◌, ℕ, List, [], ◌∷◌, ◌++◌, Option, Some, None, option_map, length, append_assoc, refl, sym, ap, ◌∙◌, arith}
use Rattle.std.proofs.lemmas.List.{append-nil}
use Rattle.nb_words.specs.declared.word.Word.{Word}
use Rattle.nb_words.specs.Words.{is_separator, words_of}
use Rattle.nb_words.specs.inner.Front.{begun}

-- with the words of what is left, these are the words of the line
abbrev pub GoesOn : List Word → List ℕ → List ℕ → Type 0
GoesOn words left line = option_map (λ more. words ++ more) (words_of left) ≡ words_of line

with_first : List Word → ℕ → List ℕ → Bool → Option (List Word)
with_first words byte more b = option_map (λ more. words ++ more) (if b then words_of more else begun byte more)

on_first : (words : List Word) (left more line : List ℕ) (byte : ℕ) → left ≡ byte ∷ more → GoesOn words left line → with_first words byte more (is_separator byte) ≡ words_of line
unfolding with_first
on_first words left more line byte is so_far = ap (λ left. option_map (λ more. words ++ more) (words_of left)) (sym is) ∙ so_far

-- a separator is passed
pub separator_passed : (words : List Word) (left more line : List ℕ) (byte : ℕ) → left ≡ byte ∷ more → true ≡ is_separator byte → GoesOn words left line → GoesOn words more line
unfolding with_first
separator_passed words left more line byte is ends so_far = ap (with_first words byte more) ends ∙ on_first words left more line byte is so_far

-- any other byte begins a word
pub word_begun : (words : List Word) (left more line : List ℕ) (byte : ℕ) → left ≡ byte ∷ more → false ≡ is_separator byte → GoesOn words left line → option_map (λ more. words ++ more) (begun byte more) ≡ words_of line
unfolding with_first
word_begun words left more line byte is begins so_far = ap (with_first words byte more) begins ∙ on_first words left more line byte is so_far

-- the word goes to the end of the words
onto : (words grown : List Word) (word : Word) (rest : Option (List Word)) → grown ≡ words ++ word ∷ [] → option_map (λ more. grown ++ more) rest ≡ option_map (λ more. words ++ more) (option_map (λ more. word ∷ more) rest)
onto words grown word None is = refl
onto words grown word (Some more) is = ap (λ all. Some (all ++ more)) is ∙ ap Some (append_assoc words (word ∷ []) more)

pub word_read : (words grown : List Word) (word : Word) (begins : Option (List Word)) (rest line : List ℕ) → grown ≡ words ++ word ∷ [] → begins ≡ option_map (λ more. word ∷ more) (words_of rest) → option_map (λ more. words ++ more) begins ≡ words_of line
    → GoesOn grown rest line
word_read words grown word begins rest line is front so_far = onto words grown word (words_of rest) is ∙ ap (option_map (λ more. words ++ more)) (sym front) ∙ so_far

-- at the end of the line
pub all_read : (words : List Word) (left line : List ℕ) → length left ≡ 0 → GoesOn words left line → Some words ≡ words_of line
all_read words [] line none so_far = ap Some (sym (append-nil words)) ∙ so_far
all_read words (byte ∷ left) line none so_far = absurd (omega (arith, none))
