-- Words that are read one after another.
use Rattle.std.proofs.Common.{◌≡◌, ℕ, ◌+◌, ◌<◌, List, [], ◌∷◌, ◌++◌, Result, Ok, length, get_or, drop, sym, ap, ◌∙◌}
use Rattle.std.proofs.lemmas.List.{at_drop_more}
use Rattle.nb_records.specs.declared.refusal.Refusal.{Refusal}
use Rattle.nb_words.specs.Fault.{IsFaultOf}
use Rattle.nb_words.specs.declared.fault.LineFault.{LineFault}
use Rattle.nb_words.specs.declared.fault.LineFault.TheVariants.{Refused, Memory}
use Rattle.nb_words.specs.declared.word.Word.{Word}
use Rattle.nb_read.specs.Then.{and_then}

-- each word is read by its number and by what was read before it
module _ {X : Type 0} (reads : List X → ℕ → List Word → Result (List X) Refusal) (next : ℕ → List X → List ℕ → Result X Refusal) (step : (before : List X) (number : ℕ) (word : Word) (words : List Word) → reads before number (word ∷ words) ≡ and_then (next number before word.text) (λ x. reads (before ++ x ∷ []) (number + 1) words)) where
  opened : (words : List Word) (i : ℕ) (word : Word) (before : List X) (number : ℕ) → i < length words → word ≡ get_or words i word
      → reads before number (drop i words) ≡ and_then (next number before word.text) (λ x. reads (before ++ x ∷ []) (number + 1) (drop (i + 1) words))
  opened words i word before number within at =
      at_drop_more (reads before number) words i word within ∙ ap (λ w. reads before number (w ∷ drop (i + 1) words)) (sym at) ∙ step before number word (drop (i + 1) words)

  -- a word that is read goes to the end of what was read
  pub goes_on : (words : List Word) (i : ℕ) (word : Word) (before after : List X) (number : ℕ) (x : X) → i < length words → word ≡ get_or words i word → next number before word.text ≡ Ok x → after ≡ before ++ x ∷ []
      → reads after (number + 1) (drop (i + 1) words) ≡ reads before number (drop i words)
  goes_on words i word before after number x within at read grown =
      let go = λ (x : X). reads (before ++ x ∷ []) (number + 1) (drop (i + 1) words) in
      ap (λ list. reads list (number + 1) (drop (i + 1) words)) grown ∙ sym (opened words i word before number within at ∙ ap (λ r. and_then r go) read)

  -- and the fault of one that is not is the fault of all
  pub stops : (words : List Word) (i : ℕ) (word : Word) (before : List X) (number : ℕ) (fault : LineFault) (whole : Result (List X) Refusal) → i < length words → word ≡ get_or words i word
      → reads before number (drop i words) ≡ whole → IsFaultOf (next number before word.text) fault → IsFaultOf whole fault
  stops words i word before number (Refused refusal) whole within at so_far refused =
      let go = λ (x : X). reads (before ++ x ∷ []) (number + 1) (drop (i + 1) words) in
      sym so_far ∙ opened words i word before number within at ∙ ap (λ r. and_then r go) refused
  stops words i word before number Memory whole within at so_far refused = tt
