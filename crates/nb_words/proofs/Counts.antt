-- A line has no more words than bytes.
use Rattle.std.proofs.Common.{◌≡◌, ◌≤◌, Bool, true, false, ℕ, List, [], ◌∷◌, length, suc, Option, Some, None, option_map, arith, if◌then◌else◌, ◌==◌}
use Rattle.nb_words.specs.declared.word.Word.{Word}
use Rattle.nb_words.specs.Words.{is_separator, is_quote, no_word, with_byte, words_of, within, quoted}

-- there are at most so many words
abbrev pub AtMost : ℕ → Option (List Word) → Type 0
AtMost n None = Unit {0}
AtMost n (Some words) = length words ≤ n

more : (n : ℕ) (words : Option (List Word)) → AtMost n words → AtMost (suc n) words
more n None few = tt
more n (Some words) few = omega arith

one_more : (n : ℕ) (word : Word) (words : Option (List Word)) → AtMost n words → AtMost (suc n) (option_map (λ ws. word ∷ ws) words)
one_more n word None few = tt
one_more n word (Some words) few = omega arith

either : (n : ℕ) (b : Bool) (one other : Option (List Word)) → AtMost n one → AtMost n other → AtMost n (if b then one else other)
either n true one other few many = few
either n false one other few many = many

pub record Few (line : List ℕ) : Type 0 where
  pub outside : AtMost (length line) (words_of line)
  pub inside : (word : Word) → AtMost (suc (length line)) (within word line)
  pub in_quotes : (quote : ℕ) (word : Word) → AtMost (length line) (quoted quote word line)

few_words : (line : List ℕ) → Few line
few_words [] = record { outside = omega arith; inside = λ word. omega arith; in_quotes = λ quote word. tt }
few_words (byte ∷ line) =
    let rest = few_words line in
    record {
      outside = either _ (is_separator byte) _ _ (more _ _ rest.outside)
          (either _ (is_quote byte) _ _ (more _ _ (rest.in_quotes byte (record no_word { is_bare = false }))) (rest.inside (with_byte no_word byte)));
      inside = λ word. either _ (is_separator byte) _ _ (more _ _ (one_more _ word _ rest.outside))
          (either _ (is_quote byte) _ _ (more _ _ (more _ _ (rest.in_quotes byte (record word { is_bare = false })))) (more _ _ (rest.inside (with_byte word byte))));
      in_quotes = λ quote word. either _ (byte == quote) _ _ (rest.inside word) (more _ _ (rest.in_quotes quote (with_byte word byte)));
    }

pub no_more_words : (line : List ℕ) (words : List Word) → words_of line ≡ Some words → length words ≤ length line
no_more_words line words e = let few = (few_words line).outside in rw e at few
