-- The first word of what is left of a line.
use Rattle.std.specs.Prelude.{◌≡◌, ◌≤◌, if◌then◌else◌, ℕ, Bool, false, List, ◌∷◌, length, Option, Some, None, option_map}
use Rattle.nb_words.specs.declared.word.Word.{Word}
use Rattle.nb_words.specs.Words.{is_quote, no_word, with_byte, words_of, within, quoted}

-- the words of what is left, of which the first begins with this byte
abbrev pub begun : ℕ → List ℕ → Option (List Word)
begun byte more = if is_quote byte then quoted byte (record no_word { is_bare = false }) more else within (with_byte no_word byte) more

-- the words of what is left after some bytes of a word, which may be in a quote
abbrev pub going_on : List ℕ → Bool → Option ℕ → List ℕ → Option (List Word)
going_on text is_bare None left = within (record { text = text; is_bare = is_bare }) left
going_on text is_bare (Some quote) left = quoted quote (record { text = text; is_bare = is_bare }) left

-- the words of what is left are this word and those of the rest, which is no longer than the bytes
abbrev pub IsFront : Option (List Word) → List ℕ → Word → List ℕ → Type 0
IsFront words bytes word rest = (length rest ≤ length bytes) × (words ≡ option_map (λ more. word ∷ more) (words_of rest))
