-- The words of a line.
use Rattle.std.specs.Prelude.{ℕ, Bool, true, false, ◌||◌, ◌==◌, if◌then◌else◌, List, [], ◌∷◌, ◌++◌, Option, Some, None, option_map}
use Rattle.nb_words.specs.declared.word.Word.{Word}

-- a space, a tab or a carriage return
abbrev pub is_separator : ℕ → Bool
is_separator byte = (byte == 32) || (byte == 9) || (byte == 13)

-- a single or a double quote
abbrev pub is_quote : ℕ → Bool
is_quote byte = (byte == 39) || (byte == 34)

-- a word before its first byte
abbrev pub no_word : Word
no_word = record { text = []; is_bare = true }

-- a word with one byte more
abbrev pub with_byte : Word → ℕ → Word
with_byte word byte = record word { text = word.text ++ byte ∷ [] }

abbrev mutual
  -- The words of a line, which begins between two words or before the first. None where a quote is open at the end.
  pub words_of : List ℕ → Option (List Word)
  words_of [] = Some []
  words_of (byte ∷ more) =
      if is_separator byte then words_of more
      else (if is_quote byte then quoted byte (record no_word { is_bare = false }) more else within (with_byte no_word byte) more)

  -- the words of what is left of a line, of which the first is begun: up to a separator its bytes stand for themselves
  pub within : Word → List ℕ → Option (List Word)
  within word [] = Some (word ∷ [])
  within word (byte ∷ more) =
      if is_separator byte then option_map (λ words. word ∷ words) (words_of more)
      else (if is_quote byte then quoted byte (record word { is_bare = false }) more else within (with_byte word byte) more)

  -- the same in quotes: all bytes stand for themselves up to the same quote
  pub quoted : ℕ → Word → List ℕ → Option (List Word)
  quoted quote word [] = None
  quoted quote word (byte ∷ more) = if byte == quote then within word more else quoted quote (with_byte word byte) more
