-- The commands of a line.
use Rattle.std.specs.Prelude.{ℕ, ◌+◌, ◌^◌, Bool, true, not, ◌&&◌, ◌==◌, if◌then◌else◌, List, [], ◌∷◌, length, Option, Some, None, Result, Ok, Err, codes, nat_lt}
use Rattle.std.specs.List.{list_all, slice_split}
use Rattle.std.specs.Str.{bytes_eq, is_utf8}
use Rattle.nb_records.specs.declared.refusal.Refusal.{Refusal}
use Rattle.nb_records.specs.declared.refusal.Refusal.TheVariants.{NotUtf8, LineTooLong, WrongWords}
use Rattle.nb_words.specs.declared.word.Word.{Word}
use Rattle.nb_words.specs.declared.command.Command.{Command}
use Rattle.nb_words.specs.Words.{is_separator, words_of}

-- the most bytes of a line
abbrev pub line_limit : ℕ
line_limit = 65536

-- a line that is blank, or whose first word begins with `#`
abbrev pub says_nothing : List ℕ → Bool
says_nothing [] = true
says_nothing (byte ∷ more) = if is_separator byte then says_nothing more else byte == 35

-- a word `--`, which separates commands
abbrev pub is_between : Word → Bool
is_between word = word.is_bare && bytes_eq word.text (codes "--")

-- the command of these words, of which the first has this number
abbrev pub command : ℕ → List Word → Command
command first words = record { first = first; words = words }

-- a word whose bytes a place of 32 bits can tell
abbrev pub is_short : Word → Bool
is_short word = nat_lt (length word.text) (2 ^ 32)

-- a command whose words have numbers, and bytes have places, of 32 bits
abbrev pub is_small : Command → Bool
is_small command = nat_lt (command.first + length command.words) (2 ^ 32) && list_all is_short command.words

-- commands, of which the first begins at the word of that number: a separator counts as a word
abbrev pub numbered : ℕ → List (List Word) → List Command
numbered first [] = []
numbered first (words ∷ more) = command first words ∷ numbered (first + length words + 1) more

-- the commands of these words
abbrev pub commands_of : Option (List Word) → Result (List Command) Refusal
commands_of None = Err WrongWords
commands_of (Some words) = Ok (numbered 1 (slice_split is_between words))

-- the commands of a line, none where it says nothing, or why it is refused
abbrev pub read_commands : List ℕ → Result (List Command) Refusal
read_commands line =
    if nat_lt line_limit (length line) then Err LineTooLong
    else (if not (is_utf8 line) then Err NotUtf8
    else (if says_nothing line then Ok [] else commands_of (words_of line)))
