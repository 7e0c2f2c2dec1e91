-- A command's words, by their places.
use Rattle.std.specs.Prelude.{ℕ, ◌+◌, Bool, List, [], length, drop, nat_lt, codes, Option, Some, None, Result, Ok, if◌then◌else◌}
use Rattle.std.specs.List.{list_any, slice_get}
use Rattle.std.specs.Str.{bytes_eq}
use Rattle.nb_records.specs.declared.refusal.Refusal.{Refusal}
use Rattle.nb_words.specs.declared.word.Word.{Word}
use Rattle.nb_read.specs.Then.{and_then}

-- a command: its options, the words after its name, and the number of the first of these in the line
pub record Call : Type 0 where
  pub options : List Word
  pub first : ℕ
  pub words : List Word

-- the command of these
abbrev pub call : List Word → ℕ → List Word → Call
call options first words = record { options = options; first = first; words = words }

-- the number in the line of the word at this place, from 0
abbrev pub number : Call → ℕ → ℕ
number call place = call.first + place

-- the bytes of a word, none where there is no word
abbrev pub bytes : Option Word → List ℕ
bytes None = []
bytes (Some word) = word.text

-- the bytes of the word at this place
abbrev pub text : Call → ℕ → List ℕ
text call place = bytes (slice_get call.words place)

-- a word is at this place
abbrev pub is_there : Call → ℕ → Bool
is_there call place = nat_lt place (length call.words)

-- the option stands
abbrev pub stands : Call → List ℕ → Bool
stands call option = list_any (λ word. bytes_eq word.text option) call.options

-- `--may-exist` stands
abbrev pub may_exist : Call → Bool
may_exist call = stands call (codes "--may-exist")

-- `--if-exists` stands
abbrev pub if_exists : Call → Bool
if_exists call = stands call (codes "--if-exists")

-- what a reading makes of the word at this place: it gets its number and its bytes
abbrev pub at : {X : Type 0} → Call → ℕ → (ℕ → List ℕ → Result X Refusal) → Result X Refusal
at call place reading = reading (number call place) (text call place)

-- what a reading makes of the word at this place, where there is one
abbrev pub maybe : {X : Type 0} → Call → ℕ → (ℕ → List ℕ → Result X Refusal) → Result (Option X) Refusal
maybe call place reading = if is_there call place then and_then (at call place reading) (λ x. Ok (Some x)) else Ok None

-- what a reading makes of the words from this place on
abbrev pub from : {X : Type 0} → Call → ℕ → (ℕ → List Word → Result X Refusal) → Result X Refusal
from call place reading = reading (number call place) (drop place call.words)
