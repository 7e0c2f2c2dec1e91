-- The lines of an input.
use Rattle.std.specs.Prelude.{ℕ, ◌-◌, Bool, ◌==◌, List, length, take}
use Rattle.std.specs.List.{slice_split}

abbrev pub is_newline : ℕ → Bool
is_newline byte = byte == 10

-- The lines of an input: the texts between its newlines. The last has no newline; where the input ends with one,
-- the last is a line without words, which gets no reply.
abbrev pub lines_of : List ℕ → List (List ℕ)
lines_of input = slice_split is_newline input

-- the complete lines: all but the last, which has no newline
abbrev pub complete_lines : List ℕ → List (List ℕ)
complete_lines input = take (length (lines_of input) - 1) (lines_of input)

-- no more of an input is run than this many bytes
abbrev pub input_limit : ℕ
input_limit = 268435456
