-- The state of the program after a part of its input.
use Rattle.std.specs.Prelude.{◌≡◌, ℕ, ◌+◌, ◌-◌, Bool, List, [], ◌∷◌, ◌++◌, length, take}
use Rattle.std.specs.List.{slice_split}
use Rattle.nb_words.specs.Commands.{line_limit}
use Rattle.nv_reply.specs.Session.{Session}
use Rattle.nv_reply.specs.Reply.{session_after, some_refused}
use Rattle.nv_input.specs.Lines.{is_newline, lines_of, complete_lines}

-- the session, the line that has no end yet, and whether a line was refused, after these bytes, by the session before the first line
pub record IsStateAfter (first session : Session) (line : List ℕ) (refused : Bool) (before : List ℕ) : Type 0 where
  pub line_is : lines_of before ≡ complete_lines before ++ line ∷ []
  pub session_is : session ≡ session_after first (complete_lines before)
  pub refused_is : refused ≡ some_refused first (complete_lines before)

-- as many bytes of a line are kept: its reply depends on no more
abbrev pub kept_limit : ℕ
kept_limit = line_limit + 1

-- what is kept of a line, and of more bytes of it
abbrev pub and_kept : List ℕ → List ℕ → List ℕ
and_kept kept bytes = kept ++ take (kept_limit - length kept) bytes

-- the same state, where of that line only these bytes are kept
pub record IsKeptAfter (first session : Session) (kept : List ℕ) (refused : Bool) (before : List ℕ) : Type 0 where
  pub line : List ℕ
  pub stands : IsStateAfter first session line refused before
  pub kept_is : kept ≡ take kept_limit line

-- bytes that end no line
abbrev pub EndsNoLine : List ℕ → Type 0
EndsNoLine bytes = slice_split is_newline bytes ≡ bytes ∷ []

-- a line that is cut off, and the bytes after its newline
pub record CutsLine (bytes line rest : List ℕ) : Type 0 where
  pub whole : bytes ≡ line ++ 10 ∷ rest
  pub ends_no_line : EndsNoLine line
