-- What is due for a piece of the input.
use Rattle.std.specs.Prelude.{◌≡◌, ℕ, List, ◌++◌}
use Rattle.nv_io.specs.Passed.{IsPrefix}
use Rattle.nv_input.specs.Lines.{lines_of, complete_lines}
use Rattle.nv_reply.specs.Reply.{replies}
use Rattle.nv_reply.specs.Session.{Session}

-- this text is the replies to the lines that these bytes end, which come after others
abbrev pub IsDue : Session → List ℕ → List ℕ → List ℕ → Type 0
IsDue first before bytes text = replies first (complete_lines (before ++ bytes)) ≡ replies first (complete_lines before) ++ text

-- this text is due after others, however the input goes on after these bytes
abbrev pub BeginsOutput : Session → List ℕ → List ℕ → List ℕ → Type 0
BeginsOutput first before bytes text = (more : List ℕ) → IsPrefix (replies first (complete_lines before) ++ text) (replies first (lines_of (before ++ bytes ++ more)))
