-- What a run begins with.
use Rattle.std.specs.Prelude.{ℕ, List, ◌++◌}
use Rattle.nv_reply.specs.Reply.{replies}
use Rattle.nv_reply.specs.Session.{Session}

-- what its output begins with, and the session before its first line
pub record Opening : Type 0 where
  pub text : List ℕ
  pub session : Session

-- of this text and this session
abbrev pub opening_of : List ℕ → Session → Opening
opening_of text session = record { text = text; session = session }

-- what is written once these lines are answered
abbrev pub written_for : Opening → List (List ℕ) → List ℕ
written_for opening lines = opening.text ++ replies opening.session lines
