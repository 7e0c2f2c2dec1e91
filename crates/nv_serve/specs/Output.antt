-- The output of a run.
use Rattle.std.specs.Prelude.{ℕ, if◌then◌else◌, List, [], Option, codes}
use Rattle.std.specs.Option.{option_map_or}
use Rattle.clap.specs.Words.{Text}
use Rattle.nv_options.specs.Options.{accepts, generate_in, hops_in}
use Rattle.nv_generate.specs.Generated.{generated, summary}
use Rattle.nv_input.specs.Lines.{lines_of, complete_lines}
use Rattle.nv_input.specs.Opening.{Opening, opening_of, written_for}
use Rattle.nv_reply.specs.Session.{Session, new_session}
use Rattle.nv_reply.specs.Reply.{row_count, session_after}

-- the lines that a run begins with: those of a generated network of so many ports, where one is asked for
abbrev pub first_lines : Option ℕ → List (List ℕ)
first_lines ports = option_map_or generated ports []

-- what is said of the network that they leave, where one is asked for
abbrev pub said_of : Option ℕ → Session → List ℕ
said_of ports session = option_map_or (λ ports. summary ports (row_count session.network)) ports []

-- the session that they leave, where a traced packet may take so many hops
unfoldable pub session_from : ℕ → Option ℕ → Session
session_from hops ports = session_after (new_session hops) (first_lines ports)

-- what a run begins with: their replies are not written, but what is said of the network
abbrev pub opening : ℕ → Option ℕ → Opening
opening hops ports = opening_of (said_of ports (session_from hops ports)) (session_from hops ports)

-- the same by the program's arguments
abbrev pub opened : List Text → Opening
opened words = opening (hops_in words) (generate_in words)

-- how the program is called
abbrev pub usage_line : List ℕ
usage_line = codes "usage: ovn_nd [--hops N] [--generate N]\n"

-- what is written for an input that is read to its end: what the run begins with and the replies, or how the program is called where its
-- arguments are refused
abbrev pub output : List Text → List ℕ → List ℕ
output words input = if accepts words then written_for (opened words) (lines_of input) else usage_line

-- what is written for the complete lines alone
abbrev pub complete_output : List Text → List ℕ → List ℕ
complete_output words input = written_for (opened words) (complete_lines input)
