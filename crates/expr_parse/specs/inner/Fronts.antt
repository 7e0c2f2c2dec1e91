-- What the code looks for at the front of a text.
use Rattle.std.specs.Prelude.{ℕ, ◌&&◌, List, length, nat_lt, slice_index, Option, Some, None, if◌then◌else◌}
use Rattle.std.specs.List.{take_while}
use Rattle.expr_parse.specs.Class.{begins_name}
use Rattle.expr_parse.specs.Spelling.{is_in_name}

-- the longest name at the front of a text
abbrev pub front_name : List ℕ → Option (List ℕ)
front_name text = if nat_lt 0 (length text) && begins_name (slice_index text 0) then Some (take_while is_in_name text) else None
