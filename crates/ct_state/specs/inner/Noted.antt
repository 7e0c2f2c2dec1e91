-- The old marks and the neighbours that are kept.
use Rattle.std.specs.Prelude.{ℕ, ◌<◌, nat_lt, if◌then◌else◌, List, [], ◌∷◌, ◌++◌, Option, Some, None}
use Rattle.ct_core.specs.declared.neighbour.Neighbour.{Neighbour}
use Rattle.ct_state.specs.declared.work.OldMark.{OldMark}

-- that of an entry that was there before the walk
abbrev pub IsWithin : ℕ → OldMark → Type 0
IsWithin began old = old.place < began

-- with one more, last, if it is of such an entry
abbrev pub noted : ℕ → OldMark → List OldMark → List OldMark
noted began old marks = if nat_lt old.place began then marks ++ old ∷ [] else marks

-- a neighbour with the MAC that its port knew, if it knew one
abbrev pub known_as : Neighbour → Option ℕ → List Neighbour
known_as n None = []
known_as n (Some mac) = record n { mac = mac } ∷ []
