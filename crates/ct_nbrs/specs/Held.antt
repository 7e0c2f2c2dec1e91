-- A map from pairs of a port and an address to the MAC that the port knows, as the list of its neighbours.
use Rattle.std.specs.Prelude.{ℕ, List, map}
use Rattle.ct_core.specs.declared.neighbour.Neighbour.{Neighbour}
use Rattle.ct_nbrs.specs.declared.pair.Pair.{Pair}

-- the neighbour that an entry holds
abbrev pub neighbour_in : Pair × ℕ → Neighbour
neighbour_in e = record { port = e.0.port; addr = e.0.addr; mac = e.1 }

-- those that all entries hold
abbrev pub neighbours_of : List (Pair × ℕ) → List Neighbour
neighbours_of entries = map neighbour_in entries
