-- What packets leave for later ones: the connections that are tracked, and what routers' ports have learnt of their neighbours.
use Rattle.std.specs.Prelude.{List, []}
use Rattle.ct_core.specs.declared.entry.Entry.{Entry}
use Rattle.ct_core.specs.declared.neighbour.Neighbour.{Neighbour}

pub record State : Type 0 where
  pub conns : List Entry
  pub nbrs : List Neighbour

-- before the first packet
abbrev pub empty_state : State
empty_state = record { conns = []; nbrs = [] }

-- with other connections
abbrev pub with_conns : List Entry → State → State
with_conns conns state = record state { conns = conns }
