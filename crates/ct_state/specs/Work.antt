-- A state that packets change, and the one that it began with.
use Rattle.std.specs.Prelude.{ℕ, List, [], ◌∷◌, take}
use Rattle.ct_core.specs.declared.entry.Entry.{Entry}
use Rattle.ct_core.specs.Changes.{marked}
use Rattle.ct_core.specs.declared.neighbour.Neighbour.{Neighbour}
use Rattle.ct_core.specs.State.{State}
use Rattle.ct_nbrs.specs.Back.{put_back}
use Rattle.ct_state.specs.declared.work.OldMark.{OldMark}

-- a state with other neighbours
abbrev pub with_nbrs : List Neighbour → State → State
with_nbrs nbrs state = record state { nbrs = nbrs }

pub record Work : Type 0 where
  pub state : State
  pub back : State

-- connections with old marks, of which the last is given first
abbrev pub unmarked : List OldMark → List Entry → List Entry
unmarked [] conns = conns
unmarked (old ∷ marks) conns = marked old.place old.blocked (unmarked marks conns)

-- neighbours as they were, of which the last is put back first
abbrev pub unlearnt : List Neighbour → List Neighbour → List Neighbour
unlearnt [] nbrs = nbrs
unlearnt (old ∷ olds) nbrs = put_back old (unlearnt olds nbrs)

-- the state that it began with, by how many connections and neighbours there were then, and as those were that were marked or learnt anew
-- since
abbrev pub before : ℕ → ℕ → List OldMark → List Neighbour → State → State
before began known marks olds state = record { conns = unmarked marks (take began state.conns); nbrs = unlearnt olds (take known state.nbrs) }
