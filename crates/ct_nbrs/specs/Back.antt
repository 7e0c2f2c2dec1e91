-- Coming back from what was learnt.
use Rattle.std.specs.Prelude.{if◌then◌else◌, List, [], ◌∷◌}
use Rattle.ct_core.specs.declared.neighbour.Neighbour.{Neighbour}
use Rattle.ct_core.specs.Neighbours.{is_of}

-- with a neighbour as it was, in the place of what its port knows of the address, if it knows anything
abbrev pub put_back : Neighbour → List Neighbour → List Neighbour
put_back old [] = []
put_back old (n ∷ nbrs) = if is_of old.port old.addr n then old ∷ nbrs else n ∷ put_back old nbrs
