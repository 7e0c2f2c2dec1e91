-- The edits of a line, undone.
use Rattle.std.specs.Prelude.{List, [], ◌∷◌}
use Rattle.nb_model.specs.Network.{Network}
use Rattle.nb_store.specs.Undo.{back}
use Rattle.nb_store.specs.declared.undo.Undo.{Undo}
use Rattle.nb_check.specs.declared.line_undo.LineUndo.{LineUndo}

-- edits undone, the last one first
abbrev pub back_all : List Undo → Network → Network
back_all [] net = net
back_all (undo ∷ undos) net = back undo (back_all undos net)

-- a line taken back
abbrev pub taken_back : LineUndo → Network → Network
taken_back line net = back_all line.undos.items net
