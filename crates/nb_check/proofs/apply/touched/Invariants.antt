use Rattle.std.proofs.Common.{◌≡◌, ◌++◌, drop}
use Rattle.std.specs.List.{flat_map}
use Rattle.nb_store.specs.Touched.{touched}
use Rattle.nb_check.proofs.apply.touched.Given as goal

-- what is touched so far, and then those of the edits that are left, are all
abbrev pub invariant-loop-undo : goal.invariant-loop-undo
invariant-loop-undo l = l.touches.items ++ flat_map touched (drop l.undo-index l.undos) ≡ flat_map touched l.undos
