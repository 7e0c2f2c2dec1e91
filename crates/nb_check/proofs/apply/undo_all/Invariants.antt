use Rattle.std.proofs.Common.{◌≡◌, vec_len}
use Rattle.nb_check.specs.Undone.{back_all}
use Rattle.nb_check.proofs.apply.undo_all.Given as goal

abbrev pub invariant-loop-undo : goal.invariant-loop-undo
invariant-loop-undo l = back_all l.undos.items l.records ≡ back_all l.fn.undos.items l.fn.records

abbrev pub decreases-loop-undo : goal.decreases-loop-undo
decreases-loop-undo l = vec_len l.undos
