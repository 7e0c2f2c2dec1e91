use Rattle.std.proofs.Common.{◌≡◌, ◌++◌, length}
use Rattle.std.specs.List.{flat_map}
use Rattle.nb_model.specs.Network.{same}
use Rattle.std.specs.Prelude.{Some}
use Rattle.lr_units.specs.Words.{beside}
use Rattle.nd_router.specs.inner.Made.{neighbour_rows, rows_if_other}
use Rattle.nv_table.proofs.Through.{these_after}
use Rattle.nd_router.proofs.neighbours.put_beside.Given as goal

-- the rows so far, and then those of the ports that are left, are all
abbrev pub invariant-loop-other : goal.invariant-loop-other
invariant-loop-other l = l.rows ++ flat_map (rows_if_other l.records l.port l.peer) (these_after (λ x. x.id) (λ x. same l.peer.switch x.switch) l.last l.records.ports) ≡ l.fn.rows ++ flat_map (neighbour_rows l.records l.port) (beside l.records (Some l.peer))

abbrev pub decreases-loop-other : goal.decreases-loop-other
decreases-loop-other l = length (these_after (λ x. x.id) (λ x. same l.peer.switch x.switch) l.last l.records.ports)
