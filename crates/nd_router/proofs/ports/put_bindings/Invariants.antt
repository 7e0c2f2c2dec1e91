use Rattle.std.proofs.Common.{◌≡◌, ◌++◌, length}
use Rattle.std.specs.List.{flat_map}
use Rattle.nb_model.specs.Network.{same}
use Rattle.lr_units.specs.Units.{bindings_of}
use Rattle.nd_router.specs.inner.Made.{binding_rows}
use Rattle.nv_table.proofs.Through.{these_after}
use Rattle.nd_router.proofs.ports.put_bindings.Given as goal

-- the rows so far, and then those of the bindings that are left, are all
abbrev pub invariant-loop-binding : goal.invariant-loop-binding
invariant-loop-binding l = l.rows ++ flat_map (binding_rows l.port) (these_after (λ x. x.id) (λ x. same l.port.id x.port) l.last l.records.bindings) ≡ l.fn.rows ++ flat_map (binding_rows l.port) (bindings_of l.records l.port)

abbrev pub decreases-loop-binding : goal.decreases-loop-binding
decreases-loop-binding l = length (these_after (λ x. x.id) (λ x. same l.port.id x.port) l.last l.records.bindings)
