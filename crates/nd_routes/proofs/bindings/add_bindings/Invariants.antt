use Rattle.std.proofs.Common.{◌≡◌, ◌++◌, length}
use Rattle.std.specs.List.{flat_map}
use Rattle.nb_model.specs.Network.{same}
use Rattle.nd_routes.specs.inner.Bindings.{number_of, numbers_at}
use Rattle.nv_table.proofs.Through.{these_after}
use Rattle.nd_routes.proofs.bindings.add_bindings.Given as goal

-- the numbers so far, and then those of the bindings that are left, are all
abbrev pub invariant-loop-binding : goal.invariant-loop-binding
invariant-loop-binding l = l.keys.items ++ flat_map number_of (these_after (λ x. x.id) (λ x. same l.port x.port) l.last l.records.bindings) ≡ l.initial.keys.items ++ numbers_at l.records l.port

abbrev pub decreases-loop-binding : goal.decreases-loop-binding
decreases-loop-binding l = length (these_after (λ x. x.id) (λ x. same l.port x.port) l.last l.records.bindings)
