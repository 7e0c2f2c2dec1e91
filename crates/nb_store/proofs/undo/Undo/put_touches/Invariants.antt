use Rattle.std.proofs.Common.{◌≡◌, ◌++◌, drop}
use Rattle.std.specs.List.{filter_map}
use Rattle.nb_store.specs.Touched.{touched, touched_by}
use Rattle.nb_store.proofs.undo.Undo.put_touches.Given as goal

-- what is touched so far, and then those of the steps that are left, are all
abbrev pub invariant-loop-step : goal.invariant-loop-step
invariant-loop-step l = l.touches.items ++ filter_map touched_by (drop l.step-index l.self.steps.items) ≡ l.fn.touches.items ++ touched l.fn.self
