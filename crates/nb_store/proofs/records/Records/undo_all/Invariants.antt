use Rattle.std.proofs.Common.{◌≡◌, vec_len}
use Rattle.nb_store.specs.Undo.{back_steps}
use Rattle.nb_store.proofs.records.Records.undo_all.Given as goal

abbrev pub invariant-loop-step : goal.invariant-loop-step
invariant-loop-step l = back_steps l.steps.items l.self ≡ back_steps l.fn.steps.items l.fn.self

abbrev pub decreases-loop-step : goal.decreases-loop-step
decreases-loop-step l = vec_len l.steps
