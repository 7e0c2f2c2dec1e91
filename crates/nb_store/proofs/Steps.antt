-- The steps of an edit, undone one after another.
use Rattle.std.proofs.Common.{◌≡◌, List, [], ◌∷◌, ◌++◌, refl, ap}
use Rattle.nb_model.specs.Network.{Network}
use Rattle.nb_store.specs.Undo.{undone, back_steps}
use Rattle.nb_store.specs.declared.step.Step.{Step}

-- the last step is undone first
pub back_last : (steps : List Step) (step : Step) (net : Network) → back_steps (steps ++ step ∷ []) net ≡ back_steps steps (undone step net)
back_last [] step net = refl
back_last (first ∷ steps) step net = ap (undone first) (back_last steps step net)
