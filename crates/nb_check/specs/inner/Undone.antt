-- What edits touched.
use Rattle.std.specs.Prelude.{List, Contains}
use Rattle.std.specs.List.{flat_map}
use Rattle.nb_store.specs.Touched.{TouchesRise, touched}
use Rattle.nb_store.specs.declared.step.Touch.{Touch}
use Rattle.nb_store.specs.declared.undo.Undo.{Undo}

-- these touches are in order, and have those of the edits
pub record AreTouched (undos : List Undo) (touches : List Touch) : Type 0 where
  pub rise : TouchesRise touches
  pub all : (t : Touch) → Contains (flat_map touched undos) t → Contains touches t
